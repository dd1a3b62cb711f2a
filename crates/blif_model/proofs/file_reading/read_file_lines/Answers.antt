use Rattle.std.proofs.Common.{◌≡◌, [], ◌∷◌, map, None, sym, ap, ◌∙◌, subst}
use Rattle.blif_model.specs.FileKnown.{file_fault_in, file_known_after}
use Rattle.blif_model.specs.Lines.{lines_from}
use Rattle.blif_model.specs.Scanning.{IsTaken, word_of}
use Rattle.blif_model.proofs.FileRunning.{file-line-taken}
use Rattle.blif_model.proofs.FileWhole.{file-whole}
use Rattle.blif_model.proofs.file_reading.read_file_lines.Goals as goal

pub loop-reader-preserved : goal.loop-reader-preserved
loop-reader-preserved c =
    let known = c.loop-reader.reader in
    let spans = c.next_line.new.words.items in
    let words = map (word_of c.args.whole.now) spans in
    let after = lines_from [] c.next_line.new.self.pieces in
    let before : lines_from [] c.loop-reader.pieces.pieces ≡ record { words = words; stray = None } ∷ after =
    subst (λ t. IsTaken t c.loop-reader.pieces.whole spans c.loop-reader.pieces.pieces c.next_line.new.self.pieces) c.in-Line.is c.in_ok-next_line.ensures.taken
    ∙ ap (λ w. record { words = map (word_of w) spans; stray = None } ∷ after) c.loop-reader.invariant.whole in
    let same : map (word_of known.own.named.whole) c.deref.result.now ≡ words =
    ap (λ list. map (word_of known.own.named.whole) list) c.deref.ensures.value ∙ ap (λ w. map (word_of w) spans) c.loop-reader.invariant.same_whole in
    let is : c.in_ok-reader-in-Line.reader ≡ file_known_after known words = c.in_ok-reader-in-Line.ensures.known ∙ ap (file_known_after known) same in
    let none : file_fault_in known words ≡ None = sym (ap (file_fault_in known) same) ∙ c.in_ok-reader-in-Line.ensures.faultless in
    record {
      whole = c.next_line.ensures.whole ∙ c.loop-reader.invariant.whole;
      same_whole = ap (λ k. k.own.named.whole) is ∙ file-whole known words ∙ c.loop-reader.invariant.same_whole;
      left = c.loop-reader.invariant.left ∙ file-line-taken known c.in_ok-reader-in-Line.reader words (lines_from [] c.loop-reader.pieces.pieces) after before none is;
    }
