use Rattle.std.proofs.Common.{◌≡◌, ◌⊎◌, ◌∙◌, None, Some, All, ap, drop, map, sym, subst, slice_index_or}
use Rattle.std.specs.Prelude.{IfOk, IfErr, OnOk}
use Rattle.blif_model.specs.declared.fault.BlifFault.TheVariants.{NoMemory}
use Rattle.blif_model.specs.declared.file.FileCommand.TheVariants.{Own}
use Rattle.blif_model.specs.FileKnown.{FileKnown, file_command_fault_in, file_fault_in, file_known_after, file_known_by, known_own, spans_of}
use Rattle.blif_model.specs.Files.{file_command_of}
use Rattle.blif_model.specs.Known.{command_fault_in}
use Rattle.blif_model.specs.Scanning.{IsWithin, word_of}
use Rattle.blif_model.specs.Standing.{words_of}
use Rattle.blif_model.proofs.Keeping.{head-map, head-within, rest-is, spans-map, spans-within, tail-within}
use Rattle.blif_model.proofs.file_reader.FileReader.take.Goals as goal

pub say-requires : goal.say-requires
say-requires c =
    let whole = c.args.self.own.named.whole in
    let words = c.args.words.now in
    let some = c.in-len1-up.len_at_least in
    record {
      head = head-within whole words (record { at = 0; len = 0 }) some c.requires;
      words =
          subst (All (IsWithin whole)) (sym (c.spans_of.ensures ∙ ap (λ rest. spans_of c.in-Own.command words rest) (rest-is words some)))
          (spans-within whole c.in-Own.command words (drop 1 words) c.requires (tail-within whole words c.requires));
    }

-- the words of a line of the model that is read
words-are : (c : goal.After-say) → map (word_of c.args.self.own.named.whole) c.spans_of.result.now
    ≡ words_of c.in-Own.command (word_of c.args.self.own.named.whole (slice_index_or c.args.words.now 0 (record { at = 0; len = 0 })))
    (map (word_of c.args.self.own.named.whole) (drop 1 c.args.words.now))
words-are c =
    let f = word_of c.args.self.own.named.whole in
    let words = c.args.words.now in
    let some = c.in-len1-up.len_at_least in
    ap (map f) (c.spans_of.ensures ∙ ap (λ rest. spans_of c.in-Own.command words rest) (rest-is words some))
    ∙ spans-map f c.in-Own.command words (drop 1 words) (f (slice_index_or words 0 (record { at = 0; len = 0 })))
    (head-map f words (record { at = 0; len = 0 }) some)

command-is : (c : goal.After-say) → file_command_of (word_of c.args.self.own.named.whole (slice_index_or c.args.words.now 0 (record { at = 0; len = 0 }))).text ≡ Own c.in-Own.command
command-is c =
    let word = slice_index_or c.args.words.now 0 (record { at = 0; len = 0 }) in
    let whole : c.whole.result.now ≡ c.args.self.own.named.whole = c.whole.ensures.is ∙ ap (λ (file : FileKnown). file.own.named.whole) c.self.view_is in
    sym (c.file_command_of.ensures ∙ ap file_command_of (c.text_of.ensures ∙ ap (λ w. (word_of w word).text) whole)) ∙ c.in-Own.is

pub returns-in-Own : goal.returns-in-Own
returns-in-Own c =
    let file = c.args.self in
    let f = word_of file.own.named.whole in
    let words = c.args.words.now in
    let word = slice_index_or words 0 (record { at = 0; len = 0 }) in
    let rest = map f (drop 1 words) in
    let command = c.in-Own.command in
    let line = head-map f words (record { at = 0; len = 0 }) c.in-len1-up.len_at_least in
    let known : known_own file command (map f c.spans_of.result.now) ≡ file_known_after file (map f words) =
    ap (known_own file command) (words-are c)
    ∙ ap (λ said. file_known_by file said (f word) rest) (sym (command-is c)) ∙ ap (file_known_after file) (sym line) in
    let fault : command_fault_in file.own command (f word) (map f c.spans_of.result.now) ≡ file_fault_in file (map f words) =
    ap (command_fault_in file.own command (f word)) (words-are c)
    ∙ ap (λ said. file_command_fault_in file said (f word) rest) (sym (command-is c)) ∙ ap (file_fault_in file) (sym line) in
    record {
      known = subst (λ after. IfOk c.say.result (λ new. new ≡ after)) known c.say.ensures.known;
      faultless = subst (λ found. OnOk c.say.result (found ≡ None)) fault c.say.ensures.faultless;
      fault = subst (λ found. IfErr c.say.result (λ failed. (failed ≡ NoMemory) ⊎ (found ≡ Some failed))) fault c.say.ensures.fault;
    }
