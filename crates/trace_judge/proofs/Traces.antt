-- The verdict on a trace is that on the first letters of the run's word.
use Rattle.std.proofs.Common.{◌≡◌, ◌∙◌, sym, subst, ℕ, List, [], ◌∷◌, length, map}
use Rattle.std.specs.List.{filter, range_with_len}
use Rattle.std.proofs.lemmas.List.FromFn.{length-map-range_with_len}
use Rattle.alternating_theory.proofs.Raised.{LessLetter}
use Rattle.netlist.specs.Design.{Design}
use Rattle.netlist.specs.Runs.{IsMade}
use Rattle.netlist.specs.Sound.{IsSound}
use Rattle.netlist.specs.declared.run.Run.{Run}
use Rattle.psl_tree.specs.Holds.{holds_among}
use Rattle.psl_tree.specs.Letters.{atom_at, atoms_of, letter_at}
use Rattle.psl_tree.specs.declared.atom.Atom.{Atom}
use Rattle.psl_tree.specs.declared.directive.Directive.{Directive}
use Rattle.psl_tree.specs.declared.letter.Letter.{Letter}
use Rattle.psl_tree.specs.declared.letter.Letter.TheVariants.{Holds}
use Rattle.psl_tree.specs.Trees.{Boolean}
use Rattle.trace.proofs.Letters.{letters-are}
use Rattle.trace.specs.Letters.{letters_over}
use Rattle.trace.specs.Trace.{count_of, trace_names, trace_sampled, valuation_in}
use Rattle.trace_judge.proofs.Agreeing.{AreLess, verdict-same}
use Rattle.trace_judge.proofs.Held.{held-same}
use Rattle.trace_judge.specs.Verdicts.{IsTraceVerdict}
use Rattle.vcd_reader.specs.declared.unknown.Unknown.TheVariants.{Zero}
use Rattle.vcd_reader.specs.Sampled.{bit_at, letters_of}
use Rattle.vcd_writer.specs.Lines.{letters_of as values_of}
use Rattle.wave_judge.specs.Judged.{IsVerdict}
use Rattle.wave_judge.specs.declared.verdict.Verdict.{Verdict}

less-held : (held others : List Atom) → ((test : Boolean) → holds_among held test ≡ holds_among others test) → LessLetter (Holds held) (Holds others)
less-held held others same test = (λ h. sym (same test) ∙ h, λ h. same test ∙ h)

less-each : (one two : ℕ → Letter) → ((place : ℕ) → LessLetter (one place) (two place)) → (places : List ℕ) → AreLess (map one places) (map two places)
less-each one two each [] = tt
less-each one two each (place ∷ places) = (each place, less-each one two each places)

pub trace-verdict : (design : Design) (run : Run) (loops : ℕ) (directive : Directive) (verdict : Verdict) → IsSound design → IsMade design run
    → IsVerdict (letters_of (trace_sampled Zero design run loops)) directive verdict → IsTraceVerdict design run loops directive verdict
trace-verdict design run loops directive verdict sound is judged =
    let recording = trace_sampled Zero design run loops in
    let bits = bit_at recording in
    let places = range_with_len 0 (length recording.samples) in
    let declared = letter_at bits (trace_names design) in
    let all = letter_at bits design.names in
    subst (λ (letters : List Letter). IsVerdict letters directive verdict) (letters-are design run loops sound is)
    (verdict-same (letters_of recording) (letters_over design.names recording)
    (less-each declared all (λ place. less-held (filter (atom_at bits place) (atoms_of (trace_names design))) (filter (atom_at bits place) (atoms_of design.names)) (held-same design sound bits place)) places)
    (less-each all declared (λ place. less-held (filter (atom_at bits place) (atoms_of design.names)) (filter (atom_at bits place) (atoms_of (trace_names design))) (λ test. sym (held-same design sound bits place test))) places)
    directive verdict judged)

pub samples-are : (design : Design) (run : Run) (loops : ℕ) → length (trace_sampled Zero design run loops).samples ≡ count_of run loops
samples-are design run loops = length-map-range_with_len (λ (n : ℕ). values_of (valuation_in run n)) 0 (count_of run loops)
