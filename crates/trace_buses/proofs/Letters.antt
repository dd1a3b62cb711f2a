-- The letters of a recording that follows a run are the first ones of the run's word.
use Rattle.std.proofs.Common.{◌≡◌, ◌∙◌, refl, sym, ap, ℕ, zero, suc, ◌+◌, ◌-◌, ◌<◌, ◌≤◌, Bool, List, [], ◌∷◌, ◌++◌, length, map, arith}
use Rattle.std.specs.Prelude.{All, cond, filter}
use Rattle.std.specs.List.{flat_map, range_with_len}
use Rattle.std.proofs.lemmas.List.{append-nil}
use Rattle.std.proofs.lemmas.List.Elements.{All-head, All-tail, filter-append}
use Rattle.std.proofs.lemmas.List.FromFn.{length-map-range_with_len}
use Rattle.netlist.specs.Design.{Design}
use Rattle.netlist.specs.Runs.{IsMade, word}
use Rattle.netlist.specs.Sound.{IsSound, NamesBit}
use Rattle.netlist.specs.declared.run.Run.{Run}
use Rattle.psl_tree.specs.Letters.{Bits, atom_at, atoms_of, atoms_of_bit, atoms_of_name, edge_at, letter_at}
use Rattle.psl_tree.specs.Names.{indices}
use Rattle.psl_tree.specs.Trace.{first, trace_of}
use Rattle.psl_tree.specs.declared.atom.Atom.{Atom}
use Rattle.psl_tree.specs.declared.atom.Edge.{Edge}
use Rattle.psl_tree.specs.declared.atom.Edge.TheVariants.{Value, Rise, Fall}
use Rattle.psl_tree.specs.declared.letter.Letter.{Letter}
use Rattle.psl_tree.specs.declared.letter.Letter.TheVariants.{Holds}
use Rattle.psl_tree.specs.declared.name.Name.{Name}
use Rattle.replay.proofs.Paths.{Follows}
use Rattle.replay.specs.Recorded.{value_of}
use Rattle.trace.proofs.Letters.{letters-are, trace-bit}
use Rattle.trace.specs.Trace.{count_of, trace_sampled, valuation_in}
use Rattle.trace_buses.specs.Letters.{found_bit, letters_found}
use Rattle.vcd_reader.specs.Sampled.{Sampled, bit_at}
use Rattle.vcd_reader.specs.declared.unknown.Unknown.TheVariants.{Zero}
use Rattle.vcd_writer.specs.Lines.{letters_of}

-- ---- bits that agree at some samples

-- bits of some signals of one bit agree at a sample and before it
record Agree (one two : Bits) (sample signals : ℕ) : Type 0 where
  now : (signal : ℕ) → signal < signals → one sample signal 0 ≡ two sample signal 0
  before : (signal : ℕ) → signal < signals → one (sample - 1) signal 0 ≡ two (sample - 1) signal 0

edge-same : (edge : Edge) (one two : Bits) (sample signals signal : ℕ) → signal < signals → Agree one two sample signals → edge_at edge one sample signal 0 ≡ edge_at edge two sample signal 0
edge-same Value one two sample signals signal within agree = agree.now signal within
edge-same Rise one two sample signals signal within agree = rw (agree.now signal within, agree.before signal within) refl
edge-same Fall one two sample signals signal within agree = rw (agree.now signal within, agree.before signal within) refl

with-atom : (one two : Atom → Bool) (atom : Atom) (rest others : List Atom) → one atom ≡ two atom → rest ≡ others → cond (one atom) (atom ∷ rest) rest ≡ cond (two atom) (atom ∷ others) others
with-atom one two atom rest others same more = ap (λ (b : Bool). cond b (atom ∷ rest) rest) same ∙ ap (λ (r : List Atom). cond (two atom) (atom ∷ r) r) more

bits-same : (one two : Bits) (sample signals signal : ℕ) → signal < signals → Agree one two sample signals → filter (atom_at one sample) (atoms_of_bit signal 0) ≡ filter (atom_at two sample) (atoms_of_bit signal 0)
bits-same one two sample signals signal within agree =
    let p = atom_at one sample in
    let q = atom_at two sample in
    let value : Atom = record { signal = signal; bit = 0; edge = Value } in
    let rise : Atom = record { signal = signal; bit = 0; edge = Rise } in
    let fall : Atom = record { signal = signal; bit = 0; edge = Fall } in
    with-atom p q value (filter p (rise ∷ fall ∷ [])) (filter q (rise ∷ fall ∷ [])) (edge-same Value one two sample signals signal within agree)
    (with-atom p q rise (filter p (fall ∷ [])) (filter q (fall ∷ [])) (edge-same Rise one two sample signals signal within agree)
    (with-atom p q fall [] [] (edge-same Fall one two sample signals signal within agree) refl))

atoms-of : (signals : ℕ) (name : Name) → NamesBit signals name → atoms_of_name name ≡ atoms_of_bit name.signal 0
atoms-of signals name names =
    let one : indices name ≡ 1 = rw (names.left, names.right) refl in
    ap (λ (n : ℕ). flat_map (atoms_of_bit name.signal) (range_with_len 0 n)) one ∙ append-nil (atoms_of_bit name.signal 0)

names-same : (one two : Bits) (sample signals : ℕ) (names : List Name) → All (NamesBit signals) names → Agree one two sample signals
    → filter (atom_at one sample) (atoms_of names) ≡ filter (atom_at two sample) (atoms_of names)
names-same one two sample signals [] bits agree = refl
names-same one two sample signals (name ∷ names) bits agree =
    let here = All-head (NamesBit signals) name names bits in
    let atoms = atoms-of signals name here in
    filter-append (atom_at one sample) (atoms_of_name name) (atoms_of names)
    ∙ ap (λ (front : List Atom). front ++ filter (atom_at one sample) (atoms_of names))
    (ap (filter (atom_at one sample)) atoms ∙ bits-same one two sample signals name.signal here.signal agree ∙ ap (filter (atom_at two sample)) (sym atoms))
    ∙ ap (λ (back : List Atom). filter (atom_at two sample) (atoms_of_name name) ++ back) (names-same one two sample signals names (All-tail (NamesBit signals) name names bits) agree)
    ∙ sym (filter-append (atom_at two sample) (atoms_of_name name) (atoms_of names))

-- ---- all letters

letters-same : (design : Design) (one two : Bits) (whole first count : ℕ) → IsSound design → ((sample signal : ℕ) → sample < whole → signal < design.signals → one sample signal 0 ≡ two sample signal 0)
    → first + count ≤ whole → map (letter_at one design.names) (range_with_len first count) ≡ map (letter_at two design.names) (range_with_len first count)
letters-same design one two whole first zero sound same within = refl
letters-same design one two whole first (suc count) sound same within =
    let agree : Agree one two first design.signals = record {
      now = λ signal below. same first signal (omega (arith, within)) below;
      before = λ signal below. same (first - 1) signal (omega (arith, within)) below;
    } in
    ap (λ (atoms : List Atom). Holds atoms ∷ map (letter_at one design.names) (range_with_len (first + 1) count)) (names-same one two first design.signals design.names sound.names agree)
    ∙ ap (λ (rest : List Letter). letter_at two design.names first ∷ rest) (letters-same design one two whole (first + 1) count sound same (omega (arith, within)))

pub letters-follow : (design : Design) (run : Run) (loops : ℕ) (recording : Sampled) → IsSound design → IsMade design run → Follows design run loops recording
    → letters_found design recording ≡ first (count_of run loops) (trace_of (word design run))
letters-follow design run loops recording sound is follows =
    let trace = trace_sampled Zero design run loops in
    let count : length trace.samples ≡ count_of run loops = length-map-range_with_len (λ (n : ℕ). letters_of (valuation_in run n)) 0 (count_of run loops) in
    ap (λ (n : ℕ). map (letter_at (found_bit design recording) design.names) (range_with_len 0 n)) follows.count
    ∙ letters-same design (found_bit design recording) (bit_at trace) (count_of run loops) 0 (count_of run loops) sound
    (λ sample signal here below. (let found = follows.each signal below in ap (value_of recording sample) found.1 ∙ found.2 sample here ∙ sym (trace-bit design run loops sample signal here))) (omega arith)
    ∙ ap (λ (n : ℕ). map (letter_at (bit_at trace) design.names) (range_with_len 0 n)) (sym count)
    ∙ letters-are design run loops sound is
