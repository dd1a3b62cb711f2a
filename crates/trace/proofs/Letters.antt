-- The letters of a trace over the names of the netlist are the first ones of the run's word.
use Rattle.std.proofs.Common.{◌≡◌, ◌∙◌, refl, sym, ap, ℕ, zero, suc, ◌+◌, ◌-◌, ◌*◌, ◌/◌, ◌%◌, ◌<◌, Bool, true, false, List, [], ◌∷◌, ◌++◌, length, length-append, map, take, Option, None, Some, arith, inl, inr}
use Rattle.std.specs.Prelude.{All, cond, filter, nat_lt, slice_get, slice_index_or}
use Rattle.std.specs.List.{flat_map, range_with_len}
use Rattle.std.proofs.lemmas.Bool.{cases_lt, cond-true, cond-false, le-ltb, lt-ltb}
use Rattle.std.proofs.lemmas.List.{append-nil, get_or_append_left, get_or-append-add}
use Rattle.std.proofs.lemmas.List.Elements.{All-head, All-tail, filter-append}
use Rattle.std.proofs.lemmas.List.FromFn.{get_or-map-range_with_len, length-map-range_with_len}
use Rattle.std.proofs.lemmas.Nat.{mod-mul-add, mod_below}
use Rattle.std.proofs.Math.Nat.{div-add-mod}
use Rattle.std.proofs.lemmas.Option.{slice_get-get_or}
use Rattle.netlist.specs.Design.{Design}
use Rattle.netlist.specs.Runs.{IsMade, bits_of, valuation_at, word}
use Rattle.netlist.specs.Sound.{IsSound, NamesBit}
use Rattle.netlist.specs.Valuations.{bit}
use Rattle.netlist.specs.declared.run.Run.{Run}
use Rattle.psl_tree.specs.Trace.{Trace, first, joined, suffix, trace_of}
use Rattle.psl_tree.specs.Letters.{Bits, atom_at, atoms_of, atoms_of_bit, atoms_of_name, edge_at, letter_at}
use Rattle.psl_tree.specs.Names.{indices}
use Rattle.psl_tree.specs.declared.atom.Atom.{Atom}
use Rattle.psl_tree.specs.declared.atom.Edge.{Edge}
use Rattle.psl_tree.specs.declared.atom.Edge.TheVariants.{Value, Rise, Fall}
use Rattle.psl_tree.specs.declared.letter.Letter.{Letter}
use Rattle.psl_tree.specs.declared.letter.Letter.TheVariants.{Holds}
use Rattle.psl_tree.specs.declared.name.Name.{Name}
use Rattle.trace.proofs.ForEver.{in-loop, in-stem}
use Rattle.trace.specs.Letters.{letters_over}
use Rattle.trace.specs.Trace.{count_of, trace_sampled, valuation_in}
use Rattle.vcd_reader.specs.declared.unknown.Unknown.TheVariants.{Zero}
use Rattle.vcd_reader.specs.Sampled.{bit_at, bit_of}
use Rattle.vcd_writer.specs.Lines.{letters_of}

-- ---- the places of a run for ever, and those of its word

at-stem : (run : Run) (place : ℕ) → place < length run.stem → valuation_at run place ≡ slice_index_or run.stem place []
at-stem run place within =
    let longer = length-append run.stem run.loop_part in
    get_or_append_left (run.stem ++ run.loop_part) (take 1 run.loop_part) [] place (omega (arith, longer, within))
    ∙ get_or_append_left run.stem run.loop_part [] place within

at-loop : (run : Run) (place : ℕ) → place < length run.loop_part → valuation_at run (length run.stem + place) ≡ slice_index_or run.loop_part place []
at-loop run place within =
    let longer = length-append run.stem run.loop_part in
    get_or_append_left (run.stem ++ run.loop_part) (take 1 run.loop_part) [] (length run.stem + place) (omega (arith, longer, within))
    ∙ get_or-append-add run.stem run.loop_part place []

-- behind the last valuation the loop begins again
first-of : (loop : List (List Bool)) → 0 < length loop → slice_index_or (take 1 loop) 0 [] ≡ slice_index_or loop 0 []
first-of [] some = absurd (omega arith)
first-of (v ∷ vs) some = refl

at-end : (run : Run) → 0 < length run.loop_part → valuation_at run (length run.stem + length run.loop_part) ≡ slice_index_or run.loop_part 0 []
at-end run loops =
    ap (λ (n : ℕ). slice_index_or ((run.stem ++ run.loop_part) ++ take 1 run.loop_part) n []) (let e : length run.stem + length run.loop_part ≡ length (run.stem ++ run.loop_part) + 0 = omega (arith, length-append run.stem run.loop_part) in e)
    ∙ get_or-append-add (run.stem ++ run.loop_part) (take 1 run.loop_part) 0 [] ∙ first-of run.loop_part loops

-- the first valuations of the run are those of its stem and of its loop
pub early : (run : Run) (place : ℕ) → place < length run.stem + length run.loop_part → valuation_in run place ≡ valuation_at run place
early run place within = elim (cases_lt place (length run.stem)) [
  | inl low ↦ in-stem run place low ∙ sym (at-stem run place low)
  | inr high ↦
      let gap = place - length run.stem in
      let inside : gap < length run.loop_part = omega (arith, within, high) in
      let whole : 0 * length run.loop_part + gap ≡ gap = omega arith in
      in-loop run place high
      ∙ ap (λ (n : ℕ). slice_index_or run.loop_part n []) (ap (λ (n : ℕ). n % length run.loop_part) (sym whole) ∙ mod-mul-add 0 (length run.loop_part) gap inside)
      ∙ sym (at-loop run gap inside)
      ∙ ap (valuation_at run) (let e : length run.stem + gap ≡ place = omega (arith, high) in e)
]

-- so many places behind the loop's first, and the place of the word's loop that has the letter there
abbrev pub turned : Run → ℕ → ℕ
turned run place = place % length run.loop_part

pub around : (run : Run) (place : ℕ) → 0 < length run.loop_part → valuation_in run (length run.stem + place) ≡ valuation_at run (length run.stem + turned run place)
around run place loops =
    in-loop run (length run.stem + place) (omega arith)
    ∙ ap (λ (n : ℕ). slice_index_or run.loop_part (n % length run.loop_part) []) (let e : length run.stem + place - length run.stem ≡ place = omega arith in e)
    ∙ sym (at-loop run (turned run place) (mod_below place (length run.loop_part) loops))

pub around-next : (run : Run) (place : ℕ) → 0 < length run.loop_part → valuation_in run (length run.stem + (place + 1)) ≡ valuation_at run (length run.stem + (turned run place + 1))
around-next run place loops =
    let count = length run.loop_part in
    let parts = div-add-mod place count in
    let low = mod_below place count loops in
    around run (place + 1) loops
    ∙ elim (cases_lt (turned run place + 1) count) as (λ _. valuation_at run (length run.stem + turned run (place + 1)) ≡ valuation_at run (length run.stem + (turned run place + 1))) [
      | inl inside ↦
          let same : place + 1 ≡ place / count * count + (place % count + 1) = omega (arith, parts) in
          ap (λ (n : ℕ). valuation_at run (length run.stem + n)) (ap (λ (n : ℕ). n % count) same ∙ mod-mul-add (place / count) count (place % count + 1) inside)
      | inr last ↦
          let same : place + 1 ≡ (place / count + 1) * count + 0 = omega (arith, parts, last, low) in
          let ends : turned run place + 1 ≡ count = omega (arith, last, low) in
          ap (λ (n : ℕ). valuation_at run (length run.stem + n)) (ap (λ (n : ℕ). n % count) same ∙ mod-mul-add (place / count + 1) count 0 loops)
          ∙ at-loop run 0 loops ∙ sym (at-end run loops)
          ∙ ap (λ (n : ℕ). valuation_at run (length run.stem + n)) (sym ends)
    ]

-- ---- letters of bits that agree

-- bits of signals of one bit agree at two places and before them, and both are the first or none is
record Agree (one two : Bits) (here there : ℕ) : Type 0 where
  begins : nat_lt 0 here ≡ nat_lt 0 there
  now : (signal : ℕ) → one here signal 0 ≡ two there signal 0
  before : (signal : ℕ) → one (here - 1) signal 0 ≡ two (there - 1) signal 0

edge-same : (edge : Edge) (one two : Bits) (here there signal : ℕ) → Agree one two here there → edge_at edge one here signal 0 ≡ edge_at edge two there signal 0
edge-same Value one two here there signal agree = agree.now signal
edge-same Rise one two here there signal agree = rw (agree.begins, agree.now signal, agree.before signal) refl
edge-same Fall one two here there signal agree = rw (agree.begins, agree.now signal, agree.before signal) refl

-- two tests agree at each atom
AgreeOn : (Atom → Bool) → (Atom → Bool) → List Atom → Type 0
AgreeOn one two [] = Unit {0}
AgreeOn one two (atom ∷ atoms) = (one atom ≡ two atom) × AgreeOn one two atoms

filter-same : (one two : Atom → Bool) (atoms : List Atom) → AgreeOn one two atoms → filter one atoms ≡ filter two atoms
unfolding AgreeOn
filter-same one two [] agree = refl
filter-same one two (atom ∷ atoms) agree =
    ap (λ (b : Bool). cond b (atom ∷ filter one atoms) (filter one atoms)) agree.0
    ∙ ap (λ (rest : List Atom). cond (two atom) (atom ∷ rest) rest) (filter-same one two atoms agree.1)

bits-same : (one two : Bits) (here there signal : ℕ) → Agree one two here there → filter (atom_at one here) (atoms_of_bit signal 0) ≡ filter (atom_at two there) (atoms_of_bit signal 0)
unfolding AgreeOn
bits-same one two here there signal agree =
    filter-same (atom_at one here) (atom_at two there) (atoms_of_bit signal 0)
    (edge-same Value one two here there signal agree, (edge-same Rise one two here there signal agree, (edge-same Fall one two here there signal agree, tt)))

atoms-of : (signals : ℕ) (name : Name) → NamesBit signals name → atoms_of_name name ≡ atoms_of_bit name.signal 0
atoms-of signals name names =
    let one : indices name ≡ 1 = rw (names.left, names.right) refl in
    ap (λ (n : ℕ). flat_map (atoms_of_bit name.signal) (range_with_len 0 n)) one ∙ append-nil (atoms_of_bit name.signal 0)

names-same : (one two : Bits) (here there signals : ℕ) (names : List Name) → All (NamesBit signals) names → Agree one two here there
    → filter (atom_at one here) (atoms_of names) ≡ filter (atom_at two there) (atoms_of names)
names-same one two here there signals [] bits agree = refl
names-same one two here there signals (name ∷ names) bits agree =
    let atoms = atoms-of signals name (All-head (NamesBit signals) name names bits) in
    filter-append (atom_at one here) (atoms_of_name name) (atoms_of names)
    ∙ ap (λ (front : List Atom). front ++ filter (atom_at one here) (atoms_of names))
    (ap (filter (atom_at one here)) atoms ∙ bits-same one two here there name.signal agree ∙ ap (filter (atom_at two there)) (sym atoms))
    ∙ ap (λ (back : List Atom). filter (atom_at two there) (atoms_of_name name) ++ back) (names-same one two here there signals names (All-tail (NamesBit signals) name names bits) agree)
    ∙ sym (filter-append (atom_at two there) (atoms_of_name name) (atoms_of names))

letters-same : (design : Design) → IsSound design → (one two : Bits) (here there : ℕ) → Agree one two here there → letter_at one design.names here ≡ letter_at two design.names there
letters-same design sound one two here there agree = ap (λ (atoms : List Atom). Holds atoms) (names-same one two here there design.signals design.names sound.names agree)

-- ---- the bits of a trace

value-bit : (values : List Bool) (signal : ℕ) → bit_of Zero (slice_index_or (letters_of values) signal None) 0 ≡ slice_index_or values signal false
value-bit [] signal = refl
value-bit (false ∷ values) zero = refl
value-bit (true ∷ values) zero = refl
value-bit (value ∷ values) (suc signal) = value-bit values signal

pub trace-bit : (design : Design) (run : Run) (loops sample signal : ℕ) → sample < count_of run loops → bit_at (trace_sampled Zero design run loops) sample signal 0 ≡ bit (valuation_in run sample) signal
trace-bit design run loops sample signal within =
    ap (λ (row : List (Option (List ℕ))). bit_of Zero (slice_index_or row signal None) 0)
    (get_or-map-range_with_len (λ (n : ℕ). letters_of (valuation_in run n)) 0 (count_of run loops) sample sample [] within (omega arith))
    ∙ value-bit (valuation_in run sample) signal

-- ---- the letters of a word

letter-in : (names : List Name) (bits : Bits) (first count place : ℕ) → place < count
    → slice_get (map (letter_at bits names) (range_with_len first count)) place ≡ Some (letter_at bits names (first + place))
letter-in names bits first count place within =
    let all = map (letter_at bits names) (range_with_len first count) in
    let long : place < length all = omega (arith, within, length-map-range_with_len (letter_at bits names) first count) in
    slice_get-get_or all place (letter_at bits names (first + place)) long
    ∙ ap (λ (l : Letter). Some l) (get_or-map-range_with_len (letter_at bits names) first count place (first + place) (letter_at bits names (first + place)) within refl)

-- up to the loop's first place the word has the letters of its stem
word-stem : (design : Design) (run : Run) (place : ℕ) → place < suc (length run.stem) → trace_of (word design run) place ≡ Some (letter_at (bits_of run) design.names place)
word-stem design run place within =
    let count : length (word design run).stem ≡ suc (length run.stem) = length-map-range_with_len (letter_at (bits_of run) design.names) 0 (suc (length run.stem)) in
    cond-true (nat_lt place (length (word design run).stem)) _ _ (lt-ltb place (length (word design run).stem) (omega (arith, within, count)))
    ∙ letter-in design.names (bits_of run) 0 (suc (length run.stem)) place within
    ∙ ap (λ (n : ℕ). Some (letter_at (bits_of run) design.names n)) (let e : 0 + place ≡ place = omega arith in e)

-- and then those of its loop
word-loop : (design : Design) (run : Run) (place : ℕ) → 0 < length run.loop_part
    → trace_of (word design run) (suc (length run.stem) + place) ≡ Some (letter_at (bits_of run) design.names (suc (length run.stem) + turned run place))
word-loop design run place loops =
    let stem : length (word design run).stem ≡ suc (length run.stem) = length-map-range_with_len (letter_at (bits_of run) design.names) 0 (suc (length run.stem)) in
    let looped : length (word design run).looped ≡ length run.loop_part = length-map-range_with_len (letter_at (bits_of run) design.names) (suc (length run.stem)) (length run.loop_part) in
    let gap : suc (length run.stem) + place - length (word design run).stem ≡ place = omega (arith, stem) in
    cond-false (nat_lt (suc (length run.stem) + place) (length (word design run).stem)) _ _ (le-ltb (suc (length run.stem) + place) (length (word design run).stem) (omega (arith, stem)))
    ∙ ap (slice_get (word design run).looped) (ap (λ (n : ℕ). n % length (word design run).looped) gap ∙ ap (λ (n : ℕ). place % n) looped)
    ∙ letter-in design.names (bits_of run) (suc (length run.stem)) (length run.loop_part) (turned run place) (mod_below place (length run.loop_part) loops)

-- ---- each letter of a trace

abbrev trace_bits : Design → Run → ℕ → Bits
trace_bits design run loops = bit_at (trace_sampled Zero design run loops)

agree-stem : (design : Design) (run : Run) (loops place : ℕ) → 0 < length run.loop_part → place < suc (length run.stem) → place < count_of run loops
    → Agree (trace_bits design run loops) (bits_of run) place place
agree-stem design run loops place looped within here = record {
  begins = refl;
  now = λ signal. trace-bit design run loops place signal here ∙ ap (λ (v : List Bool). bit v signal) (early run place (omega (arith, within, looped)));
  before = λ signal. trace-bit design run loops (place - 1) signal (omega (arith, here)) ∙ ap (λ (v : List Bool). bit v signal) (early run (place - 1) (omega (arith, within, looped)));
}

agree-loop : (design : Design) (run : Run) (loops place : ℕ) → 0 < length run.loop_part → suc (length run.stem) + place < count_of run loops
    → Agree (trace_bits design run loops) (bits_of run) (suc (length run.stem) + place) (suc (length run.stem) + turned run place)
agree-loop design run loops place looped here =
    let now_here : suc (length run.stem) + place ≡ length run.stem + (place + 1) = omega arith in
    let now_there : length run.stem + (turned run place + 1) ≡ suc (length run.stem) + turned run place = omega arith in
    let before_here : suc (length run.stem) + place - 1 ≡ length run.stem + place = omega arith in
    let before_there : length run.stem + turned run place ≡ suc (length run.stem) + turned run place - 1 = omega arith in
    record {
      begins = lt-ltb 0 (suc (length run.stem) + place) (omega arith) ∙ sym (lt-ltb 0 (suc (length run.stem) + turned run place) (omega arith));
      now = λ signal. trace-bit design run loops (suc (length run.stem) + place) signal here
          ∙ ap (λ (v : List Bool). bit v signal) (ap (valuation_in run) now_here ∙ around-next run place looped ∙ ap (valuation_at run) now_there);
      before = λ signal. trace-bit design run loops (suc (length run.stem) + place - 1) signal (omega (arith, here))
          ∙ ap (λ (v : List Bool). bit v signal) (ap (valuation_in run) before_here ∙ around run place looped ∙ ap (valuation_at run) before_there);
    }

each-letter : (design : Design) (run : Run) (loops place : ℕ) → IsSound design → 0 < length run.loop_part → place < count_of run loops
    → trace_of (word design run) place ≡ Some (letter_at (trace_bits design run loops) design.names place)
each-letter design run loops place sound looped here = elim (cases_lt place (suc (length run.stem))) [
  | inl within ↦
      word-stem design run place within
      ∙ ap (λ (l : Letter). Some l) (sym (letters-same design sound (trace_bits design run loops) (bits_of run) place place (agree-stem design run loops place looped within here)))
  | inr past ↦
      let gap = place - suc (length run.stem) in
      let there : suc (length run.stem) + gap ≡ place = omega (arith, past) in
      ap (trace_of (word design run)) (sym there)
      ∙ word-loop design run gap looped
      ∙ ap (λ (l : Letter). Some l) (sym (letters-same design sound (trace_bits design run loops) (bits_of run) (suc (length run.stem) + gap) (suc (length run.stem) + turned run gap)
      (agree-loop design run loops gap looped (omega (arith, there, here)))))
      ∙ ap (λ (n : ℕ). Some (letter_at (trace_bits design run loops) design.names n)) there
]

-- ---- all of them

firsts : (trace : Trace) (letter : ℕ → Letter) (start count : ℕ) → ((place : ℕ) → place < count → trace place ≡ Some (letter (start + place))) → first count trace ≡ map letter (range_with_len start count)
firsts trace letter start zero each = refl
firsts trace letter start (suc count) each =
    ap (λ (o : Option Letter). joined o (first count (suffix trace 1))) (each 0 (omega arith) ∙ ap (λ (n : ℕ). Some (letter n)) (let e : start + 0 ≡ start = omega arith in e))
    ∙ ap (λ (rest : List Letter). letter start ∷ rest) (firsts (suffix trace 1) letter (start + 1) count (λ place within.
    ap trace (let e : 1 + place ≡ suc place = omega arith in e) ∙ each (suc place) (omega (arith, within)) ∙ ap (λ (n : ℕ). Some (letter n)) (let e : start + suc place ≡ start + 1 + place = omega arith in e)))

pub letters-are : (design : Design) (run : Run) (loops : ℕ) → IsSound design → IsMade design run
    → letters_over design.names (trace_sampled Zero design run loops) ≡ first (count_of run loops) (trace_of (word design run))
letters-are design run loops sound is =
    let count : length (trace_sampled Zero design run loops).samples ≡ count_of run loops = length-map-range_with_len (λ (n : ℕ). letters_of (valuation_in run n)) 0 (count_of run loops) in
    ap (λ (n : ℕ). map (letter_at (trace_bits design run loops) design.names) (range_with_len 0 n)) count
    ∙ sym (firsts (trace_of (word design run)) (letter_at (trace_bits design run loops) design.names) 0 (count_of run loops)
    (λ place within. each-letter design run loops place sound is.loops within ∙ ap (λ (n : ℕ). Some (letter_at (trace_bits design run loops) design.names n)) (let e : place ≡ 0 + place = omega arith in e)))
