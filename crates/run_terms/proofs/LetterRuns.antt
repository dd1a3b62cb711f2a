-- The letters of a run's word.
use Rattle.std.proofs.Common.{◌≡◌, ℕ, zero, suc, ◌+◌, ◌-◌, ◌<◌, ◌≤◌, not, ◌&&◌, List, [], ◌∷◌, ◌++◌, map, length, Some, None, ◌⊎◌, inl, inr, refl, ap, ◌∙◌, arith}
use Rattle.std.specs.List.{range_with_len}
use Rattle.std.proofs.lemmas.Bool.{cases_lt, lt-ltb}
use Rattle.std.proofs.lemmas.List.Elements.{filter_agree}
use Rattle.std.proofs.lemmas.List.FromFn.{length-map-range_with_len}
use Rattle.alternating_theory.specs.Courses as lasso
use Rattle.alternating_theory.specs.Courses.{letter_in, places}
use Rattle.netlist.specs.Design.{Design}
use Rattle.netlist.specs.Runs.{bits_of, valuation_at, word}
use Rattle.netlist.specs.Valuations.{bit}
use Rattle.netlist.specs.declared.run.Run.{Run}
use Rattle.psl_tree.specs.Letters.{atom_at, atoms_of, edge_at, letter_at}
use Rattle.psl_tree.specs.declared.atom.Edge.{Edge}
use Rattle.psl_tree.specs.declared.atom.Edge.TheVariants.{Value, Rise, Fall}
use Rattle.psl_tree.specs.declared.letter.Letter.{Letter}
use Rattle.psl_tree.specs.declared.letter.Letter.TheVariants.{Holds}
use Rattle.psl_tree.specs.declared.name.Name.{Name}
use Rattle.run_terms.specs.Letters.{bits_after, letter_after, before_at}

first_edge : (run : Run) (edge : Edge) (signal place : ℕ) → edge_at edge (bits_of run) 0 signal place ≡ edge_at edge (bits_after None (valuation_at run 0)) 0 signal place
first_edge run Value signal place = refl
first_edge run Rise signal place = refl
first_edge run Fall signal place = refl

next_edge : (run : Run) (at : ℕ) (edge : Edge) (signal place : ℕ)
    → edge_at edge (bits_of run) (suc at) signal place ≡ edge_at edge (bits_after (Some (valuation_at run at)) (valuation_at run (suc at))) 1 signal place
next_edge run at Value signal place = refl
next_edge run at Rise signal place =
    let e : suc at - 1 ≡ at = omega arith in
    ap (λ b. b && (not (bit (valuation_at run (suc at - 1)) signal) && bit (valuation_at run (suc at)) signal)) (lt-ltb 0 (suc at) (omega arith))
    ∙ ap (λ p. not (bit (valuation_at run p) signal) && bit (valuation_at run (suc at)) signal) e
next_edge run at Fall signal place =
    let e : suc at - 1 ≡ at = omega arith in
    ap (λ b. b && (bit (valuation_at run (suc at - 1)) signal && not (bit (valuation_at run (suc at)) signal))) (lt-ltb 0 (suc at) (omega arith))
    ∙ ap (λ p. bit (valuation_at run p) signal && not (bit (valuation_at run (suc at)) signal)) e

-- the letter at a place of a run is that of its valuation after the one before it
pub letter-at_run : (run : Run) (names : List Name) (place : ℕ) → letter_at (bits_of run) names place ≡ letter_after names (before_at run place) (valuation_at run place)
letter-at_run run names zero =
    ap Holds (filter_agree (atom_at (bits_of run) 0) (atom_at (bits_after None (valuation_at run 0)) 0) (λ atom. first_edge run atom.edge atom.signal atom.bit) (atoms_of names))
letter-at_run run names (suc at) =
    ap Holds (filter_agree (atom_at (bits_of run) (suc at)) (atom_at (bits_after (Some (valuation_at run at)) (valuation_at run (suc at))) 1)
    (λ atom. next_edge run at atom.edge atom.signal atom.bit) (atoms_of names))

-- a letter of a list that is made of numbers in order
letter_in-range : (f : ℕ → Letter) (first count place : ℕ) → place < count → letter_in (map f (range_with_len first count)) place ≡ f (first + place)
letter_in-range f first zero place below = absurd (omega arith)
letter_in-range f first (suc count) zero below = ap f (omega arith)
letter_in-range f first (suc count) (suc place) below = letter_in-range f (first + 1) count place (omega arith) ∙ ap f (omega arith)

letter_in-front : (front back : List Letter) (place : ℕ) → place < length front → letter_in (front ++ back) place ≡ letter_in front place
letter_in-front [] back place below = absurd (omega arith)
letter_in-front (letter ∷ front) back zero below = refl
letter_in-front (letter ∷ front) back (suc place) below = letter_in-front front back place (omega arith)

letter_in-back : (front back : List Letter) (place : ℕ) → letter_in (front ++ back) (length front + place) ≡ letter_in back place
letter_in-back [] back place = ap (letter_in back) (omega arith)
letter_in-back (letter ∷ front) back place =
    let e : suc (length front) + place ≡ suc (length front + place) = omega arith in
    ap (letter_in ((letter ∷ front) ++ back)) e ∙ letter_in-back front back place

pub places-of_word : (design : Design) (run : Run) → places (word design run) ≡ suc (length run.stem + length run.loop_part)
places-of_word design run =
    let f = letter_at (bits_of run) design.names in
    omega (arith, length-map-range_with_len f 0 (suc (length run.stem)), length-map-range_with_len f (suc (length run.stem)) (length run.loop_part))

-- the letter at a place of a run's word is that of the run's valuation there after the one before it
pub word-letter : (design : Design) (run : Run) (place : ℕ) → place < places (word design run)
    → lasso.letter_at (word design run) place ≡ letter_after design.names (before_at run place) (valuation_at run place)
word-letter design run place below = by (cases_lt place entered)
  where
    entered : ℕ
    entered = suc (length run.stem)

    by : (place < suc (length run.stem)) ⊎ (suc (length run.stem) ≤ place) → lasso.letter_at (word design run) place ≡ letter_after design.names (before_at run place) (valuation_at run place)
    by (inl front) =
        let f = letter_at (bits_of run) design.names in
        let long = length-map-range_with_len f 0 (suc (length run.stem)) in
        letter_in-front (word design run).stem (word design run).looped place (omega (arith, long))
        ∙ letter_in-range f 0 (suc (length run.stem)) place front
        ∙ ap f (omega arith)
        ∙ letter-at_run run design.names place
    by (inr back) =
        let f = letter_at (bits_of run) design.names in
        let long = length-map-range_with_len f 0 (suc (length run.stem)) in
        let rest = place - suc (length run.stem) in
        let e : place ≡ length (word design run).stem + rest = omega (arith, long) in
        ap (letter_in ((word design run).stem ++ (word design run).looped)) e
        ∙ letter_in-back (word design run).stem (word design run).looped rest
        ∙ letter_in-range f (suc (length run.stem)) (length run.loop_part) rest (omega (arith, below, places-of_word design run))
        ∙ ap f (omega arith)
        ∙ letter-at_run run design.names place
