-- The marks of inputs, and the combinations that test marked signals alone.
use Rattle.std.proofs.Common.{subst, ◌≡◌, inl, inr, ℕ, zero, suc, ◌+◌, ◌<◌, Bool, true, false, ◌&&◌, List, [], ◌∷◌, ◌++◌, length, get_or, set, replicate, refl, sym, ap, ◌∙◌, arith, length-append, length-set, get_or-set_same, get_or-set_other}
use Rattle.std.specs.Prelude.{Contains, IsTrue, ◌↔◌}
use Rattle.std.proofs.lemmas.Bool.{and_from, and_parts, cases_lt, false≢true}
use Rattle.std.proofs.lemmas.List.{get_or_append_left, get_or-append-add, length-replicate}
use Rattle.alternating_theory.specs.Obligations.{Automaton, Obligation, obligation_at}
use Rattle.alternating_theory.specs.Positive.{Positive, Const, Holds, Owed, And, Or}
use Rattle.netlist.specs.Design.{Design}
use Rattle.netlist.specs.Sound.{IsSound}
use Rattle.netlist.specs.Valuations.{bit}
use Rattle.netlist.proofs.Driving.{contains-from, inputs-within, occurs-from}
use Rattle.psl_tree.specs.Atoms.{AtomsOfBoolean}
use Rattle.psl_tree.specs.Trees as trees
use Rattle.psl_tree.specs.Trees.{Boolean}
use Rattle.psl_tree.specs.declared.atom.Atom.{Atom}
use Rattle.psl_tree.specs.declared.atom.Edge.{Edge}
use Rattle.psl_tree.specs.declared.atom.Edge.TheVariants.{Value, Rise, Fall}
use Rattle.prover_held.specs.Judged.{boolean_marked, is_value, positive_marked, AreMarks, IsCandidate}
use Rattle.prover_held.specs.Lasting.{TestsInputs}
use Rattle.prover_held.proofs.Pigeons.{equal_cases}

-- so many of the inputs have a mark, and no other signal has
pub record AreMarked (inputs : List ℕ) (signals count : ℕ) (marks : List Bool) : Type 0 where
  pub long : length marks ≡ signals
  pub each : (k : ℕ) → k < count → IsTrue (bit marks (get_or inputs k 0))
  pub only : (signal : ℕ) → IsTrue (bit marks signal) → (k : ℕ) × (k < count) × (get_or inputs k 0 ≡ signal)

pub bit-none : (signals signal : ℕ) → bit (replicate signals false) signal ≡ false
bit-none zero signal = refl
bit-none (suc signals) zero = refl
bit-none (suc signals) (suc signal) = bit-none signals signal

pub marked-none : (inputs : List ℕ) (signals : ℕ) (marks : List Bool) → marks ≡ replicate signals false → AreMarked inputs signals 0 marks
marked-none inputs signals marks is = record {
  long = ap (λ (m : List Bool). length m) is ∙ length-replicate signals false;
  each = λ k low. absurd (omega arith);
  only = λ signal set. absurd (false≢true (sym (ap (λ (m : List Bool). bit m signal) is ∙ bit-none signals signal) ∙ set));
}

pub marked-more : (inputs : List ℕ) (signals count : ℕ) (marks : List Bool) (x : ℕ) → get_or inputs count 0 ≡ x → x < signals → AreMarked inputs signals count marks
    → AreMarked inputs signals (count + 1) (set marks x true)
marked-more inputs signals count marks x is low marked = record {
  long = length-set marks x true ∙ marked.long;
  each = λ k below. elim (cases_lt k count) [
    | inl early ↦ kept (get_or inputs k 0) (marked.each k early)
    | inr late ↦ let e : k ≡ count = omega arith in ap (bit (set marks x true)) (ap (λ j. get_or inputs j 0) e ∙ is) ∙ here
  ];
  only = λ signal set_there. elim (equal_cases signal x) [
    | inl e ↦ (count, omega arith, is ∙ sym e)
    | inr other ↦ let found = marked.only signal (sym (get_or-set_other marks x signal true false other) ∙ set_there) in (found.0, omega (arith, found.1), found.2)
  ];
}
  where
    inside : x < length marks
    inside = omega (arith, marked.long)

    here : bit (set marks x true) x ≡ true
    here = get_or-set_same marks x true false inside

    kept : (signal : ℕ) → IsTrue (bit marks signal) → IsTrue (bit (set marks x true) signal)
    kept signal h = elim (equal_cases signal x) [
      | inl e ↦ ap (bit (set marks x true)) e ∙ here
      | inr other ↦ get_or-set_other marks x signal true false other ∙ h
    ]

-- the same of what a program keeps
pub marked-next : (d : Design) (items : List ℕ) (index : ℕ) (marks : List Bool) → IsSound d → items ≡ d.inputs → index < length items
    → AreMarked d.inputs d.signals index marks → AreMarked d.inputs d.signals (index + 1) (set marks (get_or items index 0) true)
marked-next d items index marks sound same low marked =
    let is : get_or d.inputs index 0 ≡ get_or items index 0 = sym (ap (λ (list : List ℕ). get_or list index 0) same) in
    let inside : index < length d.inputs = subst (λ (list : List ℕ). index < length list) same low in
    marked-more d.inputs d.signals index marks (get_or items index 0) is
    (subst (λ (x : ℕ). x < d.signals) is (inputs-within d sound index 0 inside)) marked

pub marked-all : (d : Design) (inputs : List ℕ) (signals : ℕ) (marks : List Bool) → inputs ≡ d.inputs → AreMarked inputs signals (length inputs) marks → AreMarks d marks
marked-all d inputs signals marks same marked signal = (
  (λ h. let found = marked.only signal h in
      subst (λ (list : List ℕ). Contains list signal) same (contains-from inputs signal (record { place = found.0; within = found.1; is = found.2 }))),
  (λ h. let found = occurs-from inputs signal (subst (λ (list : List ℕ). Contains list signal) (sym same) h) in
      ap (bit marks) (sym found.is) ∙ marked.each found.place found.within),
)

value-only : (edge : Edge) → IsTrue (is_value edge) → edge ≡ Value
value-only Value is = refl
value-only Rise is = absurd (false≢true is)
value-only Fall is = absurd (false≢true is)

only-value : (edge : Edge) → edge ≡ Value → IsTrue (is_value edge)
only-value edge is = ap is_value is

module _ (d : Design) (marks : List Bool) (marked : AreMarks d marks) where
  abbrev Tests : Atom → Type 0
  Tests atom = (atom.edge ≡ Value) × Contains d.inputs atom.signal

  boolean-to : (test : Boolean) → IsTrue (boolean_marked marks test) → AtomsOfBoolean Tests test
  boolean-to (trees.Const value) h = tt
  boolean-to (trees.Test atom) h =
      let parts = and_parts (is_value atom.edge) (bit marks atom.signal) h in (value-only atom.edge parts.0, (marked atom.signal).0 parts.1)
  boolean-to (trees.Not part) h = boolean-to part h
  boolean-to (trees.And left right) h =
      let parts = and_parts (boolean_marked marks left) (boolean_marked marks right) h in (boolean-to left parts.0, boolean-to right parts.1)
  boolean-to (trees.Or left right) h =
      let parts = and_parts (boolean_marked marks left) (boolean_marked marks right) h in (boolean-to left parts.0, boolean-to right parts.1)

  boolean-from : (test : Boolean) → AtomsOfBoolean Tests test → IsTrue (boolean_marked marks test)
  boolean-from (trees.Const value) h = refl
  boolean-from (trees.Test atom) h = and_from (is_value atom.edge) (bit marks atom.signal) (only-value atom.edge h.0) ((marked atom.signal).1 h.1)
  boolean-from (trees.Not part) h = boolean-from part h
  boolean-from (trees.And left right) h = and_from (boolean_marked marks left) (boolean_marked marks right) (boolean-from left h.0) (boolean-from right h.1)
  boolean-from (trees.Or left right) h = and_from (boolean_marked marks left) (boolean_marked marks right) (boolean-from left h.0) (boolean-from right h.1)

  pub marked-tests : (positive : Positive) → IsTrue (positive_marked marks positive) → TestsInputs d positive
  marked-tests (Const value) h = tt
  marked-tests (Holds test) h = boolean-to test h
  marked-tests (Owed number) h = tt
  marked-tests (And left right) h =
      let parts = and_parts (positive_marked marks left) (positive_marked marks right) h in (marked-tests left parts.0, marked-tests right parts.1)
  marked-tests (Or left right) h =
      let parts = and_parts (positive_marked marks left) (positive_marked marks right) h in (marked-tests left parts.0, marked-tests right parts.1)

  pub tests-marked : (positive : Positive) → TestsInputs d positive → IsTrue (positive_marked marks positive)
  tests-marked (Const value) h = refl
  tests-marked (Holds test) h = boolean-from test h
  tests-marked (Owed number) h = refl
  tests-marked (And left right) h = and_from (positive_marked marks left) (positive_marked marks right) (tests-marked left h.0) (tests-marked right h.1)
  tests-marked (Or left right) h = and_from (positive_marked marks left) (positive_marked marks right) (tests-marked left h.0) (tests-marked right h.1)

-- the candidates, one more
module _ (d : Design) (a : Automaton) where
  abbrev look : ℕ → Obligation
  look = obligation_at a.obligations

  pub candidate-more : (marks kept longer : List Bool) (count : ℕ) (found : Bool) → AreMarks d marks → length kept ≡ count
      → ((k : ℕ) → k < count → IsTrue (bit kept k) ↔ IsCandidate d a k)
      → found ≡ ((obligation_at a.obligations count).accepting && positive_marked marks (obligation_at a.obligations count).delta)
      → longer ≡ kept ++ found ∷ []
      → (length longer ≡ count + 1) × ((k : ℕ) → k < count + 1 → IsTrue (bit longer k) ↔ IsCandidate d a k)
  candidate-more marks kept longer count found marked size each is same = (
    ap (λ (v : List Bool). length v) same ∙ length-append kept (found ∷ []) ∙ ap (λ n. n + 1) size,
    (λ k low. elim (cases_lt k count) [
      | inl early ↦
          let front : bit longer k ≡ bit kept k = ap (λ (v : List Bool). bit v k) same ∙ get_or_append_left kept (found ∷ []) false k (omega arith) in
          ((λ h. (each k early).0 (sym front ∙ h)), (λ h. front ∙ (each k early).1 h))
      | inr late ↦
          let e : k ≡ count = omega arith in
          let f : k ≡ length kept + 0 = omega arith in
          let last : bit longer k ≡ found = ap (λ (v : List Bool). bit v k) same ∙ ap (λ j. bit (kept ++ found ∷ []) j) f ∙ get_or-append-add kept (found ∷ []) 0 false in
          let test : bit longer k ≡ ((look k).accepting && positive_marked marks (look k).delta) =
          last ∙ is ∙ ap (λ j. (look j).accepting && positive_marked marks (look j).delta) (sym e) in (
            (λ h. let parts = and_parts (look k).accepting (positive_marked marks (look k).delta) (sym test ∙ h) in (parts.0, marked-tests d marks marked (look k).delta parts.1)),
            (λ h. test ∙ and_from (look k).accepting (positive_marked marks (look k).delta) h.0 (tests-marked d marks marked (look k).delta h.1)),
          )
    ]),
  )
