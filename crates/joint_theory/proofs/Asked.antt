-- Which obligations ask for one: a search through some of them, as literals say it and as a joint state does.
use Rattle.std.proofs.Common.{◌≡◌, ◌⊎◌, refl, sym, ap, ◌∙◌, ℕ, zero, suc, ◌+◌, ◌≤◌, ◌<◌, ℤ, Bool as Truth, true, false, not, cond, ◌&&◌, ◌||◌, eqb, List, [], ◌∷◌, Option, inl, inr, arith}
use Rattle.std.specs.Prelude.{IsTrue, All, filter}
use Rattle.std.specs.List.{list_any}
use Rattle.std.specs.List.Sorted.{IsStrictlyIncreasing}
use Rattle.std.proofs.lemmas.Bool.{both_ways, cases_Bool, eqb-true, or_cases, or_left, or_right}
use Rattle.std.proofs.lemmas.List.Elements.{All-filter, All-head, All-tail}
use Rattle.alternating_theory.specs.Atoms.{AtomsOfObligations, AtomsOfPositive}
use Rattle.alternating_theory.specs.Obligations.{Automaton, Obligation, obligation_at}
use Rattle.alternating_theory.specs.Positive.{owes, Positive}
use Rattle.clauses.specs.Literals.{is_within}
use Rattle.clauses.specs.Models.{Assignment, is_true}
use Rattle.gates_theory.specs.Terms.{term_within, value, Term}
use Rattle.netlist.specs.Design.{Design}
use Rattle.netlist.specs.Sound.{NamesBit}
use Rattle.psl_tree.specs.Names.{AtomInRange}
use Rattle.psl_tree.specs.declared.atom.Atom.{Atom}
use Rattle.psl_tree.specs.declared.letter.Letter.{Letter}
use Rattle.run_terms.specs.Automata.{TestsSignals}
use Rattle.run_terms.specs.Letters.{letter_after}
use Rattle.run_terms.specs.Positions.{position_width, IsPosition}
use Rattle.joint_theory.specs.Bits.{count_of, numbers_of}
use Rattle.joint_theory.specs.Guards.{allows, asks, guards, Guard, Always}
use Rattle.joint_theory.specs.Relation.{askers, unasked, unless_asking}
use Rattle.joint_theory.specs.States.{delta_of, is_asked, is_listed}
use Rattle.joint_theory.proofs.Guards.{guards-atoms, unless-value, unless-within, unowed, AtomsOfGuards}
use Rattle.joint_theory.proofs.Rising.{filter-rising, range-all}

-- an obligation that stands in a list asks for what its delta asks for
pub asked-by : (automaton : Automaton) (letter : Letter) (numbers : List ℕ) (by other : ℕ) → IsTrue (is_listed numbers by) → IsTrue (asks letter (delta_of automaton by) other)
    → IsTrue (is_asked automaton letter numbers other)
asked-by automaton letter [] by other listed asked = absurd (both_ways false refl listed)
asked-by automaton letter (first ∷ numbers) by other listed asked = elim (or_cases (eqb first by) (is_listed numbers by) listed) [
  | inl e ↦ or_left (asks letter (delta_of automaton first) other) (is_asked automaton letter numbers other)
      (ap (λ (number : ℕ). asks letter (delta_of automaton number) other) (eqb-true first by e) ∙ asked)
  | inr rest ↦ or_right (asks letter (delta_of automaton first) other) (is_asked automaton letter numbers other) (asked-by automaton letter numbers by other rest asked)
]

-- a search through what passes a test
any-filter : (test found : ℕ → Truth) (numbers : List ℕ) → list_any found (filter test numbers) ≡ list_any (λ number. test number && found number) numbers
any-filter test found [] = refl
any-filter test found (first ∷ numbers) = by (test first) (any-filter test found numbers)
  where
    by : (passes : Truth) → list_any found (filter test numbers) ≡ list_any (λ number. test number && found number) numbers
        → list_any found (cond passes (first ∷ filter test numbers) (filter test numbers)) ≡ ((passes && found first) || list_any (λ number. test number && found number) numbers)
    by true rest = ap (λ t. found first || t) rest
    by false rest = rest

any-same : (test other : ℕ → Truth) (numbers : List ℕ) → All (λ number. test number ≡ other number) numbers → list_any test numbers ≡ list_any other numbers
any-same test other [] same = refl
any-same test other (first ∷ numbers) same =
    let here = All-head (λ number. test number ≡ other number) first numbers same in
    let rest = any-same test other numbers (All-tail (λ number. test number ≡ other number) first numbers same) in
    rw (here, rest) refl

-- what asks for an obligation names it
asks-named : (letter : Letter) (delta : Positive) (number : ℕ) → (owes delta number ≡ true) ⊎ (owes delta number ≡ false) → IsTrue (asks letter delta number) → IsTrue (owes delta number)
asks-named letter delta number (inl named) asked = named
asks-named letter delta number (inr not_named) asked =
    absurd (both_ways false refl (sym (ap (λ (list : List Guard). list_any (allows letter) list) (unowed delta Always number not_named)) ∙ asked))

same-asked : (named on listed asked : Truth) → on ≡ listed → (IsTrue asked → IsTrue named) → (named && (on && asked)) ≡ (listed && asked)
same-asked true on listed asked same named = ap (λ t. t && asked) same
same-asked false on listed true same named = absurd (both_ways false refl (named refl))
same-asked false true true false same named = refl
same-asked false false false false same named = refl
same-asked false true false false same named = refl
same-asked false false true false same named = refl

-- Bits say which obligations stand in a rising list: some whose bits are on ask for one where some of the list do.
pub asked-bits : (automaton : Automaton) (letter : Letter) (v : Assignment) (bit : ℕ → ℤ) (numbers : List ℕ) (number : ℕ)
    → IsStrictlyIncreasing numbers → All (λ other. other < count_of automaton) numbers
    → ((other : ℕ) → other < count_of automaton → is_true v (bit other) ≡ is_listed numbers other)
    → list_any (λ other. is_true v (bit other) && asks letter (delta_of automaton other) number) (askers automaton number) ≡ is_asked automaton letter numbers number
asked-bits automaton letter v bit numbers number rises below same =
    any-filter (λ other. owes (delta_of automaton other) number) (λ other. is_true v (bit other) && asks letter (delta_of automaton other) number) (numbers_of automaton)
    ∙ any-same (λ other. owes (delta_of automaton other) number && (is_true v (bit other) && asks letter (delta_of automaton other) number)) (λ other. is_listed numbers other && asks letter (delta_of automaton other) number) (numbers_of automaton)
    (range-all (λ other. (owes (delta_of automaton other) number && (is_true v (bit other) && asks letter (delta_of automaton other) number)) ≡ (is_listed numbers other && asks letter (delta_of automaton other) number)) 0 (count_of automaton)
    (λ other _ low. same-asked (owes (delta_of automaton other) number) (is_true v (bit other)) (is_listed numbers other) ((asks letter (delta_of automaton other) number)) (same other (omega arith))
    (asks-named letter (delta_of automaton other) number (cases_Bool (owes (delta_of automaton other) number)))))
    ∙ sym (any-filter (is_listed numbers) (λ other. asks letter (delta_of automaton other) number) (numbers_of automaton))
    ∙ ap (λ (list : List ℕ). list_any (λ other. asks letter (delta_of automaton other) number) list) (filter-rising (count_of automaton) numbers rises below)

-- the terms of what nothing asks for

deltas-atoms : (P : Atom → Type 0) (obligations : List Obligation) (number : ℕ) → AtomsOfObligations P obligations → AtomsOfPositive P (obligation_at obligations number).delta
deltas-atoms P [] number atoms = tt
deltas-atoms P (obligation ∷ obligations) zero atoms = atoms.0
deltas-atoms P (obligation ∷ obligations) (suc number) atoms = deltas-atoms P obligations number atoms.1

pub asker-atoms : (design : Design) (automaton : Automaton) (asker number : ℕ) → TestsSignals design automaton
    → AtomsOfGuards (AtomInRange design.names) (guards Always (delta_of automaton asker) number)
asker-atoms design automaton asker number tests =
    guards-atoms (AtomInRange design.names) Always (delta_of automaton asker) number tt (deltas-atoms (AtomInRange design.names) automaton.obligations asker tests)

pub unasked-value : (design : Design) (automaton : Automaton) (v : Assignment) (before : Option (List Truth)) (valuation : List Truth)
    → All (NamesBit design.signals) design.names → TestsSignals design automaton → IsPosition design.signals 0 v before valuation
    → (bit : ℕ → ℤ) (number : ℕ) (term : Term) (numbers : List ℕ) → value v (unasked design automaton bit number term numbers)
    ≡ (value v term && not (list_any (λ other. is_true v (bit other) && asks (letter_after design.names before valuation) (delta_of automaton other) number) numbers))
unasked-value design automaton v before valuation named tests is bit number term [] = always (value v term)
  where
    always : (t : Truth) → t ≡ (t && true)
    always true = refl
    always false = refl
unasked-value design automaton v before valuation named tests is bit number term (asker ∷ numbers) =
    let letter = letter_after design.names before valuation in
    let list = guards Always (delta_of automaton asker) number in
    let any = list_any (λ other. is_true v (bit other) && asks (letter_after design.names before valuation) (delta_of automaton other) number) numbers in
    unasked-value design automaton v before valuation named tests is bit number (unless_asking design (bit asker) term list) numbers
    ∙ ap (λ (t : Truth). t && not any) (unless-value design v before valuation named is (bit asker) term list (asker-atoms design automaton asker number tests))
    ∙ neither (value v term) (is_true v (bit asker) && asks letter (delta_of automaton asker) number) any
  where
    neither : (t a b : Truth) → ((t && not a) && not b) ≡ (t && not (a || b))
    neither true true b = refl
    neither true false b = refl
    neither false a b = refl

pub unasked-within : (design : Design) (automaton : Automaton) (n : ℕ) → All (NamesBit design.signals) design.names → TestsSignals design automaton
    → 0 + position_width design.signals ≤ n → (bit : ℕ → ℤ) (number : ℕ) (term : Term) (numbers : List ℕ)
    → All (λ other. IsTrue (is_within n (bit other))) numbers → IsTrue (term_within n term) → IsTrue (term_within n (unasked design automaton bit number term numbers))
unasked-within design automaton n named tests fits bit number term [] each within = within
unasked-within design automaton n named tests fits bit number term (asker ∷ numbers) each within =
    let list = guards Always (delta_of automaton asker) number in
    unasked-within design automaton n named tests fits bit number (unless_asking design (bit asker) term list) numbers
    (All-tail (λ other. IsTrue (is_within n (bit other))) asker numbers each)
    (unless-within design n named fits (bit asker) term list (All-head (λ other. IsTrue (is_within n (bit other))) asker numbers each) within
    (asker-atoms design automaton asker number tests))

-- what holds of each obligation holds of those that ask for one
pub askers-all : (automaton : Automaton) (P : ℕ → Type 0) (number : ℕ) → ((other : ℕ) → other < count_of automaton → P other) → All P (askers automaton number)
askers-all automaton P number each =
    All-filter (λ other. owes (delta_of automaton other) number) P (numbers_of automaton) (range-all P 0 (count_of automaton) (λ other _ low. each other (omega arith)))
