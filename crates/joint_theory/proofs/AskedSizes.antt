-- The gates of what nothing asks for: in sum over all obligations at most three for each constructor of their deltas.
use Rattle.std.proofs.Common.{◌≡◌, ◌⊎◌, inl, inr, refl, ap, subst, ℕ, zero, suc, ◌+◌, ◌*◌, ◌≤◌, ◌<◌, ℤ, Bool as Truth, true, false, cond, eqb, List, [], ◌∷◌, ◌++◌, map, length, arith, suc-mul}
use Rattle.std.specs.Prelude.{filter, sum_by, if◌then◌else◌}
use Rattle.std.specs.List.{range_with_len}
use Rattle.std.proofs.lemmas.Bool.{cases_eq, eq-eqb, ne_eqb}
use Rattle.std.proofs.lemmas.List.Sums.{sum_by-append, sum_by-cons}
use Rattle.alternating_theory.specs.Obligations.{Automaton, Obligation, obligation_at}
use Rattle.alternating_theory.specs.Positive.{owes, Positive, Const, Holds, Owed, And, Or}
use Rattle.gates_theory.specs.Terms.{Term, term_size}
use Rattle.gates_theory.specs.Terms.Term.{Conjunction, Negation}
use Rattle.netlist.specs.Design.{Design}
use Rattle.psl_tree.specs.Counts.{boolean_size}
use Rattle.psl_tree.specs.Trees as trees
use Rattle.psl_tree.specs.Trees.{Boolean}
use Rattle.run_terms.specs.Sizes.{constructors, positive_size, terms_size}
use Rattle.run_terms.proofs.BooleanValues.{boolean-gates}
use Rattle.joint_theory.specs.Bits.{numbers_of}
use Rattle.joint_theory.specs.Guards.{and_guard, guards, if_test, or_guard, unless_test, Guard, Always, If, IfNot}
use Rattle.joint_theory.specs.Relation.{askers, asking_term, unasked, unless_asking}
use Rattle.joint_theory.specs.States.{delta_of}

-- what a guard takes at most
abbrev cost : Guard → ℕ
cost Always = 1
cost (If test) = 2 * boolean_size test + 2
cost (IfNot test) = 2 * boolean_size test + 2

abbrev costs : List Guard → ℕ
costs list = sum_by cost list

-- sums

none-sum : (numbers : List ℕ) → sum_by (λ (number : ℕ). 0) numbers ≡ 0
none-sum [] = refl
none-sum (first ∷ numbers) = omega (arith, sum_by-cons (λ (number : ℕ). 0) first numbers, none-sum numbers)

split-sum : (all one two : ℕ → ℕ) (numbers : List ℕ) → ((number : ℕ) → all number ≤ one number + two number) → sum_by all numbers ≤ sum_by one numbers + sum_by two numbers
split-sum all one two [] each = omega arith
split-sum all one two (first ∷ numbers) each =
    omega (arith, sum_by-cons all first numbers, sum_by-cons one first numbers, sum_by-cons two first numbers, each first, split-sum all one two numbers each)

-- an obligation is asked for at one number
one-at : (guard : Guard) (wanted first count : ℕ) → wanted < first → sum_by (λ number. costs (if eqb wanted number then guard ∷ [] else [])) (range_with_len first count) ≡ 0
one-at guard wanted first zero low = refl
one-at guard wanted first (suc count) low =
    let here : costs (if eqb wanted first then guard ∷ [] else []) ≡ 0 = ap (λ (t : Truth). costs (if t then guard ∷ [] else [])) (ne_eqb wanted first (λ e. omega (arith, e))) in
    omega (arith, sum_by-cons (λ number. costs (if eqb wanted number then guard ∷ [] else [])) first (range_with_len (first + 1) count), here, one-at guard wanted (first + 1) count (omega arith))

one-most : (guard : Guard) (wanted first count : ℕ) → sum_by (λ number. costs (if eqb wanted number then guard ∷ [] else [])) (range_with_len first count) ≤ cost guard
one-most guard wanted first zero = omega arith
one-most guard wanted first (suc count) = by (one-most guard wanted (first + 1) count) (cases_eq wanted first)
  where
    one : costs (guard ∷ []) ≡ cost guard
    one = omega (arith, sum_by-cons cost guard [])

    by : sum_by (λ number. costs (if eqb wanted number then guard ∷ [] else [])) (range_with_len (first + 1) count) ≤ cost guard → (wanted ≡ first) ⊎ (wanted ≡ first → ⊥)
        → sum_by (λ number. costs (if eqb wanted number then guard ∷ [] else [])) (range_with_len first (suc count)) ≤ cost guard
    by rest (inl same) =
        let here : costs (if eqb wanted first then guard ∷ [] else []) ≡ costs (guard ∷ []) = ap (λ (t : Truth). costs (if t then guard ∷ [] else [])) (eq-eqb wanted first same) in
        omega (
          arith,
          sum_by-cons (λ number. costs (if eqb wanted number then guard ∷ [] else [])) first (range_with_len (first + 1) count),
          here,
          one,
          one-at guard wanted (first + 1) count (omega (arith, same)),
        )
    by rest (inr other) =
        let here : costs (if eqb wanted first then guard ∷ [] else []) ≡ 0 = ap (λ (t : Truth). costs (if t then guard ∷ [] else [])) (ne_eqb wanted first other) in
        omega (arith, sum_by-cons (λ number. costs (if eqb wanted number then guard ∷ [] else [])) first (range_with_len (first + 1) count), here, rest)

-- what a combination's guards take, over all numbers
abbrev spent : Guard → Positive → ℕ → ℕ → ℕ
spent guard delta first count = sum_by (λ number. costs (guards guard delta number)) (range_with_len first count)

if-cost : (guard : Guard) (test : Boolean) → cost (if_test guard test) ≤ cost guard + 2 * (boolean_size test + 1)
if-cost guard (trees.Const true) = omega arith
if-cost guard (trees.Const false) = omega arith
if-cost guard (trees.Test atom) = omega arith
if-cost guard (trees.Not part) = omega arith
if-cost guard (trees.And left right) = omega arith
if-cost guard (trees.Or left right) = omega arith

unless-cost : (guard : Guard) (test : Boolean) → cost (unless_test guard test) ≤ cost guard + 2 * (boolean_size test + 1)
unless-cost guard (trees.Const true) = omega arith
unless-cost guard (trees.Const false) = omega arith
unless-cost guard (trees.Test atom) = omega arith
unless-cost guard (trees.Not part) = omega arith
unless-cost guard (trees.And left right) = omega arith
unless-cost guard (trees.Or left right) = omega arith

-- a test asks for nothing, and what stands beside it takes no more for it than its size; what stands beside another
-- combination stands under no guard
abbrev Beside : (Guard → Positive → Guard) → Positive → Type 0
Beside toward sibling =
    (((guard : Guard) (first count : ℕ) → spent guard sibling first count ≡ 0) × ((guard : Guard) → cost (toward guard sibling) ≤ cost guard + 2 * positive_size sibling))
    ⊎ ((guard : Guard) → cost (toward guard sibling) ≡ 1)

beside-and : (sibling : Positive) → Beside and_guard sibling
beside-and (Const value) = inr (λ guard. refl)
beside-and (Holds test) = inl (λ guard first count. none-sum (range_with_len first count), λ guard. if-cost guard test)
beside-and (Owed number) = inr (λ guard. refl)
beside-and (And left right) = inr (λ guard. refl)
beside-and (Or left right) = inr (λ guard. refl)

beside-or : (sibling : Positive) → Beside or_guard sibling
beside-or (Const value) = inr (λ guard. refl)
beside-or (Holds test) = inl (λ guard first count. none-sum (range_with_len first count), λ guard. unless-cost guard test)
beside-or (Owed number) = inr (λ guard. refl)
beside-or (And left right) = inr (λ guard. refl)
beside-or (Or left right) = inr (λ guard. refl)

module _ (toward : Guard → Positive → Guard) (left right : Positive) (guard : Guard) (first count : ℕ) where
  pair-most : Beside toward left → Beside toward right
      → spent (toward guard right) left first count ≤ 2 * positive_size left + cost (toward guard right)
      → spent (toward guard left) right first count ≤ 2 * positive_size right + cost (toward guard left)
      → sum_by (λ number. costs (guards (toward guard right) left number ++ guards (toward guard left) right number)) (range_with_len first count)
      ≤ 2 * (positive_size left + positive_size right + 1) + cost guard
  pair-most l r one two = by l r
    where
      both : sum_by (λ number. costs (guards (toward guard right) left number ++ guards (toward guard left) right number)) (range_with_len first count)
          ≤ spent (toward guard right) left first count + spent (toward guard left) right first count
      both =
          split-sum (λ number. costs (guards (toward guard right) left number ++ guards (toward guard left) right number))
          (λ number. costs (guards (toward guard right) left number)) (λ number. costs (guards (toward guard left) right number)) (range_with_len first count)
          (λ number. omega (arith, sum_by-append cost (guards (toward guard right) left number) (guards (toward guard left) right number)))

      by : Beside toward left → Beside toward right
          → sum_by (λ number. costs (guards (toward guard right) left number ++ guards (toward guard left) right number)) (range_with_len first count)
          ≤ 2 * (positive_size left + positive_size right + 1) + cost guard
      by (inl l) (inl r) = omega (arith, both, l.0 (toward guard right) first count, r.0 (toward guard left) first count)
      by (inl l) (inr r) = omega (arith, both, l.0 (toward guard right) first count, l.1 guard, two)
      by (inr l) (inl r) = omega (arith, both, r.0 (toward guard left) first count, r.1 guard, one)
      by (inr l) (inr r) = omega (arith, both, l guard, r guard, one, two)

guards-few : (delta : Positive) (guard : Guard) (first count : ℕ) → spent guard delta first count ≤ 2 * positive_size delta + cost guard
guards-few (Const value) guard first count = omega (arith, none-sum (range_with_len first count))
guards-few (Holds test) guard first count = omega (arith, none-sum (range_with_len first count))
guards-few (Owed number) guard first count = omega (arith, one-most guard number first count)
guards-few (And left right) guard first count =
    pair-most and_guard left right guard first count (beside-and left) (beside-and right)
    (guards-few left (and_guard guard right) first count) (guards-few right (and_guard guard left) first count)
guards-few (Or left right) guard first count =
    pair-most or_guard left right guard first count (beside-or left) (beside-or right)
    (guards-few left (or_guard guard right) first count) (guards-few right (or_guard guard left) first count)

some-size : (delta : Positive) → 1 ≤ positive_size delta
some-size (Const value) = omega arith
some-size (Holds test) = omega arith
some-size (Owed number) = omega arith
some-size (And left right) = omega arith
some-size (Or left right) = omega arith

-- and those of all obligations

asked-sum : (count : ℕ) (delta : ℕ → Positive) (first : ℕ) (obligations : List Obligation)
    → ((q : ℕ) → q < length obligations → delta (first + q) ≡ (obligation_at obligations q).delta)
    → sum_by (λ number. sum_by (λ other. costs (guards Always (delta other) number)) (range_with_len first (length obligations))) (range_with_len 0 count)
    ≤ 3 * sum_by (λ obligation. positive_size obligation.delta) obligations
asked-sum count delta first [] each = omega (arith, none-sum (range_with_len 0 count))
asked-sum count delta first (obligation ∷ obligations) each =
    let here : delta first ≡ obligation.delta = subst (λ (k : ℕ). delta k ≡ obligation.delta) (omega arith) (each 0 (omega arith)) in
    let size : positive_size (delta first) ≡ positive_size obligation.delta = ap positive_size here in
    let rest = asked-sum count delta (first + 1) obligations
    (λ q low. subst (λ (k : ℕ). delta k ≡ (obligation_at obligations q).delta) (omega arith) (each (suc q) (omega arith))) in
    let split = split-sum (λ number. sum_by (λ other. costs (guards Always (delta other) number)) (range_with_len first (length (obligation ∷ obligations))))
    (λ number. costs (guards Always (delta first) number)) (λ number. sum_by (λ other. costs (guards Always (delta other) number)) (range_with_len (first + 1) (length obligations)))
    (range_with_len 0 count)
    (λ number. omega (arith, sum_by-cons (λ other. costs (guards Always (delta other) number)) first (range_with_len (first + 1) (length obligations)))) in
    omega (
      arith,
      split,
      guards-few (delta first) Always 0 count,
      some-size (delta first),
      size,
      rest,
      sum_by-cons (λ (other : Obligation). positive_size other.delta) obligation obligations,
    )

-- the terms

asking-size : (design : Design) (literal : ℤ) (guard : Guard) → term_size (asking_term design literal guard) + 1 ≤ cost guard
asking-size design literal Always = omega arith
asking-size design literal (If test) = omega (arith, boolean-gates design.signals 0 test)
asking-size design literal (IfNot test) = omega (arith, boolean-gates design.signals 0 test)

unless-size : (design : Design) (literal : ℤ) (term : Term) (list : List Guard) → term_size (unless_asking design literal term list) ≤ term_size term + costs list
unless-size design literal term [] = omega arith
unless-size design literal term (guard ∷ list) =
    omega (
      arith,
      unless-size design literal (Conjunction term (Negation (asking_term design literal guard))) list,
      asking-size design literal guard,
      sum_by-cons cost guard list,
    )

unasked-size : (design : Design) (automaton : Automaton) (bit : ℕ → ℤ) (number : ℕ) (term : Term) (numbers : List ℕ)
    → term_size (unasked design automaton bit number term numbers) ≤ term_size term + sum_by (λ other. costs (guards Always (delta_of automaton other) number)) numbers
unasked-size design automaton bit number term [] = omega arith
unasked-size design automaton bit number term (asker ∷ numbers) =
    let list = guards Always (delta_of automaton asker) number in
    omega (
      arith,
      unasked-size design automaton bit number (unless_asking design (bit asker) term list) numbers,
      unless-size design (bit asker) term list,
      sum_by-cons (λ other. costs (guards Always (delta_of automaton other) number)) asker numbers,
    )

filter-less : (test : ℕ → Truth) (size : ℕ → ℕ) (numbers : List ℕ) → sum_by size (filter test numbers) ≤ sum_by size numbers
filter-less test size [] = omega arith
filter-less test size (first ∷ numbers) = by (test first) (filter-less test size numbers)
  where
    by : (passes : Truth) → sum_by size (filter test numbers) ≤ sum_by size numbers → sum_by size (cond passes (first ∷ filter test numbers) (filter test numbers)) ≤ sum_by size (first ∷ numbers)
    by true rest = omega (arith, sum_by-cons size first (filter test numbers), sum_by-cons size first numbers, rest)
    by false rest = omega (arith, sum_by-cons size first numbers, rest)

-- terms that take so many gates each, and some more
terms-most : (term : ℕ → Term) (more : ℕ → ℕ) (extra : ℕ) (numbers : List ℕ) → ((number : ℕ) → term_size (term number) ≤ extra + more number)
    → terms_size (map term numbers) ≤ length numbers * extra + sum_by more numbers
terms-most term more extra [] each = omega arith
terms-most term more extra (first ∷ numbers) each =
    omega (
      arith,
      sum_by-cons term_size (term first) (map term numbers),
      sum_by-cons more first numbers,
      suc-mul (length numbers) extra,
      each first,
      terms-most term more extra numbers each,
    )

pub askers-size : (design : Design) (automaton : Automaton) (bit : ℕ → ℤ) (term : ℕ → Term) (extra : ℕ) → ((number : ℕ) → term_size (term number) ≤ extra)
    → terms_size (map (λ number. Negation (unasked design automaton bit number (term number) (askers automaton number))) (numbers_of automaton))
    ≤ length (numbers_of automaton) * extra + 3 * constructors automaton
askers-size design automaton bit term extra each =
    let more : ℕ → ℕ = λ number. sum_by (λ other. costs (guards Always (delta_of automaton other) number)) (numbers_of automaton) in
    let most = terms-most (λ number. Negation (unasked design automaton bit number (term number) (askers automaton number))) more extra (numbers_of automaton)
    (λ number. omega (
      arith,
      each number,
      unasked-size design automaton bit number (term number) (askers automaton number),
      filter-less (λ other. owes (delta_of automaton other) number) (λ other. costs (guards Always (delta_of automaton other) number)) (numbers_of automaton),
    )) in
    let sum = asked-sum (length automaton.obligations) (delta_of automaton) 0 automaton.obligations
    (λ q low. ap (λ (k : ℕ). (obligation_at automaton.obligations k).delta) (omega arith)) in
    omega (arith, most, sum)
