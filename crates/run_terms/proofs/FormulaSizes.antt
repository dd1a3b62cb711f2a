-- How many gates and words a relation takes at so many positions, and how many constructors there are.
use Rattle.std.proofs.Common.{◌≡◌, ℕ, zero, suc, ◌+◌, ◌-◌, ◌*◌, ◌<◌, ◌≤◌, ℤ, negsuc, neg_ℤ, cond, List, [], ◌∷◌, ◌++◌, map, length, replicate, refl, ap, ◌∙◌, subst, arith, length-append}
use Rattle.std.specs.Prelude.{sum_by, count_by, flat_map, IsTrue}
use Rattle.std.specs.List.{list_all, range_with_len}
use Rattle.std.proofs.lemmas.Bool.{and_parts}
use Rattle.std.proofs.lemmas.List.{length-replicate}
use Rattle.std.proofs.lemmas.List.Sums.{sum_by-append, sum_by-cons}
use Rattle.clauses.specs.Literals.{clause_words}
use Rattle.gates_theory.specs.declared.circuit.Gate.{Gate}
use Rattle.gates_theory.specs.declared.circuit.Gate.TheVariants.{Free, And}
use Rattle.gates_theory.specs.Relations.{circuit_of, variables_of, IsClosed, Relation}
use Rattle.gates_theory.specs.Sizes.{is_conjunction, unrolled_words}
use Rattle.gates_theory.specs.Terms.{Term, built, built_all, term_size, term_within}
use Rattle.gates_theory.specs.Terms.Term.{Literal, Negation, Conjunction, Equality}
use Rattle.gates_theory.specs.Unrolled.{moved, units, unrolled}
use Rattle.gates_theory.proofs.Chains.{relation-sound}
use Rattle.gates_theory.proofs.Sizes.{length-following, unrolled-words, words-append, words-cons}
use Rattle.gates_theory.proofs.TermValues.{term-built}
use Rattle.netlist.specs.declared.latch.Init.{Init}
use Rattle.netlist.specs.declared.latch.Init.TheVariants as inits
use Rattle.netlist.specs.declared.latch.Latch.{Latch}
use Rattle.alternating_theory.specs.Obligations.{Obligation, obligation_at}
use Rattle.alternating_theory.specs.Positive as positives
use Rattle.alternating_theory.specs.Positive.{Positive}
use Rattle.run_terms.specs.Formulas.{whole}
use Rattle.run_terms.specs.Moves.{first_literals, init_literals}
use Rattle.run_terms.specs.Positions.{current}
use Rattle.run_terms.specs.Sizes.{positive_size, terms_size}

-- conjunctions

conjunctions-append : (front back : List Gate) → count_by is_conjunction (front ++ back) ≡ count_by is_conjunction front + count_by is_conjunction back
conjunctions-append front back = sum_by-append (λ gate. cond (is_conjunction gate) 1 0) front back

frees-none : (count : ℕ) → count_by is_conjunction (replicate count Free) ≡ 0
frees-none zero = refl
frees-none (suc count) = frees-none count

built-conjunctions : (gates : List Gate) (term : Term) → count_by is_conjunction (built gates term).gates ≡ count_by is_conjunction gates + term_size term
built-conjunctions gates (Literal literal) = omega arith
built-conjunctions gates (Negation term) = built-conjunctions gates term
built-conjunctions gates (Conjunction first second) =
    let one = built gates first in
    let two = built one.gates second in
    omega (arith, built-conjunctions gates first, built-conjunctions one.gates second, conjunctions-append two.gates (And one.output two.output ∷ []))
built-conjunctions gates (Equality first second) =
    let one = built gates first in
    let two = built one.gates second in
    omega (
      arith,
      built-conjunctions gates first,
      built-conjunctions one.gates second,
      conjunctions-append two.gates (And one.output two.output ∷ And (neg_ℤ one.output) (neg_ℤ two.output) ∷ And (negsuc (length two.gates)) (negsuc (suc (length two.gates))) ∷ []),
    )

all-conjunctions : (gates : List Gate) (terms : List Term) → count_by is_conjunction (built_all gates terms).gates ≡ count_by is_conjunction gates + terms_size terms
all-conjunctions gates [] = omega arith
all-conjunctions gates (term ∷ terms) =
    omega (arith, built-conjunctions gates term, all-conjunctions (built gates term).gates terms, sum_by-cons term_size term terms)

outputs-length : (gates : List Gate) (terms : List Term) → length (built_all gates terms).outputs ≡ length terms
outputs-length gates [] = refl
outputs-length gates (term ∷ terms) = ap suc (outputs-length (built gates term).gates terms)

-- a gate for each variable, and those of the terms
all-length : (variables : ℕ) (gates : List Gate) (terms : List Term) → IsTrue (list_all (term_within variables) terms) → variables ≤ length gates
    → length (built_all gates terms).gates ≡ length gates + terms_size terms
all-length variables gates [] within few = omega arith
all-length variables gates (term ∷ terms) within few =
    let parts = and_parts (term_within variables term) (list_all (term_within variables) terms) within in
    let one = (term-built variables gates term parts.0 few).length_is in
    let rest = all-length variables (built gates term).gates terms parts.1 (omega arith) in
    omega (arith, sum_by-cons term_size term terms)

pub gates-length : (r : Relation) → IsClosed r → length (circuit_of r).gates ≡ variables_of r + terms_size r.holds
gates-length r closed =
    let frees = length-replicate (variables_of r) Free in
    let all = all-length (variables_of r) (replicate (variables_of r) Free) r.holds closed (omega arith) in
    omega arith

-- words

pub units-size : (base : ℕ) (literals : List ℤ) → clause_words (units base literals) ≡ 2 * length literals
units-size base [] = refl
units-size base (literal ∷ literals) = omega (arith, words-cons (moved base literal ∷ []) (units base literals), units-size base literals)

pub whole-size : (r : Relation) (last : ℕ) → IsClosed r
    → clause_words (whole r last) ≡ suc last * (10 * terms_size r.holds) + last * (2 * length r.holds + 6 * r.width) + 2 * length r.holds
whole-size r last closed =
    let c = circuit_of r in
    let held = outputs-length (replicate (variables_of r) Free) r.holds in
    let ands : count_by is_conjunction (circuit_of r).gates ≡ terms_size r.holds =
    let all = all-conjunctions (replicate (variables_of r) Free) r.holds in let none = frees-none (variables_of r) in omega arith in
    let bits = length-following 0 r.width in
    let e : suc last - 1 ≡ last = omega arith in
    let words : clause_words (unrolled (circuit_of r) (suc last)) ≡ suc last * (10 * terms_size r.holds) + last * (2 * length r.holds + 6 * r.width) =
    unrolled-words c (suc last) (relation-sound r closed)
    ∙ ap (λ k. suc last * (10 * k) + (suc last - 1) * (2 * length c.hold + 6 * length c.now)) ands
    ∙ ap (λ k. suc last * (10 * terms_size r.holds) + k * (2 * length c.hold + 6 * length c.now)) e
    ∙ ap (λ k. suc last * (10 * terms_size r.holds) + last * (2 * k + 6 * length c.now)) held
    ∙ ap (λ k. suc last * (10 * terms_size r.holds) + last * (2 * length r.holds + 6 * k)) bits in
    omega (arith, words-append (unrolled c (suc last)) (units (last * length c.gates) c.hold), units-size (last * length c.gates) c.hold, words, held)

-- the first position

init-size : (init : Init) (literal : ℤ) → length (init_literals init literal) ≤ 1
init-size inits.Zero literal = omega arith
init-size inits.One literal = omega arith
init-size inits.Free literal = omega arith

pub firsts-size : (signals base : ℕ) (latches : List Latch) → length (first_literals signals base latches) ≤ 1 + length latches
firsts-size signals base latches = by latches
  where
    by : (latches : List Latch) → suc (length (flat_map (λ latch. init_literals latch.init (current signals base latch.output)) latches)) ≤ 1 + length latches
    by [] = omega arith
    by (latch ∷ latches) =
        let one = init_literals latch.init (current signals base latch.output) in
        omega (
          arith,
          length-append one (flat_map (λ latch. init_literals latch.init (current signals base latch.output)) latches),
          init-size latch.init (current signals base latch.output),
          by latches,
        )

-- the obligations

some_constructor : (p : Positive) → 0 < positive_size p
some_constructor (positives.Const value) = omega arith
some_constructor (positives.Holds test) = omega arith
some_constructor (positives.Owed number) = omega arith
some_constructor (positives.And left right) = omega arith
some_constructor (positives.Or left right) = omega arith

pub constructors-many : (obligations : List Obligation) → length obligations ≤ sum_by (λ obligation. positive_size obligation.delta) obligations
constructors-many [] = omega arith
constructors-many (obligation ∷ obligations) =
    omega (arith, sum_by-cons (λ other. positive_size other.delta) obligation obligations, constructors-many obligations, some_constructor obligation.delta)

pub obligations-sum : (term : ℕ → Term) (most first : ℕ) (obligations : List Obligation)
    → ((q : ℕ) → q < length obligations → term_size (term (first + q)) ≤ 1 + most * positive_size (obligation_at obligations q).delta)
    → terms_size (map term (range_with_len first (length obligations)))
    ≤ length obligations + most * sum_by (λ obligation. positive_size obligation.delta) obligations
obligations-sum term most first [] each = omega arith
obligations-sum term most first (obligation ∷ obligations) each =
    let here : term_size (term first) ≤ 1 + most * positive_size obligation.delta =
    subst (λ (k : ℕ). term_size (term k) ≤ 1 + most * positive_size obligation.delta) (omega arith) (each 0 (omega arith)) in
    let rest = obligations-sum term most (first + 1) obligations (λ q low.
    subst (λ (k : ℕ). term_size (term k) ≤ 1 + most * positive_size (obligation_at obligations q).delta) (omega arith) (each (suc q) (omega arith))) in
    let sum : terms_size (map term (range_with_len first (length (obligation ∷ obligations))))
    ≡ term_size (term first) + terms_size (map term (range_with_len (first + 1) (length obligations))) =
    sum_by-cons term_size (term first) (map term (range_with_len (first + 1) (length obligations))) in
    let product = ap (λ k. most * k) (sum_by-cons (λ (other : Obligation). positive_size other.delta) obligation obligations) in
    omega (arith, sum, rest, product, here)
