-- Where the formula of a step is not too large, neither is the circuit of the joint states; and a joint state has no more
-- bits than the formula of a bad one has variables.
use Rattle.std.proofs.Common.{◌≡◌, refl, ap, ℕ, suc, ◌+◌, ◌*◌, ◌<◌, ◌≤◌, ℤ, negsuc, neg_ℤ, cond, List, [], ◌∷◌, ◌++◌, map, length, replicate, inr, arith, length-append}
use Rattle.std.specs.List.{count_by}
use Rattle.std.proofs.lemmas.List.{length-replicate}
use Rattle.std.proofs.lemmas.List.FromFn.{length-map-range_with_len}
use Rattle.std.proofs.lemmas.List.Sums.{sum_by-append, sum_by-cons}
use Rattle.alternating_theory.specs.Obligations.{Automaton}
use Rattle.gates_theory.proofs.Sizes.{words-append}
use Rattle.gates_theory.specs.Relations.{circuit_of}
use Rattle.gates_theory.specs.Sizes.{is_conjunction, IsTooLarge}
use Rattle.gates_theory.specs.Terms.{Term, built, built_all, term_size}
use Rattle.gates_theory.specs.Terms.Term.{Literal, Negation, Conjunction, Equality}
use Rattle.gates_theory.specs.Unrolled.{gate_clauses, gates_clauses, units}
use Rattle.gates_theory.specs.declared.circuit.Gate.{Gate}
use Rattle.gates_theory.specs.declared.circuit.Gate.TheVariants.{Free, And}
use Rattle.clauses.specs.Literals.{clause_words}
use Rattle.clauses.specs.declared.flat.TheConstants.{MOST_VARIABLES, MOST_WORDS}
use Rattle.joint_selectors.specs.Missed.{some_missed}
use Rattle.joint_theory.specs.Bits.{bad_bit, count_of, joint_width, numbers_of}
use Rattle.joint_theory.specs.Queries.{joint_size}
use Rattle.joint_theory.specs.Reaching.{bad_variables, one_state, query_step, step_variables, two_size, two_states}
use Rattle.joint_theory.specs.Relation.{earlier_terms, pending_term, state_terms, step_terms, unary_terms, unless_bad}
use Rattle.netlist.specs.Design.{Design}
use Rattle.run_terms.proofs.FormulaSizes.{units-size}
use Rattle.run_terms.specs.Formulas.{whole}
use Rattle.run_terms.specs.Positions.{earlier, had}
use Rattle.run_terms.specs.Sizes.{terms_size}
use Rattle.run_terms.specs.Tables.{before_terms, guarded, valuation_terms}

-- gates: how many a term adds, and that all of those are conjunctions

built-length : (gates : List Gate) (term : Term) → length (built gates term).gates ≡ length gates + term_size term
built-length gates (Literal literal) = omega arith
built-length gates (Negation term) = built-length gates term
built-length gates (Conjunction first second) =
    let one = built gates first in
    let two = built one.gates second in
    omega (arith, built-length gates first, built-length one.gates second, length-append two.gates (And one.output two.output ∷ []))
built-length gates (Equality first second) =
    let one = built gates first in
    let two = built one.gates second in
    omega (
      arith,
      built-length gates first,
      built-length one.gates second,
      length-append two.gates (And one.output two.output ∷ And (neg_ℤ one.output) (neg_ℤ two.output) ∷ And (negsuc (length two.gates)) (negsuc (suc (length two.gates))) ∷ []),
    )

all-length : (gates : List Gate) (terms : List Term) → length (built_all gates terms).gates ≡ length gates + terms_size terms
all-length gates [] = omega arith
all-length gates (term ∷ terms) =
    omega (arith, built-length gates term, all-length (built gates term).gates terms, sum_by-cons term_size term terms)

abbrev conjunctions : List Gate → ℕ
conjunctions gates = count_by is_conjunction gates

conjunctions-append : (front back : List Gate) → conjunctions (front ++ back) ≡ conjunctions front + conjunctions back
conjunctions-append front back = sum_by-append (λ gate. cond (is_conjunction gate) 1 0) front back

built-conjunctions : (gates : List Gate) (term : Term) → conjunctions (built gates term).gates ≡ conjunctions gates + term_size term
built-conjunctions gates (Literal literal) = omega arith
built-conjunctions gates (Negation term) = built-conjunctions gates term
built-conjunctions gates (Conjunction first second) =
    let one = built gates first in
    let two = built one.gates second in
    omega (arith, built-conjunctions gates first, built-conjunctions one.gates second, conjunctions-append two.gates (And one.output two.output ∷ []))
built-conjunctions gates (Equality first second) =
    let one = built gates first in
    let two = built one.gates second in
    omega (
      arith,
      built-conjunctions gates first,
      built-conjunctions one.gates second,
      conjunctions-append two.gates (And one.output two.output ∷ And (neg_ℤ one.output) (neg_ℤ two.output) ∷ And (negsuc (length two.gates)) (negsuc (suc (length two.gates))) ∷ []),
    )

all-conjunctions : (gates : List Gate) (terms : List Term) → conjunctions (built_all gates terms).gates ≡ conjunctions gates + terms_size terms
all-conjunctions gates [] = omega arith
all-conjunctions gates (term ∷ terms) =
    omega (arith, built-conjunctions gates term, all-conjunctions (built gates term).gates terms, sum_by-cons term_size term terms)

outputs-length : (gates : List Gate) (terms : List Term) → length (built_all gates terms).outputs ≡ length terms
outputs-length gates [] = refl
outputs-length gates (term ∷ terms) = ap suc (outputs-length (built gates term).gates terms)

-- the words of gates

gate-words : (base before : ℕ) (gate : Gate) → cond (is_conjunction gate) 1 0 ≤ clause_words (gate_clauses base before gate)
gate-words base before Free = omega arith
gate-words base before (And first second) = omega arith

gates-words : (base before : ℕ) (gates : List Gate) → conjunctions gates ≤ clause_words (gates_clauses base before gates)
gates-words base before [] = omega arith
gates-words base before (gate ∷ gates) =
    omega (
      arith,
      sum_by-cons (λ (g : Gate). cond (is_conjunction g) 1 0) gate gates,
      words-append (gate_clauses base before gate) (gates_clauses base (suc before) gates),
      gate-words base before gate,
      gates-words base (suc before) gates,
    )

-- a guard takes one gate
guarded-sizes : (guard : ℤ) (terms : List Term) → terms_size (map (guarded guard) terms) ≡ terms_size terms + length terms
guarded-sizes guard [] = refl
guarded-sizes guard (term ∷ terms) =
    omega (arith, sum_by-cons term_size (guarded guard term) (map (guarded guard) terms), sum_by-cons term_size term terms, guarded-sizes guard terms)

module _ (design : Design) (automaton : Automaton) (visits : ℕ) where
  abbrev width : ℕ
  width = joint_width design automaton visits

  abbrev states : ℕ → List Term
  states base = state_terms design automaton visits base

  abbrev steps : List Term
  steps = step_terms design automaton visits width

  pub few-bits : width ≤ bad_variables design automaton visits
  few-bits =
      let one = one_state design automaton visits in
      omega (arith, all-length (replicate (0 + 0 + width) Free) one.holds, length-replicate (0 + 0 + width) Free)

  -- there is a term for each signal and for each obligation
  states-many : (base : ℕ) → design.signals + count_of automaton ≤ length (states base)
  states-many base =
      let tables = valuation_terms design.signals base design.tables in
      let before = before_terms base design.tables in
      let signals = earlier_terms design base in
      let pending = map (pending_term design automaton base) (numbers_of automaton) in
      let counts = unary_terms design automaton visits base in
      omega (
        arith,
        length-append (tables ++ before ++ signals ++ pending) counts,
        length-append (tables ++ before ++ signals) pending,
        length-append (tables ++ before) signals,
        length-map-range_with_len (λ signal. guarded (earlier base signal) (Literal (had base))) 0 design.signals,
        length-map-range_with_len (pending_term design automaton base) 0 (count_of automaton),
      )

  circuit-size : joint_size design automaton visits ≡ (width + width + 1) + (terms_size (states 0) + (terms_size steps + length steps))
  circuit-size =
      let guards = unless_bad design automaton visits steps in
      omega (
        arith,
        all-length (replicate (width + width + 1) Free) (states 0 ++ guards),
        length-replicate (width + width + 1) Free,
        sum_by-append term_size (states 0) guards,
        guarded-sizes (neg_ℤ (bad_bit design automaton visits)) steps,
      )

  -- the words of a step's formula are at least its terms' gates, and two for each term
  step-words : (clauses : List (List ℤ))
      → terms_size (states 0 ++ states width ++ steps) + 2 * length (states 0 ++ states width ++ steps) ≤ clause_words (query_step design automaton visits clauses)
  step-words clauses =
      let two = two_states design automaton visits in
      let frees = replicate (0 + 0 + suc (width + width)) Free in
      let c = circuit_of two in
      let missed = some_missed width (two_size design automaton visits) clauses in
      omega (
        arith,
        words-append (whole two 0 ++ clauses) missed,
        words-append (whole two 0) clauses,
        words-append (gates_clauses 0 0 c.gates) (units (0 * length c.gates) c.hold),
        gates-words 0 0 c.gates,
        all-conjunctions frees two.holds,
        units-size (0 * length c.gates) c.hold,
        outputs-length frees two.holds,
      )

  pub small-circuit : (clauses : List (List ℤ)) → visits ≤ 16
      → (IsTooLarge (step_variables design automaton visits clauses) (query_step design automaton visits clauses) → ⊥)
      → MOST_VARIABLES < joint_size design automaton visits → ⊥
  small-circuit clauses few fits large =
      let variables : MOST_VARIABLES ≡ 2147483647 = refl in
      let words : MOST_WORDS ≡ 400000000 = refl in
      let within : MOST_WORDS < clause_words (query_step design automaton visits clauses) → ⊥ = λ many. fits (inr many) in
      let least = step-words clauses in
      let both = states 0 ++ states width in
      omega (
        arith,
        variables,
        words,
        within,
        least,
        sum_by-append term_size both steps,
        sum_by-append term_size (states 0) (states width),
        length-append both steps,
        length-append (states 0) (states width),
        states-many 0,
        states-many width,
        circuit-size,
      )
