-- The literals of moves as terms, and how many gates they take.
use Rattle.std.proofs.Common.{◌≡◌, ℕ, ◌+◌, ◌*◌, ◌<◌, ◌≤◌, neg_ℤ, true, List, [], ◌∷◌, ◌++◌, map, length, refl, ◌∙◌, arith}
use Rattle.std.specs.Prelude.{All, flat_map}
use Rattle.std.specs.Bool.{IsTrue}
use Rattle.std.specs.List.{list_all}
use Rattle.std.proofs.lemmas.Bool.{and_from}
use Rattle.std.proofs.lemmas.List.Folds.{list_all-append}
use Rattle.std.proofs.lemmas.List.Elements.{All-head, All-tail}
use Rattle.std.proofs.lemmas.List.Sums.{sum_by-cons, sum_by-append}
use Rattle.clauses.specs.Literals.{is_within, clause_within}
use Rattle.gates_theory.specs.Terms.{term_within, term_size}
use Rattle.gates_theory.specs.Terms.Term.{Literal}
use Rattle.gates_theory.proofs.Within.{negated_within}
use Rattle.netlist.specs.declared.latch.Init.{Init}
use Rattle.netlist.specs.declared.latch.Init.TheVariants as inits
use Rattle.netlist.specs.declared.latch.Latch.{Latch}
use Rattle.run_terms.specs.Moves.{same_term, shift_terms, latch_term, move_terms, init_literals, first_literals}
use Rattle.run_terms.specs.Positions.{had, earlier, current, position_width}
use Rattle.run_terms.specs.Sizes.{terms_size}
use Rattle.run_terms.proofs.MoveValues.{LatchOver}
use Rattle.run_terms.proofs.Positions.{had-within, earlier-within, current-within}
use Rattle.run_terms.proofs.Ranges.{below-all, sum-most}

latches-within : (signals base next variables : ℕ) (latches : List Latch) → base + position_width signals ≤ variables → next + position_width signals ≤ variables
    → All (LatchOver signals) latches → IsTrue (list_all (term_within variables) (map (latch_term signals base next) latches))
latches-within signals base next variables [] fits also over = refl
latches-within signals base next variables (latch ∷ latches) fits also over =
    let within = All-head (LatchOver signals) latch latches over in
    and_from (term_within variables (latch_term signals base next latch)) (list_all (term_within variables) (map (latch_term signals base next) latches))
    (and_from (is_within variables (current signals next latch.output)) (is_within variables (current signals base latch.input))
    (current-within signals next variables latch.output also within.1) (current-within signals base variables latch.input fits within.0))
    (latches-within signals base next variables latches fits also (All-tail (LatchOver signals) latch latches over))

pub moves-within : (signals base next variables : ℕ) (latches : List Latch) → base + position_width signals ≤ variables → next + position_width signals ≤ variables
    → All (LatchOver signals) latches → IsTrue (list_all (term_within variables) (move_terms signals base next latches))
moves-within signals base next variables latches fits also over =
    let shifts = below-all (term_within variables) (λ signal. same_term (earlier next signal) (current signals base signal)) signals (λ i below.
    and_from (is_within variables (earlier next i)) (is_within variables (current signals base i)) (earlier-within signals next variables i also below) (current-within signals base variables i fits below)) in
    and_from (is_within variables (had next)) (list_all (term_within variables) (shift_terms signals base next ++ map (latch_term signals base next) latches)) (had-within signals next variables also)
    (list_all-append (term_within variables) (shift_terms signals base next) (map (latch_term signals base next) latches)
    ∙ and_from (list_all (term_within variables) (shift_terms signals base next)) (list_all (term_within variables) (map (latch_term signals base next) latches)) shifts
    (latches-within signals base next variables latches fits also over))

init-within : (signals base variables signal : ℕ) (init : Init) → base + position_width signals ≤ variables → signal < signals
    → IsTrue (clause_within variables (init_literals init (current signals base signal)))
init-within signals base variables signal inits.Zero fits below =
    and_from (is_within variables (neg_ℤ (current signals base signal))) true (negated_within variables (current signals base signal) (current-within signals base variables signal fits below)) refl
init-within signals base variables signal inits.One fits below = and_from (is_within variables (current signals base signal)) true (current-within signals base variables signal fits below) refl
init-within signals base variables signal inits.Free fits below = refl

inits-within : (signals base variables : ℕ) (latches : List Latch) → base + position_width signals ≤ variables → All (LatchOver signals) latches
    → IsTrue (clause_within variables (flat_map (λ latch. init_literals latch.init (current signals base latch.output)) latches))
inits-within signals base variables [] fits over = refl
inits-within signals base variables (latch ∷ latches) fits over =
    let first = init_literals latch.init (current signals base latch.output) in
    let rest = flat_map (λ (other : Latch). init_literals other.init (current signals base other.output)) latches in
    list_all-append (is_within variables) first rest
    ∙ and_from (clause_within variables first) (clause_within variables rest) (init-within signals base variables latch.output latch.init fits (All-head (LatchOver signals) latch latches over).1)
    (inits-within signals base variables latches fits (All-tail (LatchOver signals) latch latches over))

pub first-within : (signals base variables : ℕ) (latches : List Latch) → base + position_width signals ≤ variables → All (LatchOver signals) latches
    → IsTrue (clause_within variables (first_literals signals base latches))
first-within signals base variables latches fits over =
    and_from (is_within variables (neg_ℤ (had base))) (clause_within variables (flat_map (λ latch. init_literals latch.init (current signals base latch.output)) latches))
    (negated_within variables (had base) (had-within signals base variables fits)) (inits-within signals base variables latches fits over)

latches-size : (signals base next : ℕ) (latches : List Latch) → terms_size (map (latch_term signals base next) latches) ≡ 3 * length latches
latches-size signals base next [] = omega arith
latches-size signals base next (latch ∷ latches) =
    omega (arith, latches-size signals base next latches, sum_by-cons term_size (latch_term signals base next latch) (map (latch_term signals base next) latches))

-- at most three gates for each signal and each latch
pub moves-size : (signals base next : ℕ) (latches : List Latch) → terms_size (move_terms signals base next latches) ≤ 3 * signals + 3 * length latches
moves-size signals base next latches =
    let shifts = sum-most term_size (λ signal. same_term (earlier next signal) (current signals base signal)) 3 0 signals (λ i. omega arith) in
    omega (
      arith,
      shifts,
      latches-size signals base next latches,
      sum_by-append term_size (shift_terms signals base next) (map (latch_term signals base next) latches),
      sum_by-cons term_size (Literal (had next)) (shift_terms signals base next ++ map (latch_term signals base next) latches),
    )
