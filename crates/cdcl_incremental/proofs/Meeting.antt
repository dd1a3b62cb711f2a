-- Assignments that meet clauses, and the literals of a trail that are true under them.
use Rattle.std.proofs.Common.{◌≡◌, ℕ, zero, suc, ◌/◌, ◌%◌, ◌<◌, ◌≤◌, true, false, not, List, [], ◌∷◌, ◌++◌, length, map, take, get_or, ◌⊎◌, inl, inr, sym, ap, ◌∙◌, subst, arith}
use Rattle.std.specs.List.{Contains}
use Rattle.std.proofs.lemmas.Bool.{cases_eq, true_from_ne_false, true≢false, not-true}
use Rattle.std.proofs.lemmas.List.Elements.{All-contains, Contains-push_cases}
use Rattle.std.proofs.lemmas.List.{get_or_default}
use Rattle.clauses.specs.Live.{Numbered, clause_of}
use Rattle.clauses.specs.Models.{Assignment, is_true, meets}
use Rattle.clauses.specs.Passing.{Passes}
use Rattle.clauses.proofs.Soundness.{member_from_any, none_from_any}
use Rattle.cdcl_trail.specs.Literals.{opposite, signed}
use Rattle.cdcl_trail.specs.Path.{Path}
use Rattle.cdcl_propagation.specs.State.{State, IsSettled, HasReasons, HasReason, IsDecision, IsConflict}
use Rattle.cdcl_conflict_theory.proofs.Members.{contains-map, from_map}
use Rattle.cdcl_conflict_theory.proofs.Lower.{front_at}
use Rattle.cdcl_incremental.specs.Standing.{Holds, IsMet, AreMet}
use Rattle.cdcl.specs.Turns.{steps_at}
use Rattle.cdcl.proofs.Modelling.{meets_member}

-- a literal and its negation are not both true
not_both_at : (values : Assignment) (literal : ℕ) → literal % 2 ≡ 0 → Holds values literal → Holds values (opposite literal) → ⊥
not_both_at values literal even holds other =
    let odd : opposite literal % 2 ≡ 1 = omega arith in
    let same : opposite literal / 2 ≡ literal / 2 = omega arith in
    let here : values (suc (literal / 2)) ≡ true = rw even at holds in
    let there : not (values (suc (literal / 2))) ≡ true = rw (odd, same) at other in
    true≢false (sym here ∙ not-true (values (suc (literal / 2))) there)

pub not_both : (values : Assignment) (literal : ℕ) → Holds values literal → Holds values (opposite literal) → ⊥
not_both values literal holds other =
    elim (cases_eq (literal % 2) 0) [
      | inl even ↦ not_both_at values literal even holds other
      | inr odd ↦
          let even : opposite literal % 2 ≡ 0 = omega arith in
          let back : opposite (opposite literal) ≡ literal = omega arith in
          not_both_at values (opposite literal) even other (rw back holds)
    ]

-- a clause that is met has a true literal
pub met_by : (values : Assignment) (clause : List ℕ) → IsMet values clause → (literal : ℕ) × Contains clause literal × Holds values literal
met_by values clause met =
    let found = member_from_any (is_true values) (map signed clause) met in
    let was = from_map signed clause found.0 found.1 in
    (was.0, was.1, ap (is_true values) was.2 ∙ found.2)

pub meets_by : (values : Assignment) (clause : List ℕ) (literal : ℕ) → Contains clause literal → Holds values literal → IsMet values clause
meets_by values clause literal there holds = meets_member values (map signed clause) (signed literal) (contains-map signed clause literal there) holds

-- the literals up to a place
abbrev pub HoldsTo : Assignment → Path → ℕ → Type 0
HoldsTo values path end = (place : ℕ) → place < end → Holds values (get_or path.literals place 0)

-- a literal that has a reason is true where the literals before it are
reason_holds : (values : Assignment) (clauses : Numbered ℕ) (path : Path) (place : ℕ) → AreMet values clauses → place < length path.literals → HoldsTo values path place → HasReason clauses path place
    → Holds values (get_or path.literals place 0)
reason_holds values clauses path place met within before has =
    let found = met_by values has.clause (met (get_or path.reasons place 0) has.clause has.live) in
    elim (All-contains (λ other. (other ≡ get_or path.literals place 0) ⊎ Contains (take place path.literals) (opposite other)) has.clause found.0 has.others found.1) [
      | inl same ↦ let P : ℕ → Type 0 = λ l. Holds values l in subst P same found.2
      | inr false_ ↦
          let at = front_at (steps_at path) place (opposite found.0) (omega arith) false_ in
          let P : ℕ → Type 0 = λ l. Holds values l in
          absurd (not_both values found.0 found.2 (subst P at.2 (before at.0 at.1)))
    ]

-- Where the clauses are met and the decisions are true, all literals are.
pub trail_holds : (values : Assignment) (clauses : Numbered ℕ) (path : Path) (end : ℕ) → AreMet values clauses → HasReasons clauses path
    → ((place : ℕ) → place < length path.literals → IsDecision path place → Holds values (get_or path.literals place 0)) → end ≤ length path.literals → HoldsTo values path end
trail_holds values clauses path zero met reasons decisions within place below = absurd (omega arith)
trail_holds values clauses path (suc end) met reasons decisions within place below =
    let before = trail_holds values clauses path end met reasons decisions (omega arith) in
    elim (cases_eq place end) [
      | inl last ↦
          let here : Holds values (get_or path.literals end 0) =
          elim (reasons end (omega arith)) [
            | inl decision ↦ decisions end (omega arith) decision
            | inr has ↦ reason_holds values clauses path end met (omega arith) before has
          ] in
          rw last here
      | inr other ↦ before place (omega arith)
    ]

-- With no level but the lowest, each literal of the trail is true where the clauses are met.
no_member : (xs : List ℕ) (x : ℕ) → xs ≡ [] → Contains xs x → ⊥
no_member xs x none there = omega (arith, ap length none, there.1)

pub lowest_holds : (values : Assignment) (state : State) (literal : ℕ) → IsSettled state → state.path.limits ≡ [] → AreMet values state.clauses → Contains state.path.literals literal → Holds values literal
lowest_holds values state literal settled lowest met there =
    let all = trail_holds values state.clauses state.path (length state.path.literals) met settled.reasons
    (λ place within decision. absurd (no_member state.path.limits place lowest decision.0)) (omega arith) in
    let at : get_or state.path.literals there.0 0 ≡ literal = get_or_default state.path.literals there.0 0 literal there.1 ∙ there.2 in
    let P : ℕ → Type 0 = λ l. Holds values l in
    subst P at (all there.0 there.1)

-- a conflict there refutes the clauses
pub conflict_refutes : (values : Assignment) (state : State) (number : ℕ) → IsSettled state → state.path.limits ≡ [] → IsConflict state.clauses state.path number → AreMet values state.clauses → ⊥
conflict_refutes values state number settled lowest conflict met =
    let found = met_by values conflict.clause (met number conflict.clause conflict.live) in
    let false_ = All-contains (λ literal. Contains state.path.literals (opposite literal)) conflict.clause found.0 conflict.false_ found.1 in
    not_both values found.0 found.2 (lowest_holds values state (opposite found.0) settled lowest met false_)

-- where the literals of a set are false, a lemma with that set does not pass
refuted : (values : Assignment) (clauses : Numbered ℕ) → AreMet values clauses → (set : List ℕ) (hints : List ℕ) → ((literal : ℕ) → Contains set literal → Holds values literal → ⊥)
    → Passes opposite (clause_of clauses) set hints → ⊥
refuted values clauses met set [] falses passes = passes
refuted values clauses met set (hint ∷ []) falses passes =
    let found = met_by values passes.0 (met hint passes.0 passes.1) in
    falses found.0 (All-contains (Contains set) passes.0 found.0 passes.2 found.1) found.2
refuted values clauses met set (hint ∷ (next ∷ hints)) falses passes =
    let found = met_by values passes.0 (met hint passes.0 passes.2) in
    let holds : Holds values passes.1 =
    elim (All-contains (λ other. (other ≡ passes.1) ⊎ Contains set other) passes.0 found.0 passes.3.others found.1) [
      | inl same ↦ let P : ℕ → Type 0 = λ l. Holds values l in subst P same found.2
      | inr member ↦ absurd (falses found.0 member found.2)
    ] in
    refuted values clauses met (set ++ opposite passes.1 ∷ []) (next ∷ hints)
    (λ literal member true_. elim (Contains-push_cases set (opposite passes.1) literal member) [
      | inl old ↦ falses literal old true_
      | inr new ↦ let P : ℕ → Type 0 = λ l. Holds values l in not_both values passes.1 holds (subst P (sym new) true_)
    ])
    passes.4

-- a lemma that passes is met
pub lemma_met : (values : Assignment) (clauses : Numbered ℕ) (literals hints : List ℕ) → AreMet values clauses → Passes opposite (clause_of clauses) literals hints → IsMet values literals
lemma_met values clauses literals hints met passes =
    true_from_ne_false (meets values (map signed literals)) (λ unmet.
    refuted values clauses met literals hints
    (λ literal member holds.
    let false_ = All-contains (λ l. is_true values l ≡ false) (map signed literals) (signed literal) (none_from_any (is_true values) (map signed literals) unmet) (contains-map signed literals literal member) in
    true≢false (sym holds ∙ false_))
    passes)
