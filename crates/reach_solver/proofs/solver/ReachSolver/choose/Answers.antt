use Rattle.std.proofs.Common.{◌≡◌, ◌<◌, refl, sym, ap, ◌∙◌, subst, ℕ, ◌+◌, ℤ, negsuc, List, [], ◌∷◌, ◌++◌, length, drop, take, arith}
use Rattle.std.specs.Prelude.{IsTrue}
use Rattle.std.proofs.lemmas.List.{length-append, take-append-le}
use Rattle.cdcl_incremental.specs.Questions.{Formula}
use Rattle.clauses.specs.Literals.{clause_within, clauses_within}
use Rattle.clauses.specs.declared.flat.TheConstants.{MOST_VARIABLES}
use Rattle.gates_theory.proofs.Within.{wider}
use Rattle.reach_solver.specs.Fields.{selecting_of}
use Rattle.reach_solver.specs.Solvers.{selected, Grows, Selecting}
use Rattle.reach_solver.specs.Texts.{text_of}
use Rattle.reach_solver.proofs.Selectors.{chosen-grows, drop-more, guard-within, selected-more, within-more}
use Rattle.reach_solver.proofs.solver.ReachSolver.choose.Goals as goal

within : (c : goal.After-as_slice) → IsTrue (clause_within c.self.inside.variables c.args.clause.now)
within c =
    subst (λ (s : Selecting). IsTrue (clause_within s.variables c.args.clause.now)) (sym c.self.view_is) c.requires

pub push-requires : goal.push-requires
push-requires c =
    wider c.self.inside.variables MOST_VARIABLES
    (omega (arith, c.self.invariant.room, c.variables-few.ensures.is, c.variables-few.ensures.few)) c.args.clause.now
    (subst (λ (s : Selecting). IsTrue (clause_within s.variables c.args.clause.now)) (sym c.self.view_is) c.requires)

pub add-requires : goal.add-requires
add-requires c =
    let before : ℕ = c.self.inside.variables + length c.self.inside.chosen in
    subst (λ (l : List ℤ). IsTrue (clause_within c.open_to.new.growing.variables l))
    (sym (c.as_slice.ensures ∙ c.in_ok-guarded.ensures))
    (guard-within c.self.inside.variables c.open_to.new.growing.variables c.args.clause.now _ (within c)
    (omega (arith, c.self.invariant.room, c.open_to.ensures.more)) (c.if-not-open_to.ensures.yes refl))

-- the clauses of the solver with the new one, and those that have selectors with it
clauses-are : (c : goal.In_default) → c.add.new.self.clauses
    ≡ c.self.inside.growing.clauses
    ++ (c.args.clause.now ++ negsuc (c.self.inside.variables + length c.self.inside.chosen) ∷ []) ∷ []
clauses-are c =
    ap (λ (f : Formula). f.clauses) (c.in_default.ensures.ok)
    ∙ ap (λ (cs : List (List ℤ)). cs ++ c.as_slice.result.now ∷ []) c.open_to.ensures.clauses
    ∙ ap (λ (l : List ℤ). c.self.inside.growing.clauses ++ l ∷ []) (c.as_slice.ensures ∙ c.in_ok-guarded.ensures)
    ∙ ap (λ (n : ℕ). c.self.inside.growing.clauses ++ (c.args.clause.now ++ negsuc (c.self.inside.variables + n) ∷ []) ∷ [])
    c.len-place.ensures

variables-are : (c : goal.In_default) → c.add.new.self.variables ≡ c.open_to.new.growing.variables
variables-are c = ap (λ (f : Formula). f.variables) (c.in_default.ensures.ok)

chosen-are : (c : goal.In_default) → c.push.new.self ≡ c.self.inside.chosen ++ c.args.clause.now ∷ []
chosen-are c = c.in_ok-push.ensures.ok

pub invariant_of-self-in_default : goal.invariant_of-self-in_default
invariant_of-self-in_default c =
    let inside = c.self.inside in
    let clause = c.args.clause.now in
    let guard : List ℤ = clause ++ negsuc (inside.variables + length inside.chosen) ∷ [] in
    let longer : length c.push.new.self ≡ length inside.chosen + 1 =
    ap (λ (cs : List (List ℤ)). length cs) (chosen-are c) ∙ length-append inside.chosen (clause ∷ []) in
    let behind : inside.variables + length inside.chosen < c.open_to.new.growing.variables =
    subst (λ (n : ℕ). inside.variables + n < c.open_to.new.growing.variables) c.len-place.ensures
    (c.if-not-open_to.ensures.yes refl) in
    record {
      formula = omega (
        arith,
        c.self.invariant.formula,
        ap (λ (cs : List (List ℤ)). length cs) (clauses-are c),
        length-append inside.growing.clauses (guard ∷ []),
      );
      rest = ap (λ (cs : List (List ℤ)). drop inside.count cs) (clauses-are c)
          ∙ drop-more inside.count inside.growing.clauses guard c.self.invariant.formula
          ∙ ap (λ (cs : List (List ℤ)). cs ++ guard ∷ []) c.self.invariant.rest
          ∙ sym (selected-more inside.variables inside.chosen clause)
          ∙ ap (selected inside.variables) (sym (chosen-are c));
      room = omega (arith, longer, variables-are c, behind);
      within = subst (λ (cs : List (List ℤ)). IsTrue (clauses_within inside.variables cs)) (sym (chosen-are c))
          (within-more inside.variables inside.chosen clause c.self.invariant.within
          (subst (λ (s : Selecting). IsTrue (clause_within s.variables clause)) (sym c.self.view_is) c.requires));
      text = c.self.invariant.text
          ∙ ap text_of (sym (ap (take inside.count) (clauses-are c)
          ∙ take-append-le inside.count inside.growing.clauses (guard ∷ []) c.self.invariant.formula));
    }

pub returns-clause-grows : goal.returns-clause-grows
returns-clause-grows c =
    let inside = c.self.inside in
    let new : Selecting =
    record { variables = inside.variables; clauses = c.add.new.self.clauses; chosen = c.push.new.self } in
    subst (λ (s : Selecting). Grows s new) c.self.view_is
    (chosen-grows (selecting_of inside) new c.args.clause.now refl (chosen-are c.before) (clauses-are c.before))
