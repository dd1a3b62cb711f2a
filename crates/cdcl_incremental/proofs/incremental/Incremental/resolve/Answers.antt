use Rattle.std.proofs.Common.{◌≡◌, [], length, refl, sym, ap, ◌∙◌, arith}
use Rattle.std.proofs.lemmas.Bool.{eqb-true}
use Rattle.std.proofs.lemmas.List.{nil_from_length}
use Rattle.cdcl_trail.specs.Path.{Path}
use Rattle.cdcl_incremental.specs.Standing.{formula_of}
use Rattle.cdcl_incremental.proofs.Asking.{continues_refuted, core_none}
use Rattle.cdcl_incremental.proofs.Meeting.{conflict_refutes}
use Rattle.cdcl_incremental.proofs.incremental.Incremental.resolve.Goals as goal

pub returns-then-is_empty-clause-continues : goal.returns-then-is_empty-clause-continues
returns-then-is_empty-clause-continues c =
    let solver = c.args.self.now in
    let state = solver.propagator in
    let limits : c.limits.result.now ≡ state.path.limits = c.limits.ensures.is ∙ ap (λ (p : Path). p.limits) c.trail.ensures.is in
    let none = eqb-true (length c.limits.result.now) 0 (sym c.if-is_empty.ensures) in
    let lowest : state.path.limits ≡ [] = nil_from_length state.path.limits (omega (arith, none, ap length limits)) in
    continues_refuted solver _ refl refl refl refl refl refl refl (λ values met. conflict_refutes values state c.args.conflict c.trail.ensures.settled lowest c.requires.conflict met) c.requires.grown

pub returns-then-is_empty-clause-ends : goal.returns-then-is_empty-clause-ends
returns-then-is_empty-clause-ends c = λ assumed.
    let solver = c.args.self.now in
    let state = solver.propagator in
    let limits : c.limits.result.now ≡ state.path.limits = c.limits.ensures.is ∙ ap (λ (p : Path). p.limits) c.trail.ensures.is in
    let none = eqb-true (length c.limits.result.now) 0 (sym c.if-is_empty.ensures) in
    let lowest : state.path.limits ≡ [] = nil_from_length state.path.limits (omega (arith, none, ap length limits)) in
    core_none (formula_of solver) assumed c.new.result c.new.ensures
    (λ values model. conflict_refutes values state c.args.conflict c.trail.ensures.settled lowest c.requires.conflict (c.requires.grown.stands.follows values model))
