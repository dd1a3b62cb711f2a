use Rattle.std.proofs.Common.{◌≡◌, sym, ◌∙◌, subst, arith}
use Rattle.std.proofs.lemmas.Bool.Decides.{Decides-int_eq}
use Rattle.std.proofs.lemmas.Slice.Eq.{slice_eq-Decides}
use Rattle.reach_solver.specs.Fields.{selecting_of}
use Rattle.reach_solver.specs.Solvers.{IsOver, Selecting}
use Rattle.reach_solver.proofs.Texts.{over-text}
use Rattle.reach_solver.proofs.solver.ReachSolver.is_over.Goals as goal

pub returns : goal.returns
returns c = λ equal.
    let inside = c.self.inside in
    let formula = c.args.formula.now in
    let text : c.as_slice.result.now ≡ c.args.text.now =
    (slice_eq-Decides Decides-int_eq c.as_slice.result.now c.args.text.now c.eq.result c.eq.ensures).0 equal in
    let same : inside.variables ≡ formula.variables = omega (arith, c.if-self-formula.false) in
    subst (λ (s : Selecting). IsOver s formula.variables formula.clauses) c.self.view_is
    (over-text (selecting_of inside) inside.count formula.variables formula.clauses same formula.within
    (sym c.self.invariant.text ∙ sym c.as_slice.ensures ∙ text ∙ c.requires) c.self.invariant.rest)
