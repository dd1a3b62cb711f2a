use Rattle.std.proofs.Common.{◌≡◌, refl, sym, ap, ◌∙◌, Some, true}
use Rattle.std.specs.Prelude.{slice_get}
use Rattle.reach_solver.specs.Solvers.{Selecting}
use Rattle.std.proofs.lemmas.Bool.Decides.{Decides-int_eq}
use Rattle.std.proofs.lemmas.Slice.Eq.{slice_eq-Decides}
use Rattle.reach_solver.proofs.solver.ReachSolver.find.Goals as goal

pub returns-then-eq : goal.returns-then-eq
returns-then-eq c =
    let equal : c.at.result.now ≡ c.args.clause.now =
    (slice_eq-Decides Decides-int_eq c.at.result.now c.args.clause.now true c.if-eq.ensures).0 refl in
    ap (λ (t : Selecting). slice_get t.chosen c.in_ok-place.place) (sym c.self.view_is) ∙ c.at.ensures.is ∙ ap Some equal
