use Rattle.std.proofs.Common.{rules, ◌∙◌, sym, List, subst, w32}
use mir.Val.{SFits}
use Rattle.std.proofs.lemmas.Int.{to_z-of_z}
use Rattle.gates_theory.specs.Terms.{Term}
use Rattle.joint_theory.specs.Sliced.{kept_by}
use Rattle.netlist.specs.declared.latch.Latch.{Latch}
use Rattle.run_gates.specs.Building.{BuildsAll}
use Rattle.run_terms.specs.Moves.{latch_term}
use Rattle.joint.proofs.KeptTerms.{kept-one}
use Rattle.joint.proofs.kept.KeptLatchesKeeping.add_kept.Goals as goal

pub returns-then-is_kept : goal.returns-then-is_kept
returns-then-is_kept c =
    let keeping = c.args.self.now in
    let product = keeping.product in
    let fits_next : SFits w32 c.current.result = search rules in
    let fits_now : SFits w32 c.current-then-is_kept.result = search rules in
    let held = simp to_z-of_z at c.hold_same.ensures in
    let added = simp (
      c.current.ensures.is,
      c.current-then-is_kept.ensures.is,
      c.position_at-next.ensures.signals,
      c.position_at-next.ensures.base,
      c.position-now.ensures.signals,
      c.position-now.ensures.base,
    ) at held in
    subst (λ (terms : List Term). BuildsAll c.args.gates.now c.hold_same.new.gates c.args.held.now c.hold_same.new.held terms c.hold_same.result)
    (sym (kept-one (λ (latch : Latch). kept_by keeping.kept.now latch.output) (latch_term product.netlist.now.signals 0 product.width)
    _ c.at-latch.result.now (rw c.latches.ensures at c.at-latch.ensures) (sym c.is_kept.ensures ∙ c.if-is_kept.true))) added
