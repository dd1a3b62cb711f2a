use Rattle.std.proofs.Common.{rules, ◌≡◌, ◌∙◌, ◌++◌, neg_ℤ, Err, ap, sym, subst, w32}
use mir.Val.{SFits}
use Rattle.std.proofs.lemmas.Int.{to_z-of_z}
use Rattle.std.proofs.lemmas.Result.{err_from_is_err_and}
use Rattle.gates_nodes.specs.declared.cover.Cover.{Cover}
use Rattle.gates_nodes.specs.Clauses.{implied}
use Rattle.gates_nodes.specs.Nodes.{cover_at, no_cover}
use Rattle.gates_nodes.specs.Tables.{cubes}
use Rattle.gates_builder.proofs.CubeSteps.{get-is}
use Rattle.gates_formula.specs.Adding.{Adds}
use Rattle.gates_formula.proofs.Additions.{adds-first, adds-then}
use Rattle.gates_formula.proofs.asked.add_cover.Goals as goal

pub returns-in_err-add_rows : goal.returns-in_err-add_rows
returns-in_err-add_rows c =
    let old = c.args.cnf.now in
    let making = c.args.builder.now in
    let literals = c.args.literals.now in
    let output = c.args.output in
    let cover = c.at-cover.result.now in
    let fits_output : SFits w32 c.args.output = search rules in
    let is : cover_at making.covers c.args.cover ≡ cover = ap (λ covers. cover_at covers c.args.cover) (sym c.covers-covers.ensures) ∙ get-is c.covers-covers.result.now c.args.cover cover no_cover c.at-cover.ensures in
    let failed = rw c.given-given.ensures.is at (simp to_z-of_z at c.in_err-add_rows.ensures) in
    let on = implied output (cubes making.given cover.on literals) in
    let off = implied (neg_ℤ output) (cubes making.given cover.off literals) in
    let p = err_from_is_err_and c.from_residual.result c.from_residual.ensures.1 in
    rw (p.1, p.2) (subst (λ (x : Cover). Adds {A = Unit {0}} old c.add_rows.new.cnf (implied output (cubes making.given x.on literals) ++ implied (neg_ℤ output) (cubes making.given x.off literals)) (Err c.in_err-add_rows.field-0.0)) (sym is)
    (adds-first old c.add_rows.new.cnf on off c.in_err-add_rows.field-0.0 failed))

pub returns : goal.returns
returns c =
    let old = c.args.cnf.now in
    let making = c.args.builder.now in
    let literals = c.args.literals.now in
    let output = c.args.output in
    let cover = c.at-cover.result.now in
    let fits_output : SFits w32 c.args.output = search rules in
    let fits_negated : SFits w32 c.negated-2.result = search rules in
    let is : cover_at making.covers c.args.cover ≡ cover = ap (λ covers. cover_at covers c.args.cover) (sym c.covers-covers.ensures) ∙ get-is c.covers-covers.result.now c.args.cover cover no_cover c.at-cover.ensures in
    let added = rw c.given-given.ensures.is at (simp to_z-of_z at c.in_ok-add_rows.ensures) in
    let negated = simp to_z-of_z at c.negated-2.ensures.is in
    let then = rw (c.given-given.ensures.is, negated) at (simp to_z-of_z at c.add_rows-2.ensures) in
    let on = implied output (cubes making.given cover.on literals) in
    let off = implied (neg_ℤ output) (cubes making.given cover.off literals) in
    subst (λ (x : Cover). Adds {A = Unit {0}} old c.add_rows-2.new.cnf (implied output (cubes making.given x.on literals) ++ implied (neg_ℤ output) (cubes making.given x.off literals)) c.add_rows-2.result) (sym is)
    (adds-then old c.add_rows.new.cnf c.add_rows-2.new.cnf on off c.in_ok-add_rows.field-0 c.add_rows-2.result added then)
