use Rattle.std.proofs.Common.{rules, ◌≡◌, ◌∙◌, ◌<◌, [], ◌∷◌, pos, true, arith, ap, sym, length, get_or, take, w32}
use mir.Val.{SFits}
use Rattle.std.specs.List.{list_all}
use Rattle.std.proofs.lemmas.Int.{to_z-of_z}
use Rattle.std.proofs.lemmas.List.{take_more}
use Rattle.clauses.specs.Models.{is_true}
use Rattle.run_terms.specs.Formulas.{values_of}
use Rattle.joint_theory.proofs.Parts.{append-from, one-from}
use Rattle.joint.proofs.evaluating.all_true.Goals as goal

pub loop-literal-preserved : goal.loop-literal-preserved
loop-literal-preserved c =
    let literals = c.args.literals.now in
    let i = c.loop-literal.literal-index in
    let below : i < length literals = omega arith in
    let v = values_of c.args.values.now in
    let fits : SFits w32 (get_or literals i (pos 0)) = search rules in
    let is = simp to_z-of_z at c.is_true.ensures in
    let here : is_true v (get_or literals i (pos 0)) ≡ true = sym is ∙ c.if-not-is_true.false in
    ap (list_all (is_true v)) (take_more literals i (pos 0) below)
    ∙ append-from (is_true v) (take i literals) (get_or literals i (pos 0) ∷ []) c.loop-literal.invariant
    (one-from (is_true v) (get_or literals i (pos 0)) here)
