use Rattle.std.proofs.Common.{rules, ◌≡◌, ◌<◌, ◌∙◌, ◌∷◌, [], suc, add-one, length, drop, map, neg_ℤ, Err, Ok, ap, subst, arith, w32, List, ℤ}
use mir.Val.{SFits}
use Rattle.std.proofs.lemmas.Int.{to_z-of_z}
use Rattle.std.proofs.lemmas.Result.{err_from_is_err_and}
use Rattle.clauses.specs.declared.flat.TheConstants.{MOST_VARIABLES}
use Rattle.gates_theory.proofs.Within.{wider}
use Rattle.gates_nodes.specs.Clauses.{implied}
use Rattle.gates_nodes.proofs.Literals.{more_within}
use Rattle.gates_nodes.proofs.Sizes.{negated_all}
use Rattle.gates_formula.specs.Adding.{Adds}
use Rattle.gates_formula.proofs.Additions.{AddsSoFar, Clauses, item-at, item-within, so_far-err, so_far-step}
use Rattle.gates_formula.proofs.implied.add_implied.Goals as goal

pub implication-requires : goal.implication-requires
implication-requires c =
    let n = c.args.cnf.now.variables in
    let below : c.loop-cube.cube-index < length c.args.cubes.now = omega arith in
    let here = item-within n c.args.cubes.now c.loop-cube.cube-index c.cube-item.result below c.cube-item.is c.loop-cube.invariant.within in
    rw c.as_slice.ensures (wider n MOST_VARIABLES c.args.cnf.now.few c.cube-item.result here.0)

pub add-requires : goal.add-requires
add-requires c =
    let n = c.args.cnf.now.variables in
    let literal = c.args.literal in
    let cube = c.cube-item.result in
    let fits_literal : SFits w32 c.args.literal = search rules in
    let below : c.loop-cube.cube-index < length c.args.cubes.now = omega arith in
    let here = item-within n c.args.cubes.now c.loop-cube.cube-index cube below c.cube-item.is c.loop-cube.invariant.within in
    let made = simp to_z-of_z at c.in_ok-clause.ensures in
    let is : c.as_slice-in-loop-cube.result.now ≡ literal ∷ map neg_ℤ cube = c.as_slice-in-loop-cube.ensures ∙ made ∙ ap (λ l. literal ∷ map neg_ℤ l) c.as_slice.ensures in
    rw (c.loop-cube.invariant.so_far.variables, is) (more_within n literal (map neg_ℤ cube) c.requires.literal (negated_all n cube here.0))

pub returns-in_err-add : goal.returns-in_err-add
returns-in_err-add c =
    let old = c.args.cnf.now in
    let literal = c.args.literal in
    let cube = c.cube-item.result in
    let cubes = c.args.cubes.now in
    let i = c.loop-cube.cube-index in
    let fits_literal : SFits w32 c.args.literal = search rules in
    let below : c.loop-cube.cube-index < length c.args.cubes.now = omega arith in
    let made = simp to_z-of_z at c.in_ok-clause.ensures in
    let is : c.as_slice-in-loop-cube.result.now ≡ literal ∷ map neg_ℤ cube = c.as_slice-in-loop-cube.ensures ∙ made ∙ ap (λ l. literal ∷ map neg_ℤ l) c.as_slice.ensures in
    let so_far = simp to_z-of_z at c.loop-cube.invariant.so_far in
    let left = subst (λ (rest : Clauses). AddsSoFar old c.loop-cube.cnf (implied literal rest) (implied literal cubes)) (item-at cubes i cube below c.cube-item.is) so_far in
    let failed = subst (λ (clause : List ℤ). Adds {A = Unit {0}} c.loop-cube.cnf c.add.new.cnf (clause ∷ []) (Err c.in_err-add.field-0.0)) is c.in_err-add.ensures in
    let p = err_from_is_err_and c.from_residual-in_err-add.result c.from_residual-in_err-add.ensures.1 in
    rw (p.1, p.2) (so_far-err old c.loop-cube.cnf c.add.new.cnf ((literal ∷ map neg_ℤ cube) ∷ []) (implied literal (drop (suc i) cubes)) (implied literal cubes) c.in_err-add.field-0.0 left failed)

pub loop-cube-preserved : goal.loop-cube-preserved
loop-cube-preserved c =
    let old = c.args.cnf.now in
    let literal = c.args.literal in
    let cube = c.cube-item.result in
    let cubes = c.args.cubes.now in
    let i = c.loop-cube.cube-index in
    let fits_literal : SFits w32 c.args.literal = search rules in
    let below : c.loop-cube.cube-index < length c.args.cubes.now = omega arith in
    let made = simp to_z-of_z at c.in_ok-clause.ensures in
    let is : c.as_slice-in-loop-cube.result.now ≡ literal ∷ map neg_ℤ cube = c.as_slice-in-loop-cube.ensures ∙ made ∙ ap (λ l. literal ∷ map neg_ℤ l) c.as_slice.ensures in
    let so_far = simp to_z-of_z at c.loop-cube.invariant.so_far in
    let left = subst (λ (rest : Clauses). AddsSoFar old c.loop-cube.cnf (implied literal rest) (implied literal cubes)) (item-at cubes i cube below c.cube-item.is) so_far in
    let added = subst (λ (clause : List ℤ). Adds {A = Unit {0}} c.loop-cube.cnf c.add.new.cnf (clause ∷ []) (Ok c.in_ok-add.field-0)) is c.in_ok-add.ensures in
    rw (to_z-of_z, add-one) (record {
      so_far = so_far-step old c.loop-cube.cnf c.add.new.cnf ((literal ∷ map neg_ℤ cube) ∷ []) (implied literal (drop (suc i) cubes)) (implied literal cubes) c.in_ok-add.field-0 left added;
      within = (item-within old.variables cubes i cube below c.cube-item.is c.loop-cube.invariant.within).1;
    })
