use Rattle.std.proofs.Common.{rules, ◌≡◌, ◌<◌, ◌∙◌, ◌∷◌, length, map, neg_ℤ, ap, arith, w32}
use mir.Val.{SFits}
use Rattle.std.proofs.lemmas.Int.{to_z-of_z}
use Rattle.clauses.specs.declared.flat.TheConstants.{MOST_VARIABLES}
use Rattle.gates_nodes.proofs.Literals.{more_within}
use Rattle.gates_nodes.proofs.Sizes.{negated_all}
use Rattle.prover_bmc.proofs.Naming.{item-within}
use Rattle.prover_bmc.proofs.nodes.add_implied.Goals as goal

pub push-requires : goal.push-requires
push-requires c =
    let literal = c.args.literal in
    let cube = c.cube-item.result in
    let fits : SFits w32 c.args.literal = search rules in
    let below : c.loop-cube.cube-index < length c.args.cubes.now = omega arith in
    let here = item-within MOST_VARIABLES c.args.cubes.now c.loop-cube.cube-index cube below c.cube-item.is c.loop-cube.invariant in
    let made = simp to_z-of_z at c.in_ok-clause.ensures in
    let is : c.as_slice-in-loop-cube.result.now ≡ literal ∷ map neg_ℤ cube = c.as_slice-in-loop-cube.ensures ∙ made ∙ ap (λ l. literal ∷ map neg_ℤ l) c.as_slice.ensures in
    rw is (more_within MOST_VARIABLES literal (map neg_ℤ cube) c.requires.literal (negated_all MOST_VARIABLES cube here.0))
