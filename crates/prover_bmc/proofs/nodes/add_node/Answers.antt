use Rattle.std.proofs.Common.{rules, ◌≡◌, ◌≤◌, ◌+◌, ◌∙◌, ◌∷◌, [], suc, ap, sym, subst, arith, w32}
use mir.Val.{SFits}
use Rattle.std.specs.Bool.{IsTrue}
use Rattle.std.proofs.lemmas.Bool.{and_parts}
use Rattle.std.proofs.lemmas.Int.{to_z-of_z}
use Rattle.clauses.specs.declared.flat.TheConstants.{MOST_VARIABLES}
use Rattle.clauses.specs.Literals.{is_within}
use Rattle.gates_theory.proofs.Within.{wider}
use Rattle.gates_nodes.specs.declared.node.Node.{Node}
use Rattle.gates_nodes.specs.declared.node.Node.TheVariants.{And, Lut}
use Rattle.gates_nodes.specs.Nodes.{node_within}
use Rattle.gates_nodes.proofs.Literals.{wider_literal}
use Rattle.prover_bmc.proofs.Naming.{node_at, within-at}
use Rattle.prover_bmc.proofs.nodes.add_node.Goals as goal

pub add_conjunction-requires-clause-first : goal.add_conjunction-requires-clause-first
add_conjunction-requires-clause-first c =
    let making = c.args.builder.now in
    let before = suc making.given + c.args.place in
    let first = c.in-And.first in
    let second = c.in-And.second in
    let fits_first : SFits w32 c.in-And.first = search rules in
    let node : node_at c.nodes-nodes.result.now c.args.place ≡ And first second = c.in-And.is in
    let within = subst (λ (n : Node). IsTrue (node_within before n)) (ap (λ nodes. node_at nodes c.args.place) (sym c.nodes-nodes.ensures.is) ∙ node) (within-at (suc making.given) c.args.place making.nodes c.requires c.nodes-nodes.ensures.sound) in
    let order : before ≤ MOST_VARIABLES = omega (arith, c.nodes-nodes.ensures.few, c.requires) in
    rw to_z-of_z (wider_literal before MOST_VARIABLES order first (and_parts (is_within before first) (is_within before second) within).0)

pub add_conjunction-requires-clause-second : goal.add_conjunction-requires-clause-second
add_conjunction-requires-clause-second c =
    let making = c.args.builder.now in
    let before = suc making.given + c.args.place in
    let first = c.in-And.first in
    let second = c.in-And.second in
    let fits_second : SFits w32 c.in-And.second = search rules in
    let node : node_at c.nodes-nodes.result.now c.args.place ≡ And first second = c.in-And.is in
    let within = subst (λ (n : Node). IsTrue (node_within before n)) (ap (λ nodes. node_at nodes c.args.place) (sym c.nodes-nodes.ensures.is) ∙ node) (within-at (suc making.given) c.args.place making.nodes c.requires c.nodes-nodes.ensures.sound) in
    let order : before ≤ MOST_VARIABLES = omega (arith, c.nodes-nodes.ensures.few, c.requires) in
    rw to_z-of_z (wider_literal before MOST_VARIABLES order second (and_parts (is_within before first) (is_within before second) within).1)

pub add_cover-requires-clause-literals : goal.add_cover-requires-clause-literals
add_cover-requires-clause-literals c =
    let making = c.args.builder.now in
    let before = suc making.given + c.args.place in
    let first = c.in-Lut.first in
    let second = c.in-Lut.second in
    let third = c.in-Lut.third in
    let fourth = c.in-Lut.fourth in
    let fits_first : SFits w32 c.in-Lut.first = search rules in
    let fits_second : SFits w32 c.in-Lut.second = search rules in
    let fits_third : SFits w32 c.in-Lut.third = search rules in
    let fits_fourth : SFits w32 c.in-Lut.fourth = search rules in
    let node : node_at c.nodes-nodes.result.now c.args.place ≡ Lut c.in-Lut.cover first second third fourth = c.in-Lut.is in
    let within = subst (λ (n : Node). IsTrue (node_within before n)) (ap (λ nodes. node_at nodes c.args.place) (sym c.nodes-nodes.ensures.is) ∙ node) (within-at (suc making.given) c.args.place making.nodes c.requires c.nodes-nodes.ensures.sound) in
    let order : before ≤ MOST_VARIABLES = omega (arith, c.nodes-nodes.ensures.few, c.requires) in
    simp to_z-of_z (wider before MOST_VARIABLES order (first ∷ second ∷ third ∷ fourth ∷ []) within)
