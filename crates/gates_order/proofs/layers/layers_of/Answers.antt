use Rattle.std.proofs.Common.{◌≡◌, ◌-◌, ◌<◌, suc, length, get_or, ◌∙◌, subst, arith, length-set}
use Rattle.gates_order.specs.Depths.{depth_of}
use Rattle.gates_order.proofs.Depths.{depth-within}
use Rattle.gates_order.proofs.Steps.{AreLayers, layers-all, layers-next, level-told}
use Rattle.gates_order.proofs.layers.layers_of.Goals as goal

pub index_mut-requires : goal.index_mut-requires
index_mut-requires c =
    let tables = c.args.tables.now in
    let told = level-told tables c.args.levels.now c.loop-number.number c.index-tables-number.result (omega arith) c.index-tables-number.is c.requires.levels in
    let deep = depth-within (length tables) tables c.loop-number.number in
    omega (arith, told, deep, c.loop-number.invariant.size)

pub loop-number-preserved : goal.loop-number-preserved
loop-number-preserved c =
    let tables = c.args.tables.now in
    let number = c.loop-number.number in
    let level = get_or c.args.levels.now c.index-tables-number.result.output 0 - 1 in
    let told = level-told tables c.args.levels.now number c.index-tables-number.result (omega arith) c.index-tables-number.is c.requires.levels in
    let deep = depth-within (length tables) tables number in
    let depth : suc level ≡ suc (depth_of tables number) = omega (arith, told) in
    let inside : level < length c.loop-number.layers.items = omega (arith, depth, deep, c.loop-number.invariant.size) in
    record {
      size = length-set c.loop-number.layers.items level c.push.new.self ∙ c.loop-number.invariant.size;
      layers = layers-next tables c.loop-number.layers.items number level c.index_mut.result.now c.push.new.self inside c.loop-number.invariant.size depth c.index_mut.ensures.value c.in_ok-push.ensures.ok
          c.loop-number.invariant.layers;
    }

pub returns : goal.returns
returns c =
    let tables = c.args.tables.now in
    let end : c.loop-number.number ≡ length tables = omega arith in
    layers-all tables c.loop-number.layers.items c.loop-number.invariant.size (subst (λ n. AreLayers tables n c.loop-number.layers.items) end c.loop-number.invariant.layers)
