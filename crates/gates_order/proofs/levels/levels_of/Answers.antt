use Rattle.std.proofs.Common.{◌≡◌, ◌+◌, ◌<◌, length, get_or, ap, ◌∙◌, subst, arith, length-set}
use Rattle.netlist.specs.declared.table.Table.{Table}
use Rattle.netlist.proofs.Driving.{output-within}
use Rattle.gates_order.specs.Kept.{AreLevels}
use Rattle.gates_order.proofs.Depths.{depth-within}
use Rattle.gates_order.proofs.Graphs.{few-tables}
use Rattle.gates_order.proofs.Steps.{depth-found, levels-tell, levels-written, table-read}
use Rattle.gates_order.proofs.levels.levels_of.Goals as goal

pub overflow_add-depth : goal.overflow_add-depth
overflow_add-depth c =
    let design = c.args.netlist.now in
    let order = c.args.order.now in
    let place = c.loop-number.number-index in
    let levels = c.loop-number.levels.items in
    let table = c.index-tables-number.result in
    let lt : place < length order = omega arith in
    let sound = c.soundness_law.ensures.sound in
    let table_is = table-read design.tables c.as_slice-tables.result.now (get_or order place 0) table (c.requires.order.within place 0 lt) (c.as_slice-tables.ensures ∙ c.tables.ensures) c.index-tables-number.is in
    let depth = depth-found design sound order c.requires.order place levels c.deref.result.now c.as_slice.result.now table c.deepest-depth.result lt c.loop-number.invariant.levels table_is
    c.deref.ensures.value c.as_slice.ensures c.deepest-depth.ensures in
    let few = few-tables design sound in
    let deep = depth-within (length design.tables) design.tables (get_or order place 0) in
    omega (arith, few, deep, depth, c.signals.ensures)

pub index_mut-requires : goal.index_mut-requires
index_mut-requires c =
    let design = c.args.netlist.now in
    let order = c.args.order.now in
    let place = c.loop-number.number-index in
    let table = c.index-tables-number.result in
    let lt : place < length order = omega arith in
    let sound = c.soundness_law.ensures.sound in
    let within = c.requires.order.within place 0 lt in
    let table_is = table-read design.tables c.as_slice-tables.result.now (get_or order place 0) table within (c.as_slice-tables.ensures ∙ c.tables.ensures) c.index-tables-number.is in
    let inside = output-within design sound (get_or order place 0) within in
    let same = ap (λ (t : Table). t.output) table_is in
    omega (arith, inside, same, c.loop-number.invariant.size)

pub loop-number-preserved : goal.loop-number-preserved
loop-number-preserved c =
    let design = c.args.netlist.now in
    let order = c.args.order.now in
    let place = c.loop-number.number-index in
    let levels = c.loop-number.levels.items in
    let table = c.index-tables-number.result in
    let lt : place < length order = omega arith in
    let sound = c.soundness_law.ensures.sound in
    let table_is = table-read design.tables c.as_slice-tables.result.now (get_or order place 0) table (c.requires.order.within place 0 lt) (c.as_slice-tables.ensures ∙ c.tables.ensures) c.index-tables-number.is in
    let depth = depth-found design sound order c.requires.order place levels c.deref.result.now c.as_slice.result.now table c.deepest-depth.result lt c.loop-number.invariant.levels table_is
    c.deref.ensures.value c.as_slice.ensures c.deepest-depth.ensures in
    record {
      size = length-set levels table.output (c.deepest-depth.result + 1) ∙ c.loop-number.invariant.size;
      levels = levels-written design sound order c.requires.order place levels table c.deepest-depth.result lt c.loop-number.invariant.size c.loop-number.invariant.levels table_is depth;
    }

pub returns-clause-levels : goal.returns-clause-levels
returns-clause-levels c =
    let order = c.args.order.now in
    let end : c.loop-number.number-index ≡ length order = omega arith in
    levels-tell c.args.netlist.now c.soundness_law.ensures.sound order c.requires.order c.loop-number.levels.items
    (subst (λ n. AreLevels c.args.netlist.now.tables order n c.loop-number.levels.items) end c.loop-number.invariant.levels)
