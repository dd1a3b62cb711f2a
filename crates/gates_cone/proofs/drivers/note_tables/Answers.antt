use Rattle.std.proofs.Common.{◌<◌, List, length, ap, ◌∙◌, arith}
use Rattle.netlist.specs.declared.table.Table.{Table}
use Rattle.gates_cone.proofs.Noting.{noted-table_read, table-inside}
use Rattle.gates_cone.proofs.drivers.note_tables.Goals as goal

pub bounds-drivers-tables : goal.bounds-drivers-tables
bounds-drivers-tables c =
    let design = c.args.netlist.now in
    let shown = c.as_slice-tables.result.now in
    let shown_is = c.as_slice-tables.ensures ∙ c.tables.ensures in
    let lt : c.loop-number.number < length design.tables = omega (arith, ap (λ (l : List Table). length l) shown_is) in
    table-inside design c.soundness_law.ensures.sound c.loop-number.number c.loop-number.drivers shown c.index-tables-number.result lt shown_is c.loop-number.invariant.size

pub loop-number-preserved : goal.loop-number-preserved
loop-number-preserved c =
    let design = c.args.netlist.now in
    let shown = c.as_slice-tables.result.now in
    let shown_is = c.as_slice-tables.ensures ∙ c.tables.ensures in
    let lt : c.loop-number.number < length design.tables = omega (arith, ap (λ (l : List Table). length l) shown_is) in
    noted-table_read design c.soundness_law.ensures.sound c.loop-number.number c.loop-number.drivers shown c.index-tables-number.result lt shown_is c.loop-number.invariant
