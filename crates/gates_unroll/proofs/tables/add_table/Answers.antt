use Rattle.std.proofs.Common.{◌≡◌, ◌∙◌, sym, ap, true, map, rules, w32}
use mir.Val.{SFits}
use Rattle.std.proofs.lemmas.Int.{to_z-of_z}
use Rattle.std.proofs.lemmas.List.{get_or_default}
use Rattle.netlist.specs.Sound.{no_table, table_at}
use Rattle.netlist.specs.Valuations.{bit}
use Rattle.gates_frames.specs.Frames.{literal_at, table_of}
use Rattle.gates_unroll.proofs.Growing.{more-table}
use Rattle.gates_unroll.proofs.Keeping.{writes-added}
use Rattle.gates_unroll.proofs.tables.add_table.Goals as goal

pub returns-in_ok-literals : goal.returns-in_ok-literals
returns-in_ok-literals c =
    let old = c.args.builder.now in
    let cone = bit c.args.cone.now in
    let number = c.args.number in
    let literals = c.args.literals.now in
    let table = table_at c.args.tables.now number in
    let fits : SFits w32 c.in_ok-literals.field-0 = search rules in
    let same : c.index-tables-number.result ≡ table = c.index-tables-number.is ∙ get_or_default c.args.tables.now number c.index-tables-number.result no_table c.requires.table in
    let inside : cone table.output ≡ true = ap (λ t. cone t.output) (sym same) ∙ c.if-cone-table.true in
    let read = map (literal_at old.given literals) table.inputs in
    let adds = rw same at c.in_ok-literals.ensures in
    rw (same, to_z-of_z)
    (writes-added old c.table_of.new.builder cone literals table.output (table_of old.covers old.given old.nodes number table read) c.in_ok-literals.field-0 inside
    (more-table old.given old.covers old.nodes number table read) c.requires.literals adds)
