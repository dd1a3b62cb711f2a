use Rattle.std.proofs.Common.{rules, ◌+◌, ◌<◌, arith, drop, length, w32}
use mir.Val.{SFits}
use Rattle.std.proofs.lemmas.Int.{to_z-of_z}
use Rattle.std.proofs.lemmas.Result.{err_from_is_err_and}
use Rattle.run_terms.specs.Positions.{current}
use Rattle.run_terms.specs.Tables.{valuation_terms, table_term}
use Rattle.run_gates.proofs.Terms.{element-drop, held-hold, held-step, held-term}
use Rattle.run_gates.proofs.netlists.add_tables.Goals as goal

pub returns-in_err-agrees : goal.returns-in_err-agrees
returns-in_err-agrees c =
    let i = c.loop-i.i in
    let signals = c.args.position.signals in
    let base = c.args.position.base in
    let tables = c.args.tables.now in
    let table = c.index-tables-i.result in
    let below : i < length tables = omega arith in
    let before = rw (element-drop (table_term (current signals base)) tables i table below c.index-tables-i.is) at c.loop-i.invariant.so_far in
    let p = err_from_is_err_and c.from_residual.result c.from_residual.ensures.1 in
    rw (p.1, p.2) (held-term c.args.gates.now c.loop-i.gates c.add_table.new.gates c.args.held.now c.loop-i.held c.loop-i.held (table_term (current signals base) table)
    (valuation_terms signals base (drop (i + 1) tables)) (valuation_terms signals base tables) c.in_err-agrees.field-0.0 before c.in_err-agrees.ensures)

pub returns-in_err-hold : goal.returns-in_err-hold
returns-in_err-hold c =
    let i = c.loop-i.i in
    let signals = c.args.position.signals in
    let base = c.args.position.base in
    let tables = c.args.tables.now in
    let table = c.index-tables-i.result in
    let below : i < length tables = omega arith in
    let agrees = c.in_ok-agrees.agrees in
    let fits_agrees : SFits w32 agrees = search rules in
    let before = rw (element-drop (table_term (current signals base)) tables i table below c.index-tables-i.is) at c.loop-i.invariant.so_far in
    let held = simp to_z-of_z at c.in_err-hold.ensures in
    let p = err_from_is_err_and c.from_residual-in_err-hold.result c.from_residual-in_err-hold.ensures.1 in
    rw (p.1, p.2) (held-hold c.args.gates.now c.loop-i.gates c.add_table.new.gates c.hold.new.gates c.args.held.now c.loop-i.held c.hold.new.self (table_term (current signals base) table)
    (valuation_terms signals base (drop (i + 1) tables)) (valuation_terms signals base tables) agrees c.in_err-hold.field-0.0 before c.in_ok-agrees.ensures held)

pub loop-i-preserved : goal.loop-i-preserved
loop-i-preserved c =
    let i = c.loop-i.i in
    let signals = c.args.position.signals in
    let base = c.args.position.base in
    let tables = c.args.tables.now in
    let table = c.index-tables-i.result in
    let below : i < length tables = omega arith in
    let agrees = c.in_ok-agrees.agrees in
    let fits_agrees : SFits w32 agrees = search rules in
    let before = rw (element-drop (table_term (current signals base)) tables i table below c.index-tables-i.is) at c.loop-i.invariant.so_far in
    let held = simp to_z-of_z at c.in_ok-hold.ensures in
    record {
      so_far = held-step c.args.gates.now c.loop-i.gates c.add_table.new.gates c.hold.new.gates c.args.held.now c.loop-i.held c.hold.new.self (table_term (current signals base) table)
          (valuation_terms signals base (drop (i + 1) tables)) (valuation_terms signals base tables) agrees before c.in_ok-agrees.ensures held;
    }
