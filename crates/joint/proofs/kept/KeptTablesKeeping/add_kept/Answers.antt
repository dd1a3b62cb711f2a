use Rattle.std.proofs.Common.{◌∙◌, sym, List, subst}
use Rattle.gates_theory.specs.Terms.{Term}
use Rattle.joint_theory.specs.Sliced.{kept_by}
use Rattle.netlist.specs.declared.table.Table.{Table}
use Rattle.run_gates.specs.Building.{BuildsAll}
use Rattle.run_terms.specs.Positions.{current}
use Rattle.run_terms.specs.Tables.{table_term}
use Rattle.joint.proofs.KeptTerms.{kept-one}
use Rattle.joint.proofs.kept.KeptTablesKeeping.add_kept.Goals as goal

pub returns-then-is_kept : goal.returns-then-is_kept
returns-then-is_kept c =
    let keeping = c.args.self.now in
    let added = simp (c.position_at-position.ensures.signals, c.position_at-position.ensures.base, c.from_ref.ensures.value) at c.add_tables.ensures in
    subst (λ (terms : List Term). BuildsAll c.args.gates.now c.add_tables.new.gates c.args.held.now c.add_tables.new.held terms c.add_tables.result)
    (sym (kept-one (λ (table : Table). kept_by keeping.kept.now table.output) (table_term (current keeping.product.netlist.now.signals keeping.base))
    _ c.at-table.result.now (rw c.tables.ensures at c.at-table.ensures) (sym c.is_kept.ensures ∙ c.if-is_kept.true))) added
