use Rattle.std.proofs.Common.{ℕ, List, length, ◌∙◌, ap, flat_map, subst}
use Rattle.std.specs.Prelude.{slice_get}
use Rattle.std.specs.List.{range_with_len}
use Rattle.gates_theory.specs.Terms.{Term}
use Rattle.joint_theory.specs.Sliced.{kept_by}
use Rattle.netlist.specs.declared.table.Table.{Table}
use Rattle.run_gates.specs.Building.{BuildsAll}
use Rattle.run_terms.specs.Positions.{current}
use Rattle.run_terms.specs.Tables.{table_term}
use Rattle.joint.specs.Kept.{kept_term, terms_of}
use Rattle.joint.proofs.KeptTerms.{kept-elements}
use Rattle.joint.proofs.kept.add_kept_tables.Goals as goal

pub returns : goal.returns
returns c =
    let design = c.args.product.netlist.now in
    let keep = λ (table : Table). kept_by c.args.kept.now table.output in
    let term : Table → Term = table_term (current design.signals c.args.base) in
    subst (λ (terms : List Term). BuildsAll c.args.gates.now c.add_all_kept.new.gates c.args.held.now c.add_all_kept.new.held terms c.add_all_kept.result)
    (ap (λ (n : ℕ). flat_map (λ number. terms_of (kept_term keep term) (slice_get design.tables number)) (range_with_len 0 n)) (c.len.ensures ∙ ap (λ (l : List Table). length l) c.tables.ensures)
    ∙ kept-elements keep term design.tables) c.add_all_kept.ensures
