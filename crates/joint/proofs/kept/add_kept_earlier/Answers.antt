use Rattle.std.proofs.Common.{ℕ, List, ◌∙◌, ap, flat_map, subst}
use Rattle.std.specs.List.{range_with_len}
use Rattle.gates_theory.specs.Terms.{Term}
use Rattle.joint_theory.specs.Sliced.{kept_by, earlier_term}
use Rattle.run_gates.specs.Building.{BuildsAll}
use Rattle.joint.specs.Kept.{kept_term}
use Rattle.joint.proofs.KeptTerms.{kept-filter}
use Rattle.joint.proofs.kept.add_kept_earlier.Goals as goal

pub returns : goal.returns
returns c =
    let design = c.args.product.netlist.now in
    let keep = kept_by c.args.kept.now in
    let term : ℕ → Term = earlier_term c.args.base in
    subst (λ (terms : List Term). BuildsAll c.args.gates.now c.add_all_kept.new.gates c.args.held.now c.add_all_kept.new.held terms c.add_all_kept.result)
    (ap (λ (n : ℕ). flat_map (kept_term keep term) (range_with_len 0 n)) c.signals-signals.ensures
    ∙ kept-filter keep term (range_with_len 0 design.signals)) c.add_all_kept.ensures
