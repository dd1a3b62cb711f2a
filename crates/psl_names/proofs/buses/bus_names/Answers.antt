use Rattle.std.proofs.Common.{◌≡◌, List, [], ◌++◌, drop, length, sym, ap, subst, ◌∙◌, arith}
use Rattle.std.proofs.lemmas.List.{append-nil, drop_all}
use Rattle.std.specs.List.{flat_map}
use Rattle.psl_layer_theory.specs.Buses.{indexed}
use Rattle.psl_tree.specs.declared.name.Name.{Name}
use Rattle.psl_names.specs.Ranges.{Tells, bus_told}
use Rattle.psl_names.proofs.Ranging.{all_told}
use Rattle.psl_names.proofs.buses.bus_names.Goals as goal

pub returns : goal.returns
returns c =
    let names = c.args.names.now in
    let ranges = c.in_ok-ranges.ranges in
    let long : length c.as_slice-name-items.result.now ≡ length names = ap length c.as_slice-name-items.ensures in
    let none : drop c.loop-name.name-index names ≡ [] = drop_all c.loop-name.name-index names (omega (arith, long, c.loop-name-test.false)) in
    sym (append-nil c.loop-name.buses)
    ∙ ap (λ (rest : List Name). c.loop-name.buses ++ flat_map (λ (name : Name). bus_told ranges (indexed name.text)) rest) (sym none)
    ∙ c.loop-name.invariant
    ∙ all_told ranges names names (subst (Tells ranges) c.as_slice.ensures c.in_ok-ranges.ensures)
