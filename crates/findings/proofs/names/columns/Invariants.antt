use Rattle.std.proofs.Common.{◌≡◌, ◌++◌, map, take, Some}
use Rattle.psl_tree.specs.Names.{first_name}
use Rattle.findings.proofs.names.columns.Given as goal

abbrev pub invariant-loop-signal : goal.invariant-loop-signal
invariant-loop-signal l =
    map (λ column. Some column) l.columns ≡ map (first_name l.fn.netlist.names) (take l.signal-index l.signal-items)

abbrev pub invariant-loop-latch : goal.invariant-loop-latch
invariant-loop-latch l =
    map (λ column. Some column) l.columns
    ≡ map (first_name l.fn.netlist.names) (l.fn.netlist.inputs ++ map (λ latch. latch.output) (take l.latch-index l.latch-items))
