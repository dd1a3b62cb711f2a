use Rattle.std.proofs.Common.{◌∙◌, ◌++◌, ap, sym, List, length, arith}
use Rattle.trace.specs.declared.vectors.Vector.{Vector}
use Rattle.trace_buses.proofs.Joined.{few-from}
use Rattle.trace_buses.proofs.Ranges.{flat-more}
use Rattle.trace_buses.proofs.joining.vectors_with.Goals as goal
use Rattle.trace_buses.specs.Buses.{written_at}

pub loop-signal-preserved : goal.loop-signal-preserved
loop-signal-preserved c =
    let written = written_at c.args.buses.names.now c.args.kept.now in
    let signal = c.loop-signal.signal in
    c.in_ok-add_written.ensures ∙ ap (λ (all : List Vector). all ++ written signal) c.loop-signal.invariant ∙ sym (flat-more written signal)

pub returns-clause-few : goal.returns-clause-few
returns-clause-few c =
    let few = few-from c.args.buses.names.now c.args.kept.now 0 c.loop-signal.signal in
    let is = ap (λ (all : List Vector). length all) c.loop-signal.invariant in
    omega (arith, few, is, c.loop-signal.auto.signal-end, c.requires.few)
