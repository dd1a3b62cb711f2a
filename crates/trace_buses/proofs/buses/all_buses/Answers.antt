use Rattle.std.proofs.Common.{◌∙◌, ◌++◌, ◌∷◌, [], ap, sym, List, Option, arith}
use Rattle.std.proofs.lemmas.List.FromFn.{map-range_with_len_more}
use Rattle.trace.specs.declared.vectors.Vector.{Vector}
use Rattle.trace_buses.proofs.buses.all_buses.Goals as goal
use Rattle.trace_buses.specs.Buses.{bus_at}

pub loop-signal-preserved : goal.loop-signal-preserved
loop-signal-preserved c =
    let signal = c.loop-signal.signal in
    let named = bus_at c.args.names.now in
    let has = c.in_ok-push.ensures.items in
    has
    ∙ ap (λ (bus : Option Vector). c.loop-signal.buses.items ++ bus ∷ []) c.in_ok-bus.ensures
    ∙ ap (λ (all : List (Option Vector)). all ++ named signal ∷ []) c.loop-signal.invariant
    ∙ sym (map-range_with_len_more named 0 signal signal (omega arith))
