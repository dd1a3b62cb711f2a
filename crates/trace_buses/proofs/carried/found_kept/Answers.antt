use Rattle.std.proofs.Common.{◌∙◌, ◌++◌, ◌∷◌, [], ap, sym, Bool, List, ℕ, None, arith}
use Rattle.std.proofs.lemmas.List.FromFn.{map-range_with_len_more}
use Rattle.std.specs.Prelude.{slice_index_or}
use Rattle.trace_buses.proofs.carried.found_kept.Goals as goal
use Rattle.trace_buses.specs.Buses.{is_kept}

pub loop-signal-preserved : goal.loop-signal-preserved
loop-signal-preserved c =
    let keeps = λ (signal : ℕ). is_kept c.args.names.now c.args.vectors.now (slice_index_or c.args.buses.now signal None) in
    let signal = c.loop-signal.signal in
    let has = c.in_ok-push.ensures.items in
    let is = c.is_kept-keeps.ensures in
    has ∙ ap (λ (keep : Bool). c.loop-signal.kept.items ++ keep ∷ []) is ∙ ap (λ (all : List Bool). all ++ keeps signal ∷ []) c.loop-signal.invariant
    ∙ sym (map-range_with_len_more keeps 0 signal signal (omega arith))
