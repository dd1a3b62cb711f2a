use Rattle.std.proofs.Common.{◌∙◌, ◌++◌, ◌∷◌, [], ap, sym, List, ℕ, arith}
use Rattle.std.proofs.lemmas.List.FromFn.{map-range_with_len_more}
use Rattle.trace.specs.Vectors.{single}
use Rattle.trace.specs.declared.vectors.Vector.{Vector}
use Rattle.trace_buses.proofs.joining.alone.Goals as goal
use Rattle.trace_buses.specs.Buses.{name_text}

pub loop-signal-preserved : goal.loop-signal-preserved
loop-signal-preserved c =
    let signal = c.loop-signal.signal in
    let named = λ (s : ℕ). single (name_text c.args.names.now s) s in
    c.in_ok-push.ensures.ok
    ∙ ap (λ (vector : Vector). c.loop-signal.vectors ++ vector ∷ []) (c.in_ok-single.ensures ∙ ap (λ (text : List ℕ). single text signal) c.text_at.ensures)
    ∙ ap (λ (all : List Vector). all ++ named signal ∷ []) c.loop-signal.invariant
    ∙ sym (map-range_with_len_more named 0 signal signal (omega arith))
