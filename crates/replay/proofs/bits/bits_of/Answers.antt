use Rattle.std.proofs.Common.{◌≡◌, ap, sym, ◌∙◌, ◌++◌, ◌∷◌, [], ℕ, List, Option, map, arith}
use Rattle.std.specs.List.{range_with_len}
use Rattle.std.proofs.lemmas.List.FromFn.{map-range_with_len_more}
use Rattle.psl_sugar.specs.declared.vector.Bit.{Bit}
use Rattle.replay.proofs.InRange.{bits-in-range}
use Rattle.replay.proofs.bits.bits_of.Goals as goal
use Rattle.replay.specs.Recorded.{recorded}

pub loop-signal-preserved : goal.loop-signal-preserved
loop-signal-preserved c =
    let bit : ℕ → Option Bit = recorded c.args.netlist.now c.args.recording.now in
    let value : c.bit_named-bit.result ≡ bit c.loop-signal.signal =
    rw (c.in_ok-index.ensures, c.names.ensures.names, c.first_text.ensures, c.as_slice-names.ensures, c.names-2.ensures.names) at c.bit_named-bit.ensures in
    c.in_ok-push.ensures.items
    ∙ ap (λ (bits : List (Option Bit)). bits ++ c.bit_named-bit.result ∷ []) c.loop-signal.invariant
    ∙ ap (λ (b : Option Bit). map bit (range_with_len 0 c.loop-signal.signal) ++ b ∷ []) value
    ∙ sym (map-range_with_len_more bit 0 c.loop-signal.signal c.loop-signal.signal (omega arith))

pub returns-clause-in_range : goal.returns-clause-in_range
returns-clause-in_range c =
    rw c.loop-signal.invariant (bits-in-range c.args.netlist.now c.args.recording.now c.names.ensures.alike 0 c.loop-signal.signal)
