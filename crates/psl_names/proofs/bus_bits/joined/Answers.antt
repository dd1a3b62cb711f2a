use Rattle.std.proofs.Common.{◌≡◌, ℕ, ◌+◌, ◌-◌, ◌<◌, List, [], ◌∷◌, ◌++◌, Bool, true, false, not, ◌&&◌, sym, ap, subst, ◌∙◌, arith}
use Rattle.psl_layer_theory.specs.Buses.{bit_behind, is_found, is_hole, is_several, joined, signal_in}
use Rattle.psl_layer_theory.specs.declared.found.Found.{Found}
use Rattle.psl_names.proofs.Bits.{IsRead, bits_behind_is, read_all, read_hole, read_more}
use Rattle.psl_names.proofs.bus_bits.joined.Goals as goal

pub returns-then-is_hole : goal.returns-then-is_hole
returns-then-is_hole c =
    let names = c.args.names.now in
    let text = c.args.text.now in
    let bit = bit_behind names text c.is_found-is_whole.result in
    let hole : is_hole (bit (c.from-low.result + c.loop-more.more)) ≡ true = ap is_hole (sym c.in_ok-found.ensures) ∙ sym c.is_hole.ensures ∙ c.if-is_hole.true in
    let below : c.loop-more.more < c.args.high - c.args.low + 1 = omega (arith, c.loop-more-test.true, c.saturating_sub-more-end.ensures, c.from.ensures, c.from-low.ensures) in
    sym (ap joined (bits_behind_is names text c.args.high c.args.low c.from-low.result c.is_found-is_whole.result c.from-low.ensures
    (c.is_found-is_whole.ensures ∙ ap is_found c.in_ok-bit_behind.ensures))
    ∙ read_hole bit c.from-low.result (c.args.high - c.args.low + 1) c.loop-more.more below hole)

pub loop-more-preserved : goal.loop-more-preserved
loop-more-preserved c =
    let bit = bit_behind c.args.names.now c.args.text.now c.is_found-is_whole.result in
    let low = c.from-low.result in
    let more = c.loop-more.more in
    let none : is_hole (bit (low + more)) ≡ false = ap is_hole (sym c.in_ok-found.ensures) ∙ sym c.is_hole.ensures ∙ c.if-is_hole.false in
    let clear = c.is_still_clear-is_clear.ensures ∙ ap (λ (found : Found). c.loop-more.is_clear && not (is_several found)) c.in_ok-found.ensures in
    let items = c.in_ok-push.ensures.items
    ∙ ap (λ (signal : ℕ). c.loop-more.signals.items ++ signal ∷ []) (c.signal_in.ensures ∙ ap signal_in c.in_ok-found.ensures) in
    subst (λ (signals : List ℕ). IsRead bit low (more + 1) c.is_still_clear-is_clear.result signals) (sym items)
    (subst (λ (is_clear : Bool). IsRead bit low (more + 1) is_clear (c.loop-more.signals.items ++ signal_in (bit (low + more)) ∷ [])) (sym clear)
    (read_more bit low more c.loop-more.is_clear c.loop-more.signals.items c.loop-more.invariant none))

pub returns : goal.returns
returns c =
    let names = c.args.names.now in
    let text = c.args.text.now in
    let bit = bit_behind names text c.is_found-is_whole.result in
    let width = c.args.high - c.args.low + 1 in
    let all : c.loop-more.more ≡ width =
    omega (arith, c.loop-more-test.false, c.loop-more.auto.more-end, c.saturating_sub-more-end.ensures, c.from.ensures, c.from-low.ensures) in
    let read = subst (λ (more : ℕ). IsRead bit c.from-low.result more c.loop-more.is_clear c.loop-more.signals.items) all c.loop-more.invariant in
    c.bits_or_several.ensures
    ∙ sym (ap joined (bits_behind_is names text c.args.high c.args.low c.from-low.result c.is_found-is_whole.result c.from-low.ensures
    (c.is_found-is_whole.ensures ∙ ap is_found c.in_ok-bit_behind.ensures))
    ∙ read_all bit c.from-low.result width c.loop-more.is_clear c.loop-more.signals.items read)
