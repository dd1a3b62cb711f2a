use Rattle.std.proofs.Common.{◌≡◌, ◌∙◌, ◌+◌, ◌<◌, ◌++◌, ◌∷◌, [], ℕ, List, map, suc, take, length, sym, ap, arith}
use Rattle.std.specs.List.{range_with_len}
use Rattle.std.proofs.lemmas.List.FromFn.{map-range_with_len_more}
use Rattle.bounded.specs.Places.{bits_of}
use Rattle.bounded.proofs.Blocks.{bits-fit, bits-next}
use Rattle.bounded.proofs.counting.starts_of.Goals as goal

pub overflow_add-bits : goal.overflow_add-bits
overflow_add-bits c =
    let low : c.loop-number.number < length c.args.automaton.now.obligations = omega arith in
    let fit = bits-fit c.args.width c.args.automaton.now.obligations c.loop-number.number low in
    omega (arith, fit)

pub overflow_add-bits-in-loop-number : goal.overflow_add-bits-in-loop-number
overflow_add-bits-in-loop-number c =
    let low : c.loop-number.number < length c.args.automaton.now.obligations = omega arith in
    let fit = bits-fit c.args.width c.args.automaton.now.obligations c.loop-number.number low in
    omega (arith, fit)

pub loop-number-preserved : goal.loop-number-preserved
loop-number-preserved c =
    let w = c.args.width in
    let os = c.args.automaton.now.obligations in
    let i = c.loop-number.number in
    let low : i < length os = omega arith in
    let next = bits-next w os i low in
    let e : i + 1 ≡ suc i = omega arith in
    let same = ap (λ k. bits_of w (take k os)) e in
    record {
      bits = omega (arith, next, same, c.loop-number.invariant.bits);
      starts = c.in_ok-push.ensures.ok ∙ ap (λ (l : List ℕ). l ++ c.loop-number.bits ∷ []) c.loop-number.invariant.starts
          ∙ ap (λ b. map (λ number. bits_of w (take number os)) (range_with_len 0 i) ++ b ∷ []) c.loop-number.invariant.bits
          ∙ sym (map-range_with_len_more (λ number. bits_of w (take number os)) 0 i i (omega arith));
    }
