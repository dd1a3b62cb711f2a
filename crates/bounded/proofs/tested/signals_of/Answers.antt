use Rattle.std.proofs.Common.{◌≡◌, ◌∙◌, ℕ, zero, suc, ◌+◌, ◌<◌, ◌≤◌, ◌++◌, ◌∷◌, [], List, drop, length, refl, sym, ap, arith, append_assoc}
use Rattle.std.specs.List.{flat_map}
use Rattle.std.proofs.lemmas.List.{append-nil}
use Rattle.alternating_theory.specs.Obligations.{Obligation, obligation_at}
use Rattle.bounded.specs.Tested.{signals_of_positive}
use Rattle.bounded.proofs.tested.signals_of.Goals as goal

next-obligation : (os : List Obligation) (i : ℕ) → i < length os → drop i os ≡ obligation_at os i ∷ drop (suc i) os
next-obligation [] i low = absurd (omega arith)
next-obligation (o ∷ os) zero low = refl
next-obligation (o ∷ os) (suc i) low = next-obligation os i (omega arith)

none-left : (os : List Obligation) (i : ℕ) → length os ≤ i → drop i os ≡ []
none-left [] zero high = refl
none-left [] (suc i) high = refl
none-left (o ∷ os) zero high = absurd (omega arith)
none-left (o ∷ os) (suc i) high = none-left os i (omega arith)

pub loop-number-preserved : goal.loop-number-preserved
loop-number-preserved c =
    let os = c.args.automaton.now.obligations in
    let i = c.loop-number.number in
    let each = λ (obligation : Obligation). signals_of_positive obligation.delta in
    let old = c.loop-number.tested in
    let low : i < length os = omega arith in
    let e : i + 1 ≡ suc i = omega arith in
    let part = signals_of_positive (obligation_at os i).delta in
    let rest = flat_map each (drop (suc i) os) in
    let pushed : c.list_positive.new.tested ≡ old ++ part = c.in_ok-list_positive.ensures ∙ ap (λ d. old ++ signals_of_positive d) c.delta.ensures.shown in
    ap (λ k. c.list_positive.new.tested ++ flat_map each (drop k os)) e ∙ ap (λ (l : List ℕ). l ++ rest) pushed ∙ append_assoc old part rest
    ∙ sym (ap (λ r. old ++ flat_map each r) (next-obligation os i low)) ∙ c.loop-number.invariant

pub returns : goal.returns
returns c =
    let os = c.args.automaton.now.obligations in
    let i = c.loop-number.number in
    let each = λ (obligation : Obligation). signals_of_positive obligation.delta in
    let high : length os ≤ i = omega arith in
    sym (append-nil c.loop-number.tested) ∙ sym (ap (λ r. c.loop-number.tested ++ flat_map each r) (none-left os i high)) ∙ c.loop-number.invariant
