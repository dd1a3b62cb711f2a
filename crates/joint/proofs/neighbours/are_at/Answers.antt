use Rattle.std.proofs.Common.{◌≡◌, inl, inr, ◌∙◌, ℕ, ◌+◌, false, get_or, sym, subst, arith}
use Rattle.std.proofs.lemmas.Bool.{cases_eq}
use Rattle.std.proofs.lemmas.Option.{get_or_from_slice_get}
use Rattle.joint.proofs.Evaluated.{beq-same}
use Rattle.joint.proofs.neighbours.are_at.Goals as goal

pub loop-place-preserved : goal.loop-place-preserved
loop-place-preserved c = λ other below.
    let values = c.args.values.now in
    let bits = c.args.bits.now in
    let start = c.args.start in
    let place = c.loop-place.place in
    let here : get_or values (start + place) false ≡ get_or bits place false =
    get_or_from_slice_get values (start + place) c.at.result.now false c.at.ensures
    ∙ beq-same c.at.result.now c.at-in-loop-place.result.now c.if-at.false
    ∙ sym (get_or_from_slice_get bits place c.at-in-loop-place.result.now false c.at-in-loop-place.ensures) in
    elim (cases_eq other place) as (λ _. get_or values (start + other) false ≡ get_or bits other false) [
      | inl e ↦ subst (λ (n : ℕ). get_or values (start + n) false ≡ get_or bits n false) (sym e) here
      | inr n ↦ c.loop-place.invariant other (omega (arith, n))
    ]
