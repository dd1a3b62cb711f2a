use Rattle.std.proofs.Common.{rules, ◌≢◌, ◌∙◌, sym, arith}
use Rattle.std.proofs.lemmas.Bool.Decides.{nat_tests, Decides-eqb}
use Rattle.std.proofs.lemmas.Slice.Eq.{slice_eq-Decides}
use Rattle.alternating.proofs.Bits.{same-words}
use Rattle.alternating.proofs.truths.Truths.same.Goals as goal

pub returns-then-self-other : goal.returns-then-self-other
returns-then-self-other c = (
  λ t. search rules,
  λ e.
      let same = same-words c.self.inside c.other.inside c.self.invariant c.other.invariant (c.self.view_is ∙ e ∙ sym c.other.view_is) in
      (slice_eq-Decides Decides-eqb _ _ _ c.eq.ensures).1 (c.as_slice.ensures.value ∙ same.1 ∙ sym c.as_slice-then-self-other.ensures.value),
)

pub returns-else-self-other : goal.returns-else-self-other
returns-else-self-other c =
    let differs : c.self.inside.count ≢ c.other.inside.count = c.if-self-other.false in (
      λ t. absurd (differs (grind (arith, nat_tests, t))),
      λ e.
          let same = same-words c.self.inside c.other.inside c.self.invariant c.other.invariant (c.self.view_is ∙ e ∙ sym c.other.view_is) in absurd (differs same.0),
    )
