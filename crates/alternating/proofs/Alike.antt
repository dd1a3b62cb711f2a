-- Combinations that are the same owe alike.
use Rattle.std.proofs.Common.{◌≡◌, refl, sym, ap, ◌∙◌, Bool as Truth, true, false}
use Rattle.std.specs.Prelude.{IsTrue, ◌&&◌}
use Rattle.std.proofs.lemmas.Bool.{both_ways, and_parts}
use Rattle.alternating_theory.specs.Merged.{same_positive}
use Rattle.alternating_theory.specs.Positive.{Positive, Const, Holds, Owed, And, Or}
use Rattle.alternating.specs.Alike.{owe_alike}

both-true : (a b : Truth) → IsTrue a → IsTrue b → IsTrue (a && b)
both-true true b p q = q
both-true false b p q = absurd (both_ways false refl p)

absorbed : (a b : Truth) → (IsTrue b → IsTrue a) → (a && b) ≡ b
absorbed true b h = refl
absorbed false true h = absurd (both_ways false refl (h refl))
absorbed false false h = refl

same-alike : (p r : Positive) → IsTrue (same_positive p r) → IsTrue (owe_alike p r)
same-alike (Const v) (Const w) h = refl
same-alike (Holds b) (Holds d) h = refl
same-alike (Owed m) (Owed n) h = h
same-alike (And p q) (And r s) h =
    let parts = and_parts (same_positive q s) (same_positive p r) h in both-true (owe_alike p r) (owe_alike q s) (same-alike p r parts.1) (same-alike q s parts.0)
same-alike (Or p q) (Or r s) h =
    let parts = and_parts (same_positive q s) (same_positive p r) h in both-true (owe_alike p r) (owe_alike q s) (same-alike p r parts.1) (same-alike q s parts.0)
same-alike _ _ h = absurd (both_ways false refl h)

alike-same : (p r : Positive) → (owe_alike p r && same_positive p r) ≡ same_positive p r
alike-same p r = absorbed (owe_alike p r) (same_positive p r) (same-alike p r)

-- those that do not are not the same
pub unlike-owed : (p r : Positive) (t : Truth) → t ≡ owe_alike p r → t ≡ false → t ≡ same_positive p r
unlike-owed p r t e f = f ∙ ap (λ (u : Truth). u && same_positive p r) (sym (sym e ∙ f)) ∙ alike-same p r
