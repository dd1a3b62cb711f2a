use Rattle.std.proofs.Common.{Bool, List, ℕ, false, ◌∙◌, ◌<◌, ap, sym, subst, get_or, length, arith}
use Rattle.alternating.specs.Packed.{is_set}
use Rattle.alternating.specs.TruthsView.{listed}
use Rattle.alternating.proofs.Bits.{length-listed, listed-at}
use Rattle.alternating.proofs.truths.Truths.words.Goals as goal

pub returns-clause-room : goal.returns-clause-room
returns-clause-room c =
    omega (arith, ap (λ (l : List Bool). length l) c.self.view_is, length-listed c.self.inside.count (is_set c.self.inside.words.items), c.self.invariant.room, ap (λ (l : List ℕ). length l) c.as_slice.ensures.value)

pub returns-clause-bits : goal.returns-clause-bits
returns-clause-bits c = λ number h.
    let small : number < length (listed c.self.inside.count (is_set c.self.inside.words.items)) = subst (λ (l : List Bool). number < length l) (sym c.self.view_is) h in
    ap (λ (l : List ℕ). is_set l number) c.as_slice.ensures.value
    ∙ sym (listed-at c.self.inside.count (is_set c.self.inside.words.items) number false (omega (arith, small, length-listed c.self.inside.count (is_set c.self.inside.words.items))))
    ∙ ap (λ (l : List Bool). get_or l number false) c.self.view_is
