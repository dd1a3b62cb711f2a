use Rattle.std.proofs.Common.{Bool, List, ℕ, false, ◌∙◌, ◌<◌, ap, sym, subst, get_or, length, arith}
use Rattle.alternating.specs.Packed.{is_set}
use Rattle.alternating.specs.TruthsView.{listed}
use Rattle.alternating.proofs.Bits.{length-listed, listed-at}
use Rattle.alternating.proofs.truths.Truths.get.Goals as goal

pub is_set-requires : goal.is_set-requires
is_set-requires c =
    let small : c.args.q < length (listed c.self.inside.count (is_set c.self.inside.words.items)) = subst (λ (l : List Bool). c.args.q < length l) (sym c.self.view_is) c.requires in
    omega (arith, small, length-listed c.self.inside.count (is_set c.self.inside.words.items), c.self.invariant.room, ap (λ (l : List ℕ). length l) c.as_slice.ensures.value)

pub returns : goal.returns
returns c =
    let small : c.args.q < length (listed c.self.inside.count (is_set c.self.inside.words.items)) = subst (λ (l : List Bool). c.args.q < length l) (sym c.self.view_is) c.requires in
    c.is_set.ensures
    ∙ ap (λ (l : List ℕ). is_set l c.args.q) c.as_slice.ensures.value
    ∙ sym (listed-at c.self.inside.count (is_set c.self.inside.words.items) c.args.q false (omega (arith, small, length-listed c.self.inside.count (is_set c.self.inside.words.items))))
    ∙ ap (λ (l : List Bool). get_or l c.args.q false) c.self.view_is
