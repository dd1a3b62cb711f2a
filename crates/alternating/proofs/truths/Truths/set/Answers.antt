use Rattle.std.proofs.Common.{Bool, List, ◌≢◌, ◌∙◌, ◌<◌, ◌/◌, ap, sym, subst, set, length, arith}
use Rattle.std.proofs.Math.ListN.{length-set}
use Rattle.std.proofs.lemmas.List.{get_or_default}
use Rattle.alternating.specs.Packed.{bit, is_set}
use Rattle.alternating.specs.TruthsView.{listed}
use Rattle.alternating.proofs.Bits.{length-listed, written-bits, written-other, written-fits}
use Rattle.alternating.proofs.truths.Truths.set.Goals as goal

pub index-requires : goal.index-requires
index-requires c =
    let small : c.args.q < length (listed c.self.inside.count (is_set c.self.inside.words.items)) = subst (λ (l : List Bool). c.args.q < length l) (sym c.self.view_is) c.requires in
    omega (arith, small, length-listed c.self.inside.count (is_set c.self.inside.words.items), c.self.invariant.room, c.self.inside.words.ok.0)

pub index_mut-requires : goal.index_mut-requires
index_mut-requires c =
    let small : c.args.q < length (listed c.self.inside.count (is_set c.self.inside.words.items)) = subst (λ (l : List Bool). c.args.q < length l) (sym c.self.view_is) c.requires in
    omega (arith, small, length-listed c.self.inside.count (is_set c.self.inside.words.items), c.self.invariant.room, c.self.inside.words.ok.0)

pub returns : goal.returns
returns c =
    let small : c.args.q < length (listed c.self.inside.count (is_set c.self.inside.words.items)) = subst (λ (l : List Bool). c.args.q < length l) (sym c.self.view_is) c.requires in
    let few : c.args.q < c.self.inside.count = omega (arith, small, length-listed c.self.inside.count (is_set c.self.inside.words.items)) in
    let within : c.args.q / 32 < length c.self.inside.words.items = omega (arith, few, c.self.invariant.room) in
    written-bits c.self.inside.count c.self.inside.words.items c.args.q c.with_bit.result c.args.value c.self.invariant.room few c.with_bit.ensures.written
    (λ other h d. c.with_bit.ensures.others other h d
    ∙ ap (λ w. bit w other) (c.index.ensures ∙ get_or_default c.self.inside.words.items (c.args.q / 32) c.index.result.now 0 within))
    ∙ ap (λ (l : List Bool). set l c.args.q c.args.value) c.self.view_is

pub invariant_of-self : goal.invariant_of-self
invariant_of-self c =
    let small : c.args.q < length (listed c.self.inside.count (is_set c.self.inside.words.items)) = subst (λ (l : List Bool). c.args.q < length l) (sym c.self.view_is) c.requires in
    let few : c.args.q < c.self.inside.count = omega (arith, small, length-listed c.self.inside.count (is_set c.self.inside.words.items)) in
    let within : c.args.q / 32 < length c.self.inside.words.items = omega (arith, few, c.self.invariant.room) in
    let same_length = length-set c.self.inside.words.items (c.args.q / 32) c.with_bit.result in
    record {
      room = rw same_length c.self.invariant.room;
      few = rw same_length c.self.invariant.few;
      clear = λ number h.
          let other : number ≢ c.args.q = omega (arith, few, h) in
          written-other c.self.inside.words.items c.args.q c.with_bit.result within
          (λ place l d. c.with_bit.ensures.others place l d
          ∙ ap (λ w. bit w place) (c.index.ensures ∙ get_or_default c.self.inside.words.items (c.args.q / 32) c.index.result.now 0 within)) number other
          ∙ c.self.invariant.clear number h;
      fits = written-fits c.self.inside.words.items (c.args.q / 32) c.with_bit.result within (omega arith) c.self.invariant.fits;
    }
