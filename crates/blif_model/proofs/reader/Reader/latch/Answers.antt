use Rattle.std.proofs.Common.{◌≡◌, map, Some, sym, ap, ◌∙◌, subst}
use Rattle.blif_model.specs.Scanning.{word_of}
use Rattle.blif_model.specs.Shapes.{latch_of}
use Rattle.blif_model.specs.Words.{latch_in}
use Rattle.blif_model.proofs.reader.Reader.latch.Goals as goal

is-latch : (c : goal.After-register) → latch_of (map (word_of c.args.self.now.named.whole) c.args.words.now) ≡ Some (latch_in c.args.self.now.named.whole c.in-Some.latch)
is-latch c =
    let whole : c.whole.result.now ≡ c.args.self.now.named.whole = c.whole.ensures.is ∙ ap (λ k. k.named.whole) c.self.view_is in
    subst (λ w. latch_of (map (word_of w) c.args.words.now) ≡ Some (latch_in w c.in-Some.latch)) whole (sym c.in-Some.ensures.latch)

pub returns-in-Some-clause-faultless : goal.returns-in-Some-clause-faultless
returns-in-Some-clause-faultless c = rw (is-latch c) c.register.ensures.faultless

pub returns-in-Some-clause-fault : goal.returns-in-Some-clause-fault
returns-in-Some-clause-fault c = rw (is-latch c) c.register.ensures.fault
