use Rattle.std.proofs.Common.{List, ℕ, ◌≡◌, ◌∙◌, ap, replicate, rules}
use Rattle.alternating.specs.Packed.{is_set}
use Rattle.alternating.proofs.Bits.{listed-false, no-bits}
use Rattle.alternating.proofs.truths.Truths.new.Goals as goal

pub returns : goal.returns
returns c =
    let zeros : c.in_ok-words.words.items ≡ replicate c.div_ceil.result 0 = search rules in
    listed-false c.args.count (is_set c.in_ok-words.words.items) (λ q. ap (λ (l : List ℕ). is_set l q) zeros ∙ no-bits c.div_ceil.result q)
