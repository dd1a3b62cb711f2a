use Rattle.std.proofs.Common.{ap, subst, ◌∙◌, ℕ}
use Rattle.alternating.specs.Stepped.{value_at}
use Rattle.wave_judge.proofs.Samples.{answers}
use Rattle.wave_judge.proofs.pass.Pass.answers.Goals as goal
use Rattle.wave_judge.specs.Values.{IsStand}

pub returns : goal.returns
returns c =
    answers c.args.self.now.automaton.now c.args.self.now.recording.now c.in_ok-first.first (record { weak = c.get.result; neutral = c.get-2.result; strong = c.get-3.result })
    (subst (λ (n : ℕ). IsStand c.args.self.now.automaton.now c.args.self.now.recording.now n 0 c.in_ok-first.first) c.samples.ensures.count c.in_ok-first.ensures.stand)
    (c.get.ensures ∙ ap (λ (q : ℕ). value_at c.in_ok-first.first.values.weak q) c.start-start.ensures.shown)
    (c.get-2.ensures ∙ ap (λ (q : ℕ). value_at c.in_ok-first.first.values.neutral q) c.start-start.ensures.shown)
    (c.get-3.ensures ∙ ap (λ (q : ℕ). value_at c.in_ok-first.first.values.strong q) c.start-start.ensures.shown)
