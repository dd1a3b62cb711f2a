use Rattle.std.proofs.Common.{◌≡◌, List, Bool, rules, subst, sym}
use Rattle.alternating.specs.Packed.{letter_of}
use Rattle.alternating.specs.Stepped.{stepped, StepsBack}
use Rattle.alternating.proofs.Stepping.{steps-back}
use Rattle.alternating.proofs.automaton.Alternating.step_back.Goals as goal

pub returns-clause-values : goal.returns-clause-values
returns-clause-values c =
    let made : c.step.new.into ≡ stepped c.args.self.now (letter_of c.args.atoms.now c.args.letter.now) c.args.next.now = search rules in
    subst (λ (now : List Bool). StepsBack c.args.self.now c.args.atoms.now c.args.letter.now c.args.next.now now) (sym made)
    (steps-back c.args.self.now c.args.atoms.now c.args.letter.now c.args.next.now)
