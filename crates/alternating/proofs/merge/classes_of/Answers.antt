use Rattle.std.proofs.Common.{◌≡◌, ◌++◌, [], ◌∷◌, ap, ◌∙◌, length, List, ℕ, rules}
use Rattle.alternating_theory.proofs.Classes.{classes-long}
use Rattle.alternating.specs.Views.{obligations_of_code}
use Rattle.alternating.proofs.Merging.{classes-more}
use Rattle.alternating.proofs.merge.classes_of.Goals as goal

pub first_like-class-requires-clause-classes : goal.first_like-class-requires-clause-classes
first_like-class-requires-clause-classes c =
    ap (λ (l : List ℕ). length l) c.as_slice-in-loop-number.ensures.value ∙ ap (λ (l : List ℕ). length l) c.loop-number.invariant ∙ classes-long (obligations_of_code c.args.obligations.now) c.loop-number.number

pub loop-number-preserved : goal.loop-number-preserved
loop-number-preserved c =
    let pushed : c.push.new.self.items ≡ c.loop-number.classes.items ++ c.first_like-class.result ∷ [] = search rules in
    classes-more (obligations_of_code c.args.obligations.now) c.loop-number.number c.loop-number.classes.items c.as_slice-in-loop-number.result.now c.push.new.self.items c.first_like-class.result
    c.loop-number.invariant c.as_slice-in-loop-number.ensures.value c.first_like-class.ensures pushed
