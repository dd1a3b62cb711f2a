use Rattle.joint_selectors.proofs.Models.{missed-extends, missed-model}
use Rattle.joint_selectors.proofs.Sizes.{some-within, some-words}
use Rattle.joint_selectors.proofs.laws.missed_law.Goals as goal

pub returns : goal.returns
returns c = record { models = missed-model; extends = missed-extends; within = some-within; words = some-words }
