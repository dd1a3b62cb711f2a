use Rattle.cert_theory.proofs.Shows.{shown}
use Rattle.cert_theory.proofs.laws.shown_law.Goals as goal

pub returns : goal.returns
returns c = record { shown = λ asked queries text passed. shown asked queries text passed }
