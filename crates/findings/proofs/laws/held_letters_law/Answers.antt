use Rattle.findings.proofs.Beginnings.{letters-first}
use Rattle.findings.proofs.laws.held_letters_law.Goals as goal

pub returns : goal.returns
returns c = letters-first
