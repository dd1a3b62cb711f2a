use Rattle.bounded.proofs.Growing.{extends-asked, extends-with_obligation, extends-with_place}
use Rattle.bounded.proofs.laws.growing_law.Goals as goal

pub returns : goal.returns
returns c = record { obligation = extends-with_obligation; place = extends-with_place; asked = extends-asked }
