use Rattle.blif_reader.proofs.Readings.{reading-some, reading-one}
use Rattle.blif_reader.proofs.laws.one_reading_law.Goals as goal

pub returns-clause-some : goal.returns-clause-some
returns-clause-some c = λ text. reading-some text

pub returns-clause-one : goal.returns-clause-one
returns-clause-one c = λ text read other one two. reading-one text read other one two
