use Rattle.std.proofs.Common.{◌≡◌, take, map}
use Rattle.blif_reader.specs.Kept.{model_titles}
use Rattle.blif_reader.proofs.shape.titles_of.Given as goal

abbrev pub invariant-loop-model : goal.invariant-loop-model
invariant-loop-model l = l.titles ≡ map model_titles (take l.model-index l.models)
