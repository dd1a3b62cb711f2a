use Rattle.std.proofs.Common.{◌≡◌, take, map}
use Rattle.blif_model.specs.declared.file.FileModel.{FileModel}
use Rattle.blif_reader.specs.Kept.{start_at}
use Rattle.blif_reader.proofs.shape.starts_of.Given as goal

abbrev pub invariant-loop-model : goal.invariant-loop-model
invariant-loop-model l = l.starts ≡ map (λ (model : FileModel). start_at model.title) (take l.model-index l.models)
