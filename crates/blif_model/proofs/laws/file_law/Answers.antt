use Rattle.blif_model.proofs.FileRunning.{file-says, file-refuses}
use Rattle.blif_model.proofs.laws.file_law.Goals as goal

pub returns-clause-says : goal.returns-clause-says
returns-clause-says c = file-says

pub returns-clause-refuses : goal.returns-clause-refuses
returns-clause-refuses c = file-refuses
