use Rattle.blif_model.proofs.FileRunning.{file-said-ok, file-said-err}
use Rattle.blif_model.proofs.file_reading.read_models.Goals as goal

pub returns-clause-says : goal.returns-clause-says
returns-clause-says c = file-said-ok c.args.whole.now c.read_file_lines.result c.read_file_lines.ensures.says

pub returns-clause-fault : goal.returns-clause-fault
returns-clause-fault c = file-said-err c.args.whole.now c.read_file_lines.result c.read_file_lines.ensures.fault
