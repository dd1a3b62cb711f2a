use Rattle.psl_base.proofs.Counting.{found_content, found_within}
use Rattle.psl_base.proofs.packed.PackedFiles.content.Goals as goal

pub file_at-requires : goal.file_at-requires
file_at-requires c = found_within _ _ _ c.in_ok-find.ensures.found

pub returns-clause-found : goal.returns-clause-found
returns-clause-found c =
    found_content c.args.self.now.files c.args.name.now c.file_at.result.0.now c.file_at.result.1.now c.in_ok-find.field-0 c.in_ok-find.ensures.found c.file_at.ensures
