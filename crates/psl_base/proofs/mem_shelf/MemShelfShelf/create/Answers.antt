use Rattle.std.proofs.Common.{◌∙◌}
use Rattle.psl_base.proofs.ShelfSteps.{creates_name}
use Rattle.psl_base.proofs.mem_shelf.MemShelfShelf.create.Goals as goal

pub returns-clause-ok : goal.returns-clause-ok
returns-clause-ok c =
    rw (← c.as_bytes.ensures.value) (creates_name c.self.inside c.args.self.now _ c.as_bytes.result.now c.create.new.self
    (c.self.view_is ∙ c.next_call_fails-fails.ensures.counted) c.if-not-create.ensures.created)
