use Rattle.std.proofs.Common.{◌∙◌}
use Rattle.psl_base.proofs.ShelfSteps.{appends_piece, keeps_append}
use Rattle.psl_base.proofs.mem_shelf.MemShelfShelf.append.Goals as goal

pub invariant_of-self-2 : goal.invariant_of-self-2
invariant_of-self-2 c = keeps_append c.self-2.inside c.args.bytes.now c.grow_last.new.self c.self-2.invariant c.grow_last.ensures.grows

pub returns-clause-ok : goal.returns-clause-ok
returns-clause-ok c =
    appends_piece c.self-2.inside c.args.self.now _ c.args.bytes.now c.grow_last.new.self
    (c.self-2.view_is ∙ c.next_call_fails.ensures.counted) c.grow_last.ensures.grows
