use Rattle.std.proofs.Common.{◌∙◌}
use Rattle.psl_base.specs.declared.packed.File.{File}
use Rattle.psl_base.proofs.ShelfSteps.{cursor_within, reads_piece, reads_whole, keeps_read}
use Rattle.psl_base.proofs.mem_shelf.MemShelfShelf.read.Goals as goal

pub copy_from-count-requires : goal.copy_from-count-requires
copy_from-count-requires c =
    let file : File = record { name = c.file_at.result.0.now; content = c.file_at.result.1.now } in
    cursor_within c.self.inside c.in-Some.place file c.self.invariant c.in-Some.is c.file_at.ensures

pub invariant_of-self-2 : goal.invariant_of-self-2
invariant_of-self-2 c =
    let file : File = record { name = c.file_at.result.0.now; content = c.file_at.result.1.now } in
    keeps_read c.self.inside c.in-Some.place c.copy_from-count.result file c.args.into.now c.self.invariant c.in-Some.is c.file_at.ensures c.copy_from-count.ensures.count

pub returns-clause-ok : goal.returns-clause-ok
returns-clause-ok c =
    let file : File = record { name = c.file_at.result.0.now; content = c.file_at.result.1.now } in
    reads_piece c.self.inside c.args.self.now _ c.in-Some.place c.copy_from-count.result file c.args.into.now c.copy_from-count.new.into
    (c.self.view_is ∙ c.next_call_fails.ensures.counted) c.self.invariant c.in-Some.is c.file_at.ensures c.copy_from-count.ensures.count c.copy_from-count.ensures.bytes c.copy_from-count.auto.into c.requires.room

pub returns-clause-whole : goal.returns-clause-whole
returns-clause-whole c =
    let file : File = record { name = c.file_at.result.0.now; content = c.file_at.result.1.now } in
    reads_whole c.self.inside c.args.self.now _ c.in-Some.place c.copy_from-count.result file c.args.into.now
    (c.self.view_is ∙ c.next_call_fails.ensures.counted) c.self.invariant c.in-Some.is c.file_at.ensures c.copy_from-count.ensures.count
