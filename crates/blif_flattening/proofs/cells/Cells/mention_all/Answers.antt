use Rattle.std.proofs.Common.{◌^◌, ◌∙◌}
use Rattle.blif_flattening.proofs.Mentions.{seen-next, numbers-pushed, room-next}
use Rattle.blif_flattening.proofs.cells.Cells.mention_all.Goals as goal

pub mention-requires-clause-room : goal.mention-requires-clause-room
mention-requires-clause-room c =
    rw c.loop-name.invariant.owners
    (room-next c.args.self.now.owners c.args.cells.now c.args.names.now c.args.self.now.seen c.loop-name.self.seen c.loop-name.name-index c.loop-name-test.true
    c.loop-name.invariant.seen (2 ^ 32) c.requires.room)

pub loop-name-preserved : goal.loop-name-preserved
loop-name-preserved c =
    let seen = rw c.loop-name.invariant.owners at c.in_ok-mention.ensures.seen in
    let number = rw c.loop-name.invariant.owners at c.in_ok-mention.ensures.number in
    record {
      owners = c.mention.ensures.owners ∙ c.loop-name.invariant.owners;
      seen = seen ∙ seen-next c.args.self.now.owners c.args.cells.now c.args.names.now c.args.self.now.seen c.loop-name.self.seen c.loop-name.name-index c.loop-name-test.true
          c.loop-name.invariant.seen;
      numbers = numbers-pushed c.args.self.now.owners c.args.cells.now c.args.names.now c.args.self.now.seen c.loop-name.self.seen c.loop-name.name-index
          c.loop-name-test.true c.loop-name.invariant.seen c.loop-name.numbers.items c.push.new.self.items c.in_ok-mention.field-0 c.mention.new.self.seen
          c.loop-name.invariant.numbers seen number c.in_ok-push.ensures.items;
    }
