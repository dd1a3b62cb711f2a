use Rattle.std.proofs.Common.{codes, decimal}
use Rattle.commands.proofs.Pieces.{four-added, on-ok}
use Rattle.commands.proofs.progress.add_milestone.Goals as goal
use Rattle.commands.specs.Progress.{against_word}

pub returns-in_ok-add_bytes-in-NoneWithin-2 : goal.returns-in_ok-add_bytes-in-NoneWithin-2
returns-in_ok-add_bytes-in-NoneWithin-2 c =
    rw c.in-NoneWithin.is (on-ok c.add_bytes-in-NoneWithin-2.result
    (λ ok. four-added c.args.text.now.items (codes "no run of up to ") (decimal c.in-NoneWithin.size) (codes " valuations ") (against_word c.args.kind)
    c.add_bytes.new.text.items c.add_number.new.text.items c.add_bytes-in-NoneWithin.new.text.items c.add_bytes-in-NoneWithin-2.new.text.items
    c.in_ok-add_bytes-in-NoneWithin.ensures.ok c.in_ok-add_number-in-NoneWithin.ensures.ok c.in_ok-add_bytes-in-NoneWithin-2.ensures.ok
    (rw c.against.ensures at ok))
    c.add_bytes-in-NoneWithin-2.ensures.ok)
