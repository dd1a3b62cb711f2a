use Rattle.std.proofs.Common.{codes, decimal}
use Rattle.commands.proofs.Pieces.{on-ok, three-added}
use Rattle.commands.proofs.shown.add_steps.Goals as goal
use Rattle.commands.specs.Text.{line_feed}

pub returns : goal.returns
returns c =
    on-ok c.add_bytes-2.result
    (three-added c.args.text.now.items (codes "undecided steps ") (decimal c.args.steps) line_feed
    c.add_bytes.new.text.items c.add_number.new.text.items c.add_bytes-2.new.text.items c.in_ok-add_bytes.ensures.ok c.in_ok-add_number.ensures.ok)
    c.add_bytes-2.ensures.ok
