use Rattle.std.proofs.Common.{codes, decimal}
use Rattle.commands.proofs.Pieces.{on-ok, three-added}
use Rattle.commands.proofs.printing.add_replay.Goals as goal
use Rattle.commands.specs.Text.{line_feed}

pub returns-in_ok-add_number-in-Path : goal.returns-in_ok-add_number-in-Path
returns-in_ok-add_number-in-Path c =
    rw c.in-Path.is (on-ok c.add_bytes-in-Path.result
    (three-added c.args.text.now.items (codes "replay: path samples ") (decimal c.args.samples) line_feed
    c.add_bytes.new.text.items c.add_number.new.text.items c.add_bytes-in-Path.new.text.items c.in_ok-add_bytes-in-Path.ensures.ok c.in_ok-add_number-in-Path.ensures.ok)
    c.add_bytes-in-Path.ensures.ok)
