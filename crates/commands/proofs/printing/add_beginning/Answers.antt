use Rattle.std.proofs.Common.{codes, decimal}
use Rattle.commands.proofs.Pieces.{on-ok, seven-added}
use Rattle.commands.proofs.printing.add_beginning.Goals as goal
use Rattle.commands.specs.Text.{line_feed}

pub returns-in_ok-add_number-in-At-3 : goal.returns-in_ok-add_number-in-At-3
returns-in_ok-add_number-in-At-3 c =
    rw c.in-At.is (on-ok c.add_bytes-in-At-4.result
    (seven-added c.args.text.now.items (codes "  settled at sample ") (decimal c.in-At.sample) (codes " time ") (decimal c.in-At.time) (codes " line ")
    (decimal c.in-At.line) line_feed c.add_bytes-in-At.new.text.items c.add_number.new.text.items c.add_bytes-in-At-2.new.text.items
    c.add_number-in-At.new.text.items c.add_bytes-in-At-3.new.text.items c.add_number-in-At-2.new.text.items c.add_bytes-in-At-4.new.text.items
    c.in_ok-add_bytes-in-At.ensures.ok c.in_ok-add_number-in-At.ensures.ok c.in_ok-add_bytes-in-At-2.ensures.ok c.in_ok-add_number-in-At-2.ensures.ok
    c.in_ok-add_bytes-in-At-3.ensures.ok c.in_ok-add_number-in-At-3.ensures.ok)
    c.add_bytes-in-At-4.ensures.ok)
