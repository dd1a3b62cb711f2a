use Rattle.std.proofs.Common.{◌++◌, codes, decimal}
use Rattle.commands.proofs.Pieces.{on-ok, six-added}
use Rattle.commands.proofs.shown.add_judged.Goals as goal
use Rattle.commands.specs.Text.{answers_line, line_feed}

pub returns : goal.returns
returns c =
    on-ok c.add_answers.result
    (six-added c.args.text.now.items (codes "  recording ") c.args.name.now (codes " samples ") (decimal c.args.samples) (line_feed ++ codes "  judged ") (answers_line c.args.verdict.now)
    c.add_bytes.new.text.items c.add_bytes-2.new.text.items c.add_bytes-3.new.text.items c.add_number.new.text.items c.add_bytes-4.new.text.items c.add_answers.new.text.items
    c.in_ok-add_bytes.ensures.ok (rw c.as_slice.ensures at c.in_ok-add_bytes-2.ensures.ok) c.in_ok-add_bytes-3.ensures.ok c.in_ok-add_number.ensures.ok c.in_ok-add_bytes-4.ensures.ok)
    c.add_answers.ensures
