use Rattle.commands.proofs.Pieces.{on-ok, three-added}
use Rattle.commands.proofs.shown.Shown.add_entry.Goals as goal
use Rattle.commands.specs.Text.{finding_text, head, recorded_lines}

pub returns : goal.returns
returns c =
    on-ok c.add_recorded.result
    (three-added c.args.text.now.items (head c.args.entry.now.kind c.args.entry.now.number c.args.entry.now.label)
    (finding_text c.args.entry.now.kind c.args.self.columns.now c.args.self.depth c.args.self.visits c.args.entry.now.finding) (recorded_lines c.args.entry.now.recorded)
    c.add_head.new.text.items c.add_finding.new.text.items c.add_recorded.new.text.items c.in_ok-add_head.ensures c.in_ok-add_finding.ensures)
    c.add_recorded.ensures
