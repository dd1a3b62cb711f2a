use Rattle.std.proofs.Common.{[], ◌∷◌, codes, decimal}
use Rattle.commands.proofs.Pieces.{five-added, on-ok}
use Rattle.commands.proofs.printing.add_meaning.Goals as goal
use Rattle.commands.specs.Text.{head}

pub returns : goal.returns
returns c =
    on-ok c.add_bytes-3.result
    (five-added c.args.text.now.items (head c.args.meaning.now.kind c.args.meaning.now.number c.args.meaning.now.label) c.args.meaning.now.text (codes " obligations ")
    (decimal c.args.meaning.now.obligations) (10 ∷ []) c.add_head.new.text.items c.add_bytes.new.text.items c.add_bytes-2.new.text.items c.add_number.new.text.items c.add_bytes-3.new.text.items
    c.in_ok-add_head.ensures (rw c.as_slice.ensures at c.in_ok-add_bytes.ensures.ok) c.in_ok-add_bytes-2.ensures.ok c.in_ok-add_number.ensures.ok)
    c.add_bytes-3.ensures.ok
