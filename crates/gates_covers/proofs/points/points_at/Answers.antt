use Rattle.std.proofs.Common.{◌∙◌, sym}
use Rattle.gates_covers.proofs.Masks.{mask-any, mask-one, mask-zero}
use Rattle.gates_covers.proofs.points.points_at.Goals as goal

pub returns-in-Zero : goal.returns-in-Zero
returns-in-Zero c = mask-zero c.args.row.now c.args.place c.requires (sym c.mark_at.ensures ∙ c.in-Zero.is)

pub returns-in-One : goal.returns-in-One
returns-in-One c = mask-one c.args.row.now c.args.place c.requires (sym c.mark_at.ensures ∙ c.in-One.is)

pub returns-in-Any : goal.returns-in-Any
returns-in-Any c = mask-any c.args.row.now c.args.place (sym c.mark_at.ensures ∙ c.in-Any.is)
