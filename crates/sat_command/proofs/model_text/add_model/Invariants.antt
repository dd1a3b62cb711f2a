use Rattle.std.proofs.Common.{◌≤◌}
use Rattle.sat_command.specs.declared.model_text.TheConstants.{LINE}
use Rattle.sat_command.proofs.Columns.{IsTyped}
use Rattle.sat_command.proofs.model_text.add_model.Given as goal

abbrev pub invariant-loop-place : goal.invariant-loop-place
invariant-loop-place l = IsTyped l.fn.text.items l.text.items l.values l.place l.column × (l.column ≤ LINE)
