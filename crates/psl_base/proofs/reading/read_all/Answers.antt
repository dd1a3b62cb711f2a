use Rattle.std.proofs.Common.{◌∙◌}
use Rattle.psl_base.proofs.reading.read_all.Goals as goal

-- the name that was selected is there, and what reading knows of the selected name is of its content
pub returns-clause-longer : goal.returns-clause-longer
returns-clause-longer g c too_long contents told =
    let selects = c.in_ok-select.ensures.ok in
    let there = selects.there contents told in
    (there.0, there.1, c.read_rest.ensures.longer too_long contents c.args.name.now there.0 (c.in_ok-select.ensures.rest.told ∙ told) selects.selected there.1)
