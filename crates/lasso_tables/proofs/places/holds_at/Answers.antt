use Rattle.std.proofs.Common.{◌∙◌}
use Rattle.psl_tree.specs.Trees.{boolean_of}
use Rattle.lasso_tables.proofs.Letters.{stem-letter, loop-letter, behind-letter}
use Rattle.lasso_tables.proofs.places.holds_at.Goals as goal

pub returns-then-place-stem : goal.returns-then-place-stem
returns-then-place-stem c = c.holds_seen.ensures
    ∙ stem-letter c.args.word.now.stem c.args.word.now.looped c.as_slice-stem.result.now c.args.place c.index-stem-place.result c.args.flipped (boolean_of c.args.test.now)
    c.as_slice-stem.ensures c.if-place-stem.true c.index-stem-place.is

pub returns-then-later-looped : goal.returns-then-later-looped
returns-then-later-looped c = c.holds_seen-then-later-looped.ensures
    ∙ loop-letter c.args.word.now.stem c.args.word.now.looped c.as_slice-stem.result.now c.as_slice-looped.result.now c.args.place c.index-looped-later.result c.args.flipped
    (boolean_of c.args.test.now) c.as_slice-stem.ensures c.as_slice-looped.ensures c.if-place-stem.false c.if-later-looped.true c.index-looped-later.is

pub returns : goal.returns
returns c = behind-letter c.args.word.now.stem c.args.word.now.looped c.as_slice-stem.result.now c.as_slice-looped.result.now c.args.place c.args.flipped
    (boolean_of c.args.test.now) c.as_slice-stem.ensures c.as_slice-looped.ensures c.if-place-stem.false c.if-later-looped.false
