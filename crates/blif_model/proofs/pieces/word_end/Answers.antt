use Rattle.std.proofs.Common.{◌≡◌, true, ◌∙◌, refl, arith}
use Rattle.blif_model.specs.declared.class.Class.{Class}
use Rattle.blif_model.specs.declared.class.Class.TheVariants.{LineFeed, White, Comment, Join, Stray, Part}
use Rattle.blif_model.specs.Pieces.{is_part}
use Rattle.blif_model.proofs.Going.{class_in}
use Rattle.blif_model.proofs.Growing.{starts_word, grows_word}
use Rattle.blif_model.proofs.pieces.word_end.Goals as goal

part-is : (class : Class) → true ≡ is_part class → class ≡ Part
part-is LineFeed is = cc
part-is White is = cc
part-is Comment is = cc
part-is Join is = cc
part-is Stray is = cc
part-is Part is = refl

pub loop-at-init : goal.loop-at-init
loop-at-init c = record {
  within = omega arith;
  after = omega arith;
  first = starts_word c.args.text.now c.args.start c.requires.within c.requires.begins;
}

pub loop-at-preserved : goal.loop-at-preserved
loop-at-preserved c = record {
  within = omega arith;
  after = omega arith;
  first =
      c.loop-at.invariant.first
      ∙ grows_word c.args.text.now c.args.start c.loop-at.at (omega arith) c.loop-at-test.true (part-is (class_in c.args.text.now c.loop-at.at) c.if-is_part.ensures);
}
