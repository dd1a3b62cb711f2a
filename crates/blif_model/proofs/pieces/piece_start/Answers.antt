use Rattle.std.proofs.Common.{◌∙◌, sym, arith}
use Rattle.blif_model.proofs.Going.{past-white, into-comment, past-join}
use Rattle.blif_model.proofs.pieces.piece_start.Goals as goal

pub loop-at-preserved-in-White : goal.loop-at-preserved-in-White
loop-at-preserved-in-White c = record {
  within = omega arith;
  same = c.loop-at.invariant.same ∙ past-white c.args.text.now c.loop-at.at c.loop-at-test.true (sym c.in-White.ensures);
}

pub loop-at-preserved-in-Comment : goal.loop-at-preserved-in-Comment
loop-at-preserved-in-Comment c = record {
  within = c.comment_end-at.ensures.within;
  same = c.loop-at.invariant.same ∙ into-comment c.args.text.now c.loop-at.at c.loop-at-test.true (sym c.in-Comment.ensures) ∙ c.comment_end-at.ensures.same;
}

pub loop-at-preserved : goal.loop-at-preserved
loop-at-preserved c =
    let joined = past-join c.args.text.now c.loop-at.at c.loop-at-test.true (sym c.in-Join.ensures) in
    record { within = joined.0; same = c.loop-at.invariant.same ∙ joined.1 }
