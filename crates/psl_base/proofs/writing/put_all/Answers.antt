use Rattle.std.proofs.Common.{◌∙◌, arith, length-drop}
use Rattle.psl_base.proofs.Putting.{put_more}
use Rattle.psl_base.proofs.writing.put_all.Goals as goal

pub loop-done-preserved : goal.loop-done-preserved
loop-done-preserved g c =
    let puts = rw c.from_place.ensures at c.in_ok-done.ensures.ok in
    record {
      within = omega (arith, puts.fits, length-drop c.loop-done.done c.args.bytes.now);
      written = put_more c.args.bytes.now c.loop-done.done c.in_ok-done.field-0 _ _ _ c.loop-done.invariant.written puts.written;
      faults = puts.faults ∙ c.loop-done.invariant.faults;
    }
