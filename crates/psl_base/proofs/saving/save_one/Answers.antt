use Rattle.std.proofs.Common.{◌∙◌, arith, length-drop, string_bytes}
use Rattle.psl_base.proofs.Saved.{added-more, writes-then}
use Rattle.psl_base.proofs.saving.save_one.Goals as goal

pub loop-done-preserved : goal.loop-done-preserved
loop-done-preserved g c =
    let appends = c.in_ok-done.ensures.ok in
    record {
      within = omega (arith, appends.fits, length-drop c.loop-done.done c.as_slice-content.result.now);
      told = added-more (string_bytes c.args.save.now.name) c.as_slice-content.result.now c.loop-done.done c.in_ok-done.field-0 _ _ _ _
          c.loop-done.invariant.created c.loop-done.invariant.told appends.told;
      created = appends.created ∙ c.loop-done.invariant.created;
      write_faults = appends.write_faults ∙ c.loop-done.invariant.write_faults;
      only = writes-then _ _ _ c.loop-done.invariant.only c.append.ensures.rest;
    }
