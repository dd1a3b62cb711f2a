use Rattle.std.proofs.Common.{refl, ap, inl, inr, Some}
use Rattle.commands.proofs.Saving.{failed-cause, failed-text, saved-failed, saved-whole}
use Rattle.commands.proofs.finish.finish_outcome.Goals as goal

pub returns-in-Err-clause-printed : goal.returns-in-Err-clause-printed
returns-in-Err-clause-printed g c =
    rw c.of_none.ensures (inl (
      rw (← c.requires.text, ← c.as_slice-2.ensures, ← c.as_slice.ensures)
          (failed-text c.as_slice.result.now c.as_slice-2.result.now _ _ _ _ c.in-Err.ensures.failed),
      c.tell_write_fault.ensures,
    ))

pub returns-in-Err-clause-made : goal.returns-in-Err-clause-made
returns-in-Err-clause-made g c = record {
  outcome_kept = refl;
  fault_is = inr (ap Some c.of_none.ensures, rw (← c.as_slice.ensures) (failed-cause c.as_slice.result.now c.as_slice-2.result.now _ _ _ _ c.in-Err.ensures.failed));
}

pub returns-in-Err-clause-saved : goal.returns-in-Err-clause-saved
returns-in-Err-clause-saved g c =
    rw (← c.as_slice.ensures) (saved-failed c.as_slice.result.now c.as_slice-2.result.now _ _ _ _ _ (ap Some c.of_none.ensures)
    c.write.ensures.none c.write.ensures.rest.read_faults c.in-Err.ensures.failed)

pub returns-clause-saved : goal.returns-clause-saved
returns-clause-saved g c =
    rw (← c.as_slice.ensures) (saved-whole c.as_slice.result.now _ _ _ c.write.ensures.none c.write.ensures.rest.read_faults c.in_default.ensures.saved)
