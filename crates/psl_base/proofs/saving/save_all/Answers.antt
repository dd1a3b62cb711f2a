use Rattle.std.proofs.lemmas.Result.{err_from_is_err_and}
use Rattle.std.specs.Option.{option_map}
use Rattle.std.proofs.lemmas.Option.{slice_get-get_or, slice_get-map}
use Rattle.std.proofs.Common.{◌∙◌, ap, sym, Some}
use Rattle.psl_base.proofs.Saved.{none-within, saved-first, saved-more, writes-then}
use Rattle.psl_base.proofs.saving.save_all.Goals as goal
use Rattle.psl_base.specs.Saves.{file_of}

pub returns-in_err-save_one-clause-failed : goal.returns-in_err-save_one-clause-failed
returns-in_err-save_one-clause-failed g c =
    let p = err_from_is_err_and c.from_residual.result c.from_residual.ensures.1 in
    let part = c.in_err-save_one.ensures.failed in
    rw p.1 record {
      whole = c.loop-save.save-index;
      next = file_of c.save-item.result;
      here = slice_get-map file_of c.args.saves.now c.loop-save.save-index
          ∙ ap (option_map file_of) (slice_get-get_or c.args.saves.now c.loop-save.save-index c.save-item.result c.loop-save-test.true ∙ ap Some (sym c.save-item.is));
      between = g.F.Shelf.state c.loop-save.files;
      before = saved-first c.args.saves.now c.loop-save.save-index _ _ c.loop-save.invariant.saved;
      part = part.part;
      cause = rw (sym c.loop-save.invariant.saved.write_faults) part.cause;
    }

pub loop-save-preserved : goal.loop-save-preserved
loop-save-preserved g c = record {
  saved = saved-more c.args.saves.now c.loop-save.save-index c.save-item.result _ _ _ c.loop-save-test.true c.save-item.is c.loop-save.invariant.saved c.in_ok-save_one.ensures.ok;
  only = writes-then _ _ _ c.loop-save.invariant.only c.save_one.ensures.rest;
  none = λ e. absurd (none-within c.args.saves.now c.loop-save.save-index c.loop-save-test.true e);
}
