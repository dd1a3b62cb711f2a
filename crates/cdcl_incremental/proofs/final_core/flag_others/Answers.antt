use Rattle.std.proofs.Common.{◌<◌, ◌/◌, ℕ, length, get_or, ap, ◌∙◌, sym, arith}
use Rattle.cdcl_incremental.proofs.Cores.{flag_stays, explained_own, explained_other, explained_all}
use Rattle.cdcl_incremental.proofs.final_core.flag_others.Goals as goal

pub loop-other-preserved-then-other-literals : goal.loop-other-preserved-then-other-literals
loop-other-preserved-then-other-literals c = record {
  more = c.loop-other.invariant.more;
  all = explained_own c.args.trail.now c.loop-other.flags c.args.place c.args.clause.now c.loop-other.other-index c.loop-other-test.true
      (c.if-other-literals.true ∙ ap (λ ls. get_or ls c.args.place 0) c.literals-literals.ensures.is) c.loop-other.invariant.all;
}

pub loop-other-preserved : goal.loop-other-preserved
loop-other-preserved c =
    let at : ℕ = get_or c.places-places.result.now (get_or c.args.clause.now c.loop-other.other-index 0 / 2) 0 in
    let lower : at < c.args.place = omega arith in
    let within : c.args.place < length c.loop-other.flags = omega (arith, c.loop-other.auto.flags) in
    let size : at < length c.loop-other.flags = omega arith in
    record {
      more = λ k flag. flag_stays c.loop-other.flags at k size (c.loop-other.invariant.more k flag);
      all = explained_other c.args.trail.now c.loop-other.flags c.args.place c.args.clause.now c.loop-other.other-index at c.loop-other-test.true lower within
          (ap (λ ls. get_or ls at 0) (sym c.literals-literals.ensures.is) ∙ c.if-literals-at.false ∙ c.opposite.ensures) c.loop-other.invariant.all;
    }

pub returns-clause-all : goal.returns-clause-all
returns-clause-all c = explained_all c.args.trail.now c.loop-other.flags c.args.place c.args.clause.now c.loop-other.other-index c.loop-other-test.false c.loop-other.invariant.all
