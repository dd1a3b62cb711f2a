use Rattle.std.proofs.Common.{length, arith, ◌∙◌, ap, sym, Some}
use Rattle.std.specs.Prelude.{take, drop, slice_index, ◌-◌, ◌/◌}
use Rattle.clause_store.proofs.Runs.{lies}
use Rattle.clause_store.proofs.Storing.{clause-past, clause-out, clause-there}
use Rattle.clause_store.proofs.region.clause_at.Goals as goal
use Rattle.clause_store.proofs.region.clause_at.Goals.{then-place-ends-via-then-place-ends, then-place-ends-via-else-place-ends+then-ends-place-eq1}

pub returns-then-place-ends-clause-none : goal.returns-then-place-ends-clause-none
returns-then-place-ends-clause-none c = elim c.then-place-ends.branch [
  | then-place-ends-via-then-place-ends w ↦ clause-past c.args.words.now c.args.ends.now c.args.place (omega (arith, w.if-place-ends))
  | then-place-ends-via-else-place-ends+then-ends-place-eq1 w ↦ clause-out c.args.words.now c.args.ends.now c.args.place (omega (arith, w.if-place-ends)) (omega (arith, w.if-ends-place-eq1))
]

pub slice_bounds-result-count : goal.slice_bounds-result-count
slice_bounds-result-count c =
    let here = lies 0 c.args.ends.now (length c.args.words.now) c.args.place c.requires (omega (arith, c.if-place-ends.false)) in
    omega (arith, here.order, c.begin_of.ensures)

pub slice_bounds-result-start : goal.slice_bounds-result-start
slice_bounds-result-start c =
    let here = lies 0 c.args.ends.now (length c.args.words.now) c.args.place c.requires (omega (arith, c.if-place-ends.false)) in
    omega (arith, here.order, here.within, c.begin_of.ensures)

pub slice_bounds-result-end : goal.slice_bounds-result-end
slice_bounds-result-end c =
    let here = lies 0 c.args.ends.now (length c.args.words.now) c.args.place c.requires (omega (arith, c.if-place-ends.false)) in
    omega (arith, here.order, here.within, c.begin_of.ensures)

pub returns-clause-some : goal.returns-clause-some
returns-clause-some c =
    clause-there c.args.words.now c.args.ends.now c.args.place (omega (arith, c.if-place-ends.false)) (omega (arith, c.if-ends-place-eq1.false))
    ∙ ap (λ begin. Some (take (slice_index c.args.ends.now c.args.place / 2 - begin) (drop begin c.args.words.now))) (sym c.begin_of.ensures)
