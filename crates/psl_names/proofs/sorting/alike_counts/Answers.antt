use Rattle.std.proofs.Common.{◌≡◌, ◌∙◌, ℕ, ◌+◌, ◌-◌, List, arith, length, drop, ap, sym, subst}
use Rattle.psl_names.specs.Alike.{front_count}
use Rattle.psl_names.specs.Sorting.{names_of}
use Rattle.psl_names.proofs.Counts.{CountsMore, counts-more}
use Rattle.psl_names.proofs.Refs.{names-from}
use Rattle.psl_names.proofs.sorting.alike_counts.Goals as goal

pub alike_count-count-requires-clause-known : goal.alike_count-count-requires-clause-known
alike_count-count-requires-clause-known c =
    let names = c.args.names.now in
    let next : length names - c.loop-distance.distance ≡ length names - 1 - c.loop-distance.distance + 1 = omega arith in
    c.loop-distance.invariant.front
    ∙ ap front_count (ap (λ (n : ℕ). drop n (names_of names)) next ∙ sym (names-from names (length names - 1 - c.loop-distance.distance + 1)))

pub loop-distance-preserved : goal.loop-distance-preserved
loop-distance-preserved c =
    subst (λ (counts : List ℕ). CountsMore c.args.names.now counts c.alike_count-count.result (c.loop-distance.distance + 1)) (sym c.in_ok-add_count.ensures)
    (counts-more c.args.names.now c.loop-distance.counts.items c.loop-distance.count c.alike_count-count.result c.loop-distance.distance c.index-names-place.result
    c.loop-distance.invariant c.loop-distance-test.true c.index-names-place.is c.alike_count-count.ensures)
