use Rattle.std.proofs.Common.{◌≤◌, sym, ap, length, arith}
use Rattle.std.proofs.lemmas.List.{take_all, length-take-le}
use Rattle.clauses.specs.declared.flat.TheConstants.{MOST_VARIABLES}
use Rattle.clauses.specs.Flat.{begin_of}
use Rattle.clauses.proofs.Flats.{length_lists_from, ends_first, begin_within, lists_from-take}
use Rattle.clauses.proofs.Within.{within-take}
use Rattle.clauses.proofs.flat.Clauses.truncate.Goals as goal

pub invariant_of-self : goal.invariant_of-self
invariant_of-self c =
    let literals = c.self.inside.literals.items in
    let ends = c.self.inside.ends.items in
    let fits : c.args.count ≤ length ends = omega (arith, c.self.inside.ends.ok.0) in
    let cut_at = rw c.deref.ensures.value at c.begin_of.ensures in
    let low = begin_within 0 ends (length literals) c.args.count c.self.invariant.cut fits in
    let size = length-take-le (begin_of 0 ends c.args.count) literals low in
    record {
      cut = rw (c.truncate.ensures.items, c.truncate-then-count-len.ensures.items, cut_at, size) (ends_first 0 ends (length literals) c.args.count c.self.invariant.cut fits);
      few = omega (
        arith,
        ap length c.truncate.ensures.items,
        ap length c.truncate-then-count-len.ensures.items,
        length-take-le c.begin_of.result literals (omega (arith, cut_at, low)),
        length-take-le c.args.count ends fits,
        c.self.invariant.few,
      );
      literals = rw c.truncate.ensures.items (within-take MOST_VARIABLES literals c.begin_of.result c.self.invariant.literals);
    }

pub returns-then-count-len : goal.returns-then-count-len
returns-then-count-len c =
    let literals = c.self.inside.literals.items in
    let ends = c.self.inside.ends.items in
    let fits : c.args.count ≤ length ends = omega (arith, c.self.inside.ends.ok.0) in
    let cut_at = rw c.deref.ensures.value at c.begin_of.ensures in
    rw (c.truncate.ensures.items, c.truncate-then-count-len.ensures.items, cut_at, ← c.self.view_is) (lists_from-take literals 0 ends c.args.count c.self.invariant.cut fits)

pub returns-else-count-len : goal.returns-else-count-len
returns-else-count-len c =
    let inside = c.self.inside in
    sym (take_all c.args.count c.args.self.now (omega (arith, ap length c.self.view_is, length_lists_from inside.literals.items 0 inside.ends.items, inside.ends.ok.0)))
