use Rattle.std.proofs.Common.{◌<◌, ap, add-one, length, arith}
use Rattle.clauses.specs.declared.flat.TheConstants.{MOST_VARIABLES}
use Rattle.clauses.proofs.Flats.{length_lists_from, begins_in_order, slice_get-lists_from}
use Rattle.clauses.proofs.Within.{within-piece}
use Rattle.clauses.proofs.flat.Clauses.at.Goals as goal

pub begin_of-requires : goal.begin_of-requires
begin_of-requires c =
    let inside = c.self.inside in
    omega (arith, c.requires, ap length c.self.view_is, length_lists_from inside.literals.items 0 inside.ends.items, ap length c.deref-2.ensures.value)

pub overflow_add-place : goal.overflow_add-place
overflow_add-place c =
    let inside = c.self.inside in
    omega (arith, c.requires, ap length c.self.view_is, length_lists_from inside.literals.items 0 inside.ends.items, inside.ends.ok.0, c.self.invariant.few)

pub begin_of-requires-2 : goal.begin_of-requires-2
begin_of-requires-2 c =
    let inside = c.self.inside in
    omega (arith, c.requires, ap length c.self.view_is, length_lists_from inside.literals.items 0 inside.ends.items, ap length c.deref-3.ensures.value)

pub between-requires-clause-order : goal.between-requires-clause-order
between-requires-clause-order c =
    let inside = c.self.inside in
    let within : c.args.place < length inside.ends.items = omega (arith, c.requires, ap length c.self.view_is, length_lists_from inside.literals.items 0 inside.ends.items) in
    let order = begins_in_order 0 inside.ends.items (length inside.literals.items) c.args.place c.self.invariant.cut within in
    let first = rw c.deref-2.ensures.value at c.begin_of.ensures in
    let second = rw (c.deref-3.ensures.value, add-one) at c.begin_of-2.ensures in
    rw (first, second) order.0

pub between-requires-clause-within : goal.between-requires-clause-within
between-requires-clause-within c =
    let inside = c.self.inside in
    let within : c.args.place < length inside.ends.items = omega (arith, c.requires, ap length c.self.view_is, length_lists_from inside.literals.items 0 inside.ends.items) in
    let order = begins_in_order 0 inside.ends.items (length inside.literals.items) c.args.place c.self.invariant.cut within in
    let second = rw (c.deref-3.ensures.value, add-one) at c.begin_of-2.ensures in
    rw (second, c.deref.ensures.value) order.1

pub returns-clause-is : goal.returns-clause-is
returns-clause-is c =
    let inside = c.self.inside in
    let within : c.args.place < length inside.ends.items = omega (arith, c.requires, ap length c.self.view_is, length_lists_from inside.literals.items 0 inside.ends.items) in
    let first = rw c.deref-2.ensures.value at c.begin_of.ensures in
    let second = rw (c.deref-3.ensures.value, add-one) at c.begin_of-2.ensures in
    let piece = rw (c.deref.ensures.value, first, second) at c.between.ensures in
    rw (← c.self.view_is, piece) (slice_get-lists_from inside.literals.items 0 inside.ends.items c.args.place within)

pub returns-clause-literals : goal.returns-clause-literals
returns-clause-literals c =
    let inside = c.self.inside in
    rw (c.between.ensures, c.deref.ensures.value) (within-piece MOST_VARIABLES inside.literals.items _ _ c.self.invariant.literals)
