use Rattle.std.proofs.Common.{length, arith, refl}
use Rattle.std.proofs.lemmas.List.Sorted.{Contains-permutation, IsNonDecreasingBy-from_sort}
use Rattle.cdcl_conflict_theory.specs.Trails.{size_of}
use Rattle.cdcl_conflict.specs.Views.{steps_of}
use Rattle.cdcl_conflict.proofs.Collecting.{permuted_within}
use Rattle.cdcl_conflict.proofs.collect.collect.Goals as goal

pub add_hints-requires-clause-room : goal.add_hints-requires-clause-room
add_hints-requires-clause-room c =
    permuted_within (size_of (steps_of c.args.trail.now)) (length c.args.standings.now) c.args.standings.now c.args.reached.now c.sort_unstable.new.self c.requires.room c.requires.listed c.sort_unstable.ensures.permutation

pub add_hints-requires-clause-within : goal.add_hints-requires-clause-within
add_hints-requires-clause-within c =
    permuted_within (size_of (steps_of c.args.trail.now)) (length c.args.trail.now.reasons.now) c.args.standings.now c.args.reached.now c.sort_unstable.new.self (omega (arith, c.requires.reasons)) c.requires.listed c.sort_unstable.ensures.permutation

pub add_literals-requires-clause-room : goal.add_literals-requires-clause-room
add_literals-requires-clause-room c =
    permuted_within (size_of (steps_of c.args.trail.now)) (length c.args.standings.now) c.args.standings.now c.args.reached.now c.sort_unstable.new.self c.requires.room c.requires.listed c.sort_unstable.ensures.permutation

pub add_literals-requires-clause-within : goal.add_literals-requires-clause-within
add_literals-requires-clause-within c =
    permuted_within (size_of (steps_of c.args.trail.now)) (size_of (steps_of c.args.trail.now)) c.args.standings.now c.args.reached.now c.sort_unstable.new.self (omega arith) c.requires.listed c.sort_unstable.ensures.permutation

pub wipe-requires-clause-room : goal.wipe-requires-clause-room
wipe-requires-clause-room c =
    permuted_within (size_of (steps_of c.args.trail.now)) (length c.args.standings.now) c.args.standings.now c.args.reached.now c.sort_unstable.new.self c.requires.room c.requires.listed c.sort_unstable.ensures.permutation

pub wipe-requires-clause-listed : goal.wipe-requires-clause-listed
wipe-requires-clause-listed c = λ place touched.
    Contains-permutation c.args.reached.now c.sort_unstable.new.self place c.sort_unstable.ensures.permutation (c.requires.listed.touched place touched)

pub returns-clause-collected : goal.returns-clause-collected
returns-clause-collected c = record {
  places = c.sort_unstable.new.self;
  permutation = c.sort_unstable.ensures.permutation;
  rising = IsNonDecreasingBy-from_sort (λ n. n) c.sort_unstable.new.self c.sort_unstable.ensures.sorted;
  hints_are = rw (c.in_ok-push.ensures.items, c.in_ok-add_hints.ensures, c.clear.ensures.items) refl;
  literals_are = rw (c.in_ok-add_literals.ensures, c.clear-2.ensures.items) refl;
}
