use Rattle.std.proofs.Common.{◌≡◌, map, IsTrue}
use Rattle.std.specs.List.{range_with_len}
use Rattle.clauses.specs.declared.flat.TheConstants.{MOST_VARIABLES}
use Rattle.clauses.specs.Literals.{clause_within}
use Rattle.bounded.specs.Places.{begins_at}
use Rattle.bounded.proofs.beginning.begin_literals.Given as goal

abbrev pub invariant-loop-place : goal.invariant-loop-place
invariant-loop-place l = record {
  are : l.literals ≡ map (begins_at l.places.automaton.now l.places.last l.places.before) (range_with_len 0 l.place);
  within : IsTrue (clause_within MOST_VARIABLES l.literals);
}
