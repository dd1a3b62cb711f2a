use Rattle.std.proofs.Common.{◌≡◌, ℕ, ◌<◌, ◌++◌, [], length, drop}
use Rattle.std.specs.Prelude.{slice_index_or}
use Rattle.lasso_judge.specs.Arrows.{places_from}
use Rattle.lasso_judge.proofs.chart.places_of_each.Given as goal

abbrev pub invariant-loop-place : goal.invariant-loop-place
invariant-loop-place l = record {
  len : length l.found.items ≡ l.count;
  each : (number : ℕ) → number < l.count → slice_index_or l.found.items number [] ++ places_from l.place number (drop l.place l.numbers) ≡ places_from 0 number l.numbers;
}
