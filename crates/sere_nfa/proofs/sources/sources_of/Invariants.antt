use Rattle.std.proofs.Common.{◌≡◌, ℕ, ◌<◌, [], length, take, slice_index_or}
use Rattle.sere_nfa.specs.Marking.{sources_from}
use Rattle.sere_nfa.specs.Views.{states_of_code}
use Rattle.sere_nfa.proofs.sources.sources_of.Given as goal

abbrev pub invariant-loop-number : goal.invariant-loop-number
invariant-loop-number l = record {
  len : length l.sources.items ≡ length l.states;
  each : (target : ℕ) → target < length l.states → slice_index_or l.sources.items target [] ≡ sources_from 0 target (states_of_code (take l.number l.states));
}
