use Rattle.std.proofs.Common.{◌≡◌, length, take}
use Rattle.sere_nfa.specs.Marking.{AddsSources}
use Rattle.sere_nfa.specs.Views.{edges_of}
use Rattle.sere_nfa.proofs.sources.add_sources.Given as goal

abbrev pub invariant-loop-edge : goal.invariant-loop-edge
invariant-loop-edge l = record {
  len : length l.sources.items ≡ length l.initial.sources.items;
  each : AddsSources l.initial.sources.items l.sources.items l.number (edges_of (take l.edge-index l.edges));
}
