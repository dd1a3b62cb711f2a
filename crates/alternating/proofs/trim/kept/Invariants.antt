use Rattle.std.proofs.Common.{◌≡◌, map, take, slice_index}
use Rattle.sere_nfa.specs.Marking.{is_marked}
use Rattle.alternating_theory.specs.Trimmed.{kept, renumbered_obligation}
use Rattle.alternating.specs.Views.{obligations_of_code}
use Rattle.alternating.proofs.trim.kept.Given as goal

abbrev pub invariant-loop-number : goal.invariant-loop-number
invariant-loop-number l = obligations_of_code l.found.items
    ≡ map (λ obligation. renumbered_obligation (λ number. slice_index l.names number) obligation) (kept (is_marked l.marks) (obligations_of_code (take l.number l.obligations)))
