use Rattle.std.proofs.Common.{◌≡◌, map, take}
use Rattle.clauses.specs.Models.{is_true}
use Rattle.gates_frames.specs.Frames.{literal_at}
use Rattle.run_terms.specs.Formulas.{values_of}
use Rattle.bounded.proofs.runs.values_in.Given as goal

abbrev pub invariant-loop-i : goal.invariant-loop-i
invariant-loop-i l = l.read ≡ map (λ signal. is_true (values_of l.values) (literal_at 0 l.frame signal)) (take l.i l.signals)
