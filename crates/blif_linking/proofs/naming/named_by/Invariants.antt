use Rattle.std.proofs.Common.{◌≡◌, ℕ, List, drop, map}
use Rattle.blif_linking.specs.Actuals.{actual_in}
use Rattle.blif_linking.specs.Naming.{named_by}
use Rattle.blif_linking.proofs.naming.named_by.Given as goal

abbrev pub invariant-loop-actual : goal.invariant-loop-actual
invariant-loop-actual l =
    (whole : List ℕ) → named_by l.initial.names (map (actual_in whole) l.actuals)
    ≡ named_by l.names (map (actual_in whole) (drop l.actual-index l.actuals))
