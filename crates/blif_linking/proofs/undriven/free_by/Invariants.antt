use Rattle.std.proofs.Common.{◌≡◌, ℕ, List, drop, map}
use Rattle.blif_linking.specs.Actuals.{actual_in}
use Rattle.blif_linking.specs.Undriven.{free_by}
use Rattle.blif_linking.proofs.undriven.free_by.Given as goal

abbrev pub invariant-loop-actual : goal.invariant-loop-actual
invariant-loop-actual l =
    (whole : List ℕ) → free_by l.own.text.names l.own.driven l.found (map (actual_in whole) l.actuals)
    ≡ free_by l.own.text.names l.own.driven l.found (map (actual_in whole) (drop l.actual-index l.actuals))
