use Rattle.std.proofs.Common.{◌≡◌, ℕ, List, drop, map}
use Rattle.blif_linking.specs.Actuals.{actual_in}
use Rattle.blif_linking.specs.Driving.{found_by, twice_by}
use Rattle.blif_linking.proofs.driving.twice_by.Given as goal

abbrev pub invariant-loop-actual : goal.invariant-loop-actual
invariant-loop-actual l = record {
  place : (whole : List ℕ) → twice_by l.own.text.names l.own.driven l.initial.found (map (actual_in whole) l.actuals)
      ≡ twice_by l.own.text.names l.own.driven l.found (map (actual_in whole) (drop l.actual-index l.actuals));
  found : (whole : List ℕ) → found_by l.initial.found (map (actual_in whole) l.actuals)
      ≡ found_by l.found (map (actual_in whole) (drop l.actual-index l.actuals));
}
