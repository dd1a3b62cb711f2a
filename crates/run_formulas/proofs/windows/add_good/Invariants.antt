use Rattle.std.proofs.Common.{◌-◌, map, neg_ℤ, [], ◌∷◌}
use Rattle.std.specs.List.{range_with_len}
use Rattle.run_formulas.proofs.Additions.{AddsSoFar}
use Rattle.run_formulas.specs.Windows.{bad_at, good_clauses}
use Rattle.run_formulas.proofs.windows.add_good.Given as goal

abbrev pub invariant-loop-position : goal.invariant-loop-position
invariant-loop-position l = record {
  so_far : AddsSoFar l.initial.cnf l.cnf
      (map (λ position. neg_ℤ (bad_at l.size l.bad position) ∷ []) (range_with_len l.position (l.window - l.position)))
      (good_clauses l.size l.bad l.window);
}
