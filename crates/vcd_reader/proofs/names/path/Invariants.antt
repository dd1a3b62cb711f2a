use Rattle.std.proofs.Common.{◌≡◌, ◌++◌, [], ◌∷◌, map, take}
use Rattle.std.specs.List.{flat_map}
use Rattle.vcd_reader.proofs.names.path.Given as goal

abbrev pub invariant-loop-scope : goal.invariant-loop-scope
invariant-loop-scope l = l.path.items ≡ flat_map (λ scope. scope ++ 46 ∷ []) (map (λ scope. scope.now) (take l.scope-index l.scopes))
