-- The valuations of a path, and of the run along it whose loop is not written.
use Rattle.std.proofs.Common.{subst, ℕ, zero, suc, ◌-◌, ◌<◌, Bool, true, List, [], length, get_or, arith}
use Rattle.std.specs.Prelude.{All}
use Rattle.std.proofs.lemmas.List.{get_or_default}
use Rattle.std.proofs.lemmas.List.Elements.{All-cons, All-nil}
use Rattle.gates_frames.specs.Paths.{IsPath}
use Rattle.netlist.specs.Design.{Design}
use Rattle.netlist.specs.Runs.{IsMade}
use Rattle.netlist.specs.Valuations.{IsValuation}
use Rattle.prover_held.specs.Held.{last_of}
use Rattle.findings.specs.Recordings.{along}

path-at : (design : Design) (path : List (List Bool)) → IsPath design true path → (place : ℕ) → place < length path
    → IsValuation design (get_or path place [])
path-at design path is zero lt = is.begins.valuation
path-at design path is (suc place) lt = (is.steps place lt).after

-- each valuation of a path is one
pub path-valuations : (design : Design) (path : List (List Bool)) → IsPath design true path → All (IsValuation design) path
path-valuations design path is =
    λ place other lt. subst (IsValuation design) (get_or_default path place [] other lt) (path-at design path is place lt)

-- the run along a path is made of valuations
pub along-made : (design : Design) (path : List (List Bool)) → IsPath design true path → IsMade design (along path)
along-made design path is = record {
  loops = omega arith;
  stem = path-valuations design path is;
  looped = All-cons (IsValuation design) (last_of path) []
      (path-at design path is (length path - 1) (omega (arith, is.some))) (All-nil (IsValuation design));
}
