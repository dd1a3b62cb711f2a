use Rattle.std.proofs.Common.{◌≡◌, sym, subst, false, true, Bool, List, Result, Ok, Err}
use Rattle.std.specs.Prelude.{IfOk}
use Rattle.std.proofs.lemmas.Result.{IfOk-weaker}
use Rattle.gates_frames.specs.Paths.{valuation_of, IsPath}
use Rattle.psl_base.specs.declared.items.NoMemory.{NoMemory}
use Rattle.prover_held.specs.Choices.{HasFirsts}
use Rattle.prover_held.proofs.Paths.{path-initial}
use Rattle.prover_held.proofs.walking.walk.Goals as goal

pub returns-clause-path : goal.returns-clause-path
returns-clause-path c = by c.follow.result c.follow.ensures.path c.follow.ensures.first
  where
    by : (r : Result (List (List Bool)) NoMemory) → IfOk r (IsPath c.args.netlist.now false) → IfOk r (λ path. valuation_of path 0 ≡ c.in_ok-first.first)
        → IfOk r (IsPath c.args.netlist.now true)
    by (Ok path) is same = path-initial c.args.netlist.now c.in_ok-first.first path is same c.in_ok-first.ensures.initial
    by (Err _) is same = tt

pub returns-clause-latches : goal.returns-clause-latches
returns-clause-latches c =
    IfOk-weaker c.follow.result (λ path. valuation_of path 0 ≡ c.in_ok-first.first) (λ path. HasFirsts c.args.netlist.now.latches (valuation_of path 0) c.args.choices.now.latches)
    (λ path same. subst (λ (v : List Bool). HasFirsts c.args.netlist.now.latches v c.args.choices.now.latches) (sym same)
    (subst (λ (chosen : List Bool). HasFirsts c.args.netlist.now.latches c.in_ok-first.first chosen) c.as_slice.ensures c.in_ok-first.ensures.latches))
    c.follow.ensures.first
