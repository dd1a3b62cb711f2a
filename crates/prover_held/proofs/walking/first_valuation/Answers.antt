use Rattle.std.proofs.Common.{◌≡◌, ◌∙◌, ◌++◌, Bool, List}
use Rattle.std.proofs.lemmas.Result.{IfOk-weaker}
use Rattle.netlist.specs.Valuations.{values, IsFilled, IsInitial}
use Rattle.prover_held.specs.Choices.{HasFirsts}
use Rattle.prover_held.proofs.Filling.{filled-first, filled-inputs, firsts-from}
use Rattle.prover_held.proofs.walking.first_valuation.Goals as goal

firsts : (c : goal.After-drop-values-inside) (valuation : List Bool) → IsFilled c.args.netlist.now (c.args.inputs.now ++ c.as_slice-2.result.now) valuation
    → HasFirsts c.args.netlist.now.latches valuation c.args.chosen.now
firsts c valuation is =
    firsts-from c.args.netlist.now c.as_slice.result.now c.args.inputs.now c.in_ok-values.values c.as_slice-2.result.now c.args.chosen.now valuation
    (c.as_slice.ensures ∙ c.latches.ensures) c.as_slice-2.ensures c.requires.inputs c.in_ok-values.ensures.begin is

pub returns-clause-initial : goal.returns-clause-initial
returns-clause-initial c =
    IfOk-weaker c.filled.result (IsFilled c.args.netlist.now (c.args.inputs.now ++ c.as_slice-2.result.now)) (IsInitial c.args.netlist.now)
    (λ valuation is. filled-first c.args.netlist.now c.args.inputs.now c.as_slice-2.result.now valuation is c.requires.inputs c.args.chosen.now (firsts c valuation is)) c.filled.ensures

pub returns-clause-inputs : goal.returns-clause-inputs
returns-clause-inputs c =
    IfOk-weaker c.filled.result (IsFilled c.args.netlist.now (c.args.inputs.now ++ c.as_slice-2.result.now)) (λ first. values first c.args.netlist.now.inputs ≡ c.args.inputs.now)
    (λ valuation is. filled-inputs c.args.netlist.now c.args.inputs.now c.as_slice-2.result.now valuation is c.requires.inputs) c.filled.ensures

pub returns-clause-latches : goal.returns-clause-latches
returns-clause-latches c =
    IfOk-weaker c.filled.result (IsFilled c.args.netlist.now (c.args.inputs.now ++ c.as_slice-2.result.now)) (λ first. HasFirsts c.args.netlist.now.latches first c.args.chosen.now)
    (λ valuation is. firsts c valuation is) c.filled.ensures
