use Rattle.std.proofs.Common.{◌≡◌, ◌∙◌, ◌++◌}
use Rattle.std.proofs.lemmas.Result.{IfOk-weaker}
use Rattle.netlist.specs.Valuations.{values, IsFilled, IsStep}
use Rattle.prover_held.proofs.Filling.{filled-inputs, next-from}
use Rattle.prover_held.proofs.walking.next_valuation.Goals as goal

pub returns-clause-step : goal.returns-clause-step
returns-clause-step c =
    IfOk-weaker c.filled.result (IsFilled c.args.netlist.now (c.args.inputs.now ++ c.as_slice-3.result.now)) (IsStep c.args.netlist.now c.args.earlier.now)
    (λ valuation is. next-from c.args.netlist.now c.as_slice.result.now c.args.inputs.now c.in_ok-values.values c.as_slice-3.result.now c.args.earlier.now c.as_slice-2.result.now valuation
    (c.as_slice.ensures ∙ c.latches.ensures) c.as_slice-3.ensures c.as_slice-2.ensures c.requires.inputs c.requires.earlier c.in_ok-values.ensures is) c.filled.ensures

pub returns-clause-inputs : goal.returns-clause-inputs
returns-clause-inputs c =
    IfOk-weaker c.filled.result (IsFilled c.args.netlist.now (c.args.inputs.now ++ c.as_slice-3.result.now)) (λ next. values next c.args.netlist.now.inputs ≡ c.args.inputs.now)
    (λ valuation is. filled-inputs c.args.netlist.now c.args.inputs.now c.as_slice-3.result.now valuation is c.requires.inputs) c.filled.ensures
