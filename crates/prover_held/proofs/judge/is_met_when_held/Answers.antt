use Rattle.std.proofs.Common.{◌∙◌, ap, sym, subst, false, Bool}
use Rattle.std.specs.Prelude.{IsTrue, ◌↔◌}
use Rattle.std.proofs.lemmas.Option.{get_or_from_slice_get}
use Rattle.netlist.specs.Valuations.{bit}
use Rattle.prover_held.specs.Lasting.{IsMetWhenHeld}
use Rattle.prover_held.proofs.Asking.{asked-tells}
use Rattle.prover_held.proofs.judge.is_met_when_held.Goals as goal

pub returns : goal.returns
returns c =
    let tells = asked-tells c.args.netlist.now c.args.automaton.now c.args.path.now c.automaton_law.ensures c.in_ok-kept.kept c.in_ok-first.first c.in_ok-kept.ensures c.in_ok-first.ensures in
    subst (λ (b : Bool). IsTrue b ↔ IsMetWhenHeld c.args.netlist.now c.args.automaton.now c.args.path.now)
    (ap (bit c.in_ok-first.first) (sym c.start.ensures.shown) ∙ get_or_from_slice_get c.in_ok-first.first c.start.result c.at.result.now false c.at.ensures) tells
