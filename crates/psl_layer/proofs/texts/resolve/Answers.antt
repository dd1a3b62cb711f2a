use Rattle.std.proofs.Common.{sym, subst}
use Rattle.psl_layer_theory.specs.Answers.{IsLayerFault}
use Rattle.psl_layer.proofs.Bounds.{ranged, small}
use Rattle.psl_layer.proofs.Whole.{fault_is, flaw_is, no_flaw, unit_is}
use Rattle.psl_layer.proofs.texts.resolve.Goals as goal

pub returns-in-Some-clause-fault : goal.returns-in-Some-clause-fault
returns-in-Some-clause-fault c =
    let found = rw c.in_ok-index.ensures at c.in_ok-outcome.ensures in
    subst (IsLayerFault c.args.tree.now c.args.names.now) (sym c.fault_of.ensures)
    (flaw_is c.args.tree.now c.args.names.now c.in_ok-outcome.outcome c.in-Some.flaw found c.in-Some.is)

pub returns-clause-unit : goal.returns-clause-unit
returns-clause-unit c =
    let found = rw c.in_ok-index.ensures at c.in_ok-outcome.ensures in
    unit_is c.args.tree.now c.args.names.now c.in_ok-outcome.outcome.built (no_flaw c.args.tree.now c.args.names.now c.in_ok-outcome.outcome found c.in-None.is) found.built

pub returns-clause-fault : goal.returns-clause-fault
returns-clause-fault c =
    let found = rw c.in_ok-index.ensures at c.in_ok-outcome.ensures in
    fault_is c.args.tree.now c.args.names.now c.in_ok-outcome.outcome.built (no_flaw c.args.tree.now c.args.names.now c.in_ok-outcome.outcome found c.in-None.is) found.built

pub returns-clause-in_range : goal.returns-clause-in_range
returns-clause-in_range c =
    let found = rw c.in_ok-index.ensures at c.in_ok-outcome.ensures in
    ranged c.args.tree.now c.args.names.now c.in_ok-outcome.outcome.built found.built

pub returns-clause-small : goal.returns-clause-small
returns-clause-small c =
    let found = rw c.in_ok-index.ensures at c.in_ok-outcome.ensures in
    small c.args.tree.now c.args.names.now c.in_ok-outcome.outcome.built found.built
