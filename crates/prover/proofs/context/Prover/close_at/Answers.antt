use Rattle.std.proofs.Common.{ap, ◌∙◌, subst, true, false}
use Rattle.prover.proofs.HeldPaths.{untold-finding}
use Rattle.prover.proofs.Opened.{proved}
use Rattle.prover.proofs.context.Prover.close_at.Goals as goal
use Rattle.prover.specs.Glances.{finding_of}
use Rattle.prover.specs.Views.{IsKindOf}
use Rattle.prover.specs.declared.closing.Kind.{Kind}
use Rattle.prover.specs.declared.closing.Kind.TheVariants.{Closed, Nothing}
use Rattle.prover.specs.declared.finding.Query.{Query}
use Rattle.prover.specs.declared.finding.Query.TheVariants.{Base, Induction}

pub returns-in-Nothing : goal.returns-in-Nothing
returns-in-Nothing c =
    let told : IsKindOf c.args.self.task (record { visits = c.args.visits; window = c.args.window; initial = true }) (Nothing c.in-Nothing.untold) =
    subst (λ (k : Kind). IsKindOf c.args.self.task (record { visits = c.args.visits; window = c.args.window; initial = true }) k) c.in-Nothing.is c.in_ok-path.ensures in
    record {
      path = tt;
      stop = untold-finding c.args.self.task (Base c.args.visits c.args.window) c.in-Nothing.untold c.finding.result
          (c.finding.ensures ∙ ap (λ (q : Query). finding_of q c.in-Nothing.untold) c.query.ensures) c.requires.looked_at told;
    }

pub returns-in-Closed-induction : goal.returns-in-Closed-induction
returns-in-Closed-induction c =
    let base : IsKindOf c.args.self.task (record { visits = c.args.visits; window = c.args.window; initial = true }) (Closed c.in-Closed.log) =
    subst (λ (k : Kind). IsKindOf c.args.self.task (record { visits = c.args.visits; window = c.args.window; initial = true }) k) c.in-Closed.is c.in_ok-path.ensures in
    let induction : IsKindOf c.args.self.task (record { visits = c.args.visits; window = c.args.window; initial = false }) (Closed c.in-Closed-induction.induction) =
    subst (λ (k : Kind). IsKindOf c.args.self.task (record { visits = c.args.visits; window = c.args.window; initial = false }) k) c.in-Closed-induction.is c.in_ok-told.ensures in
    record {
      path = tt;
      stop = proved c.args.self.task.netlist.now c.args.self.task.unit.now c.args.self.task.directive.now c.args.self.task.options c.args.visits c.args.window
          c.in-Closed.log c.in-Closed-induction.induction c.requires.looked_at base.0 induction.0 base.1 induction.1;
    }

pub returns-in-Nothing-induction : goal.returns-in-Nothing-induction
returns-in-Nothing-induction c =
    let base : IsKindOf c.args.self.task (record { visits = c.args.visits; window = c.args.window; initial = true }) (Closed c.in-Closed.log) =
    subst (λ (k : Kind). IsKindOf c.args.self.task (record { visits = c.args.visits; window = c.args.window; initial = true }) k) c.in-Closed.is c.in_ok-path.ensures in
    let told : IsKindOf c.args.self.task (record { visits = c.args.visits; window = c.args.window; initial = false }) (Nothing c.in-Nothing-induction.untold) =
    subst (λ (k : Kind). IsKindOf c.args.self.task (record { visits = c.args.visits; window = c.args.window; initial = false }) k) c.in-Nothing-induction.is c.in_ok-told.ensures in
    record {
      path = tt;
      stop = untold-finding c.args.self.task (Induction c.args.visits c.args.window) c.in-Nothing-induction.untold
          c.finding-in-Nothing-induction.result
          (c.finding-in-Nothing-induction.ensures ∙ ap (λ (q : Query). finding_of q c.in-Nothing-induction.untold) c.query-in-Nothing-induction.ensures)
          (c.requires.looked_at, base.1) told;
    }
