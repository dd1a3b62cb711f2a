use Rattle.std.proofs.Common.{◌∙◌, ap, ◌++◌}
use Rattle.prover.proofs.Voicing.{told-more, told-part}
use Rattle.prover.proofs.context.Prover.tell.Goals as goal
use Rattle.prover.specs.Milestones.{IsMilestoneFor}

pub returns-in-Ok-clause-told : goal.returns-in-Ok-clause-told
returns-in-Ok-clause-told g c =
    told-more (IsMilestoneFor c.args.self.task) (g.W.Wording.line c.args.wording.now c.args.self.task.directive.now) g.B.Begun.sink
    (g.E.Sink.state c.args.err.now) (g.E.Sink.state c.put_all.new.sink) c.args.milestone c.as_slice.result.now c.requires.told c.requires.holds
    (c.as_slice.ensures.value ∙ c.in_ok-add_line.ensures
    ∙ ap (λ bytes. bytes ++ g.W.Wording.line c.args.wording.now c.args.self.task.directive.now c.args.milestone) c.new-line.ensures.items) c.in-Ok.ensures.all

pub returns-clause-halt : goal.returns-clause-halt
returns-clause-halt g c =
    told-part (IsMilestoneFor c.args.self.task) (g.W.Wording.line c.args.wording.now c.args.self.task.directive.now) g.B.Begun.sink
    (g.E.Sink.state c.args.err.now) (g.E.Sink.state c.put_all.new.sink) c.args.milestone c.as_slice.result.now c.requires.told c.requires.holds
    (c.as_slice.ensures.value ∙ c.in_ok-add_line.ensures
    ∙ ap (λ bytes. bytes ++ g.W.Wording.line c.args.wording.now c.args.self.task.directive.now c.args.milestone) c.new-line.ensures.items) c.in-Err.ensures.part
