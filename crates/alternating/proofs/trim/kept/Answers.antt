use Rattle.std.proofs.Common.{rules, refl, slice_index}
use Rattle.sere_nfa.specs.Marking.{is_marked}
use Rattle.alternating_theory.specs.Obligations.{Obligation}
use Rattle.alternating_theory.specs.Trimmed.{renumbered_obligation}
use Rattle.alternating.proofs.Trims.{kept-step}
use Rattle.alternating.proofs.trim.kept.Goals as goal

pub loop-number-preserved : goal.loop-number-preserved
loop-number-preserved c =
    kept-step (λ (obligation : Obligation). renumbered_obligation (λ number. slice_index c.args.names.now number) obligation) (is_marked c.args.marks.now) c.args.obligations.now
    c.loop-number.number c.index-obligations-number.result (search rules) c.index-obligations-number.is (is_marked c.args.marks.now c.loop-number.number) refl
    c.loop-number.found.items c.keep.new.into.items c.loop-number.invariant c.in_ok-keep.ensures
