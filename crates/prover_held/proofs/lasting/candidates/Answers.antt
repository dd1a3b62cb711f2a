use Rattle.std.proofs.Common.{◌∙◌, ◌&&◌, ap, List, Bool}
use Rattle.alternating_theory.specs.Obligations.{obligation_at}
use Rattle.prover_held.specs.Judged.{positive_marked}
use Rattle.prover_held.proofs.Marks.{candidate-more}
use Rattle.prover_held.proofs.lasting.candidates.Goals as goal

pub loop-number-preserved : goal.loop-number-preserved
loop-number-preserved c =
    let a = c.args.automaton.now in
    let more = candidate-more c.args.netlist.now a c.in_ok-marks.marks c.loop-number.kept c.push.new.self c.loop-number.number c.is_candidate.result
    c.in_ok-marks.ensures c.loop-number.invariant.long c.loop-number.invariant.each
    (c.is_candidate.ensures ∙ ap (λ (m : List Bool). (obligation_at a.obligations c.loop-number.number).accepting && positive_marked m (obligation_at a.obligations c.loop-number.number).delta) c.as_slice.ensures)
    c.in_ok-push.ensures.ok in
    record { long = more.0; each = more.1 }
