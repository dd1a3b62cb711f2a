use Rattle.std.proofs.Common.{◌∙◌, ap, subst, Bool, List, ℕ}
use Rattle.joint_theory.specs.States.{is_listed, AreMet}
use Rattle.netlist.specs.Valuations.{bit}
use Rattle.prover_held.specs.Lasting.{letter_in}
use Rattle.prover_open.proofs.Alike.{met-alike}
use Rattle.prover_open.proofs.meeting.owed_met.Goals as goal

pub returns : goal.returns
returns c = λ h.
    let letter = letter_in c.args.reading.netlist.now c.args.reading.path.now c.args.place in
    met-alike c.args.reading.automaton.now letter c.args.now.now.owed (bit c.as_slice-3.result.now) (is_listed c.args.next.now.owed) c.automaton_law.ensures c.requires.now
    (λ number low. ap (λ (bits : List Bool). bit bits number) c.as_slice-3.ensures ∙ c.in_ok-owed.ensures.each number
    ∙ ap (λ (list : List ℕ). is_listed list number) c.as_slice.ensures)
    (subst (λ (list : List ℕ). AreMet c.args.reading.automaton.now letter (bit c.as_slice-3.result.now) list) c.as_slice-2.ensures (c.are_met-met.ensures h))
