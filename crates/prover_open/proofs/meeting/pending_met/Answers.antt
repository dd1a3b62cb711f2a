use Rattle.std.proofs.Common.{◌≡◌, ◌∙◌, ◌&&◌, ◌||◌, ap, subst, Bool, List, ℕ}
use Rattle.joint_theory.specs.States.{is_accepting, is_listed, may_meet, AreMet}
use Rattle.netlist.specs.Valuations.{bit}
use Rattle.prover_held.specs.Lasting.{letter_in}
use Rattle.prover_open.proofs.Alike.{met-alike}
use Rattle.prover_open.proofs.meeting.pending_met.Goals as goal

pub returns : goal.returns
returns c = λ h.
    let letter = letter_in c.args.reading.netlist.now c.args.reading.path.now c.args.place in
    let automaton = c.args.reading.automaton.now in
    met-alike automaton letter c.args.now.now.pending (bit c.as_slice-6.result.now) (may_meet automaton c.args.next.now) c.automaton_law.ensures c.requires.now
    (λ number low.
    let owed : bit c.as_slice-3.result.now number ≡ is_listed c.args.next.now.owed number =
    ap (λ (bits : List Bool). bit bits number) c.as_slice-3.ensures ∙ c.in_ok-owed.ensures.each number
    ∙ ap (λ (list : List ℕ). is_listed list number) c.as_slice.ensures in
    let pending : bit c.as_slice-4.result.now number ≡ is_listed c.args.next.now.pending number =
    ap (λ (bits : List Bool). bit bits number) c.as_slice-4.ensures ∙ c.in_ok-pending.ensures.each number
    ∙ ap (λ (list : List ℕ). is_listed list number) c.as_slice-2.ensures in
    ap (λ (bits : List Bool). bit bits number) c.as_slice-6.ensures ∙ c.in_ok-marks.ensures.each number low
    ∙ ap (λ t. t && (is_accepting automaton number || bit c.as_slice-4.result.now number)) owed
    ∙ ap (λ t. is_listed c.args.next.now.owed number && (is_accepting automaton number || t)) pending)
    (subst (λ (list : List ℕ). AreMet automaton letter (bit c.as_slice-6.result.now) list) c.as_slice-5.ensures (c.are_met-met.ensures h))
