use Rattle.netlist.specs.Valuations.{bit}
use Rattle.prover_held.specs.Lasting.{letter_in}
use Rattle.prover_open.proofs.Pending.{all-waiting, below-bound, pending-by}
use Rattle.prover_open.proofs.states.pending_next.Goals as goal
use Rattle.std.proofs.Common.{refl, length}

pub supported-requires-clause-among : goal.supported-requires-clause-among
supported-requires-clause-among c =
    below-bound c.args.reading.automaton.now c.in_ok-waiting.waiting c.as_slice-3.result.now (length c.args.reading.automaton.now.obligations)
    (all-waiting c.args.reading.automaton.now c.args.owed.now c.as_slice.result.now c.in_ok-waiting.waiting c.requires.owed c.as_slice.ensures c.in_ok-waiting.ensures).numbers
    c.as_slice-3.ensures refl

pub returns : goal.returns
returns c =
    pending-by c.args.reading.automaton.now (letter_in c.args.reading.netlist.now c.args.reading.path.now c.args.place) c.args.now.now (bit c.args.hint.now)
    c.args.owed.now c.as_slice.result.now c.in_ok-waiting.waiting c.as_slice-2.result.now c.as_slice-3.result.now c.in_ok-asked.asked c.pending_of.result
    c.requires.owed c.as_slice.ensures c.in_ok-waiting.ensures c.as_slice-2.ensures c.as_slice-3.ensures c.in_ok-asked.ensures
    c.pending_of.ensures.anew c.pending_of.ensures.same
