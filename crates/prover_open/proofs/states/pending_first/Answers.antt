use Rattle.std.proofs.Common.{◌≡◌, length}
use Rattle.std.specs.Prelude.{filter}
use Rattle.std.proofs.lemmas.Result.{IfOk-weaker}
use Rattle.netlist.specs.Valuations.{bit}
use Rattle.prover_open.specs.Standing.{AreWaiting}
use Rattle.prover_open.proofs.Pending.{all-waiting, below-bound, some-waiting}
use Rattle.prover_open.proofs.states.pending_first.Goals as goal

pub chosen-requires : goal.chosen-requires
chosen-requires c =
    below-bound c.args.automaton.now c.in_ok-waiting.waiting c.as_slice-2.result.now (length c.args.hint.now)
    (all-waiting c.args.automaton.now c.args.owed.now c.as_slice.result.now c.in_ok-waiting.waiting c.requires.owed c.as_slice.ensures c.in_ok-waiting.ensures).numbers
    c.as_slice-2.ensures c.requires.hint

pub returns : goal.returns
returns c =
    IfOk-weaker c.chosen.result (λ found. found ≡ filter (bit c.args.hint.now) c.as_slice-2.result.now) (AreWaiting c.args.automaton.now c.args.owed.now)
    (λ found is. some-waiting c.args.automaton.now (bit c.args.hint.now) c.args.owed.now c.in_ok-waiting.waiting c.as_slice-2.result.now found
    (all-waiting c.args.automaton.now c.args.owed.now c.as_slice.result.now c.in_ok-waiting.waiting c.requires.owed c.as_slice.ensures c.in_ok-waiting.ensures)
    c.as_slice-2.ensures is) c.chosen.ensures
