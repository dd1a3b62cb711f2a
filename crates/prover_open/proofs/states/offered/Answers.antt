use Rattle.std.proofs.Common.{◌≡◌, ◌+◌}
use Rattle.std.proofs.lemmas.Result.{IfOk-weaker}
use Rattle.prover_open.specs.Standing.{state_of, IsOffered}
use Rattle.prover_open.proofs.Offers.{offers}
use Rattle.prover_open.proofs.states.offered.Goals as goal

pub pending_next-requires-clause-now : goal.pending_next-requires-clause-now
pending_next-requires-clause-now c = c.requires.owes.pending.numbers

pub pending_next-requires-clause-owed : goal.pending_next-requires-clause-owed
pending_next-requires-clause-owed c = c.in_ok-numbers.ensures.numbers

pub returns : goal.returns
returns c =
    let place = c.args.place in
    let numbers = c.in_ok-numbers.numbers in
    let waiting = c.in_ok-waiting.waiting in
    let count = c.count_next-count.result in
    IfOk-weaker c.state_at.result (λ state. state ≡ state_of c.args.reading.path.now (place + 1) numbers waiting count)
    (IsOffered c.args.reading.netlist.now c.args.reading.automaton.now c.args.reading.path.now place c.args.now.now)
    (λ state is. offers c.args.reading.netlist.now c.args.reading.automaton.now c.args.reading.path.now place c.args.now.now numbers waiting count state
    c.in_ok-numbers.ensures.numbers c.in_ok-numbers.ensures.asked c.in_ok-waiting.ensures c.count_next-count.ensures.anew c.count_next-count.ensures.same
    c.requires.owes.count is) c.state_at.ensures
