use Rattle.std.proofs.Common.{◌≡◌, ◌≤◌, arith}
use Rattle.std.proofs.lemmas.Result.{IfOk-weaker}
use Rattle.prover_open.specs.Standing.{state_of, AreOwed, Stands}
use Rattle.prover_open.proofs.Offers.{stated, stated-owed}
use Rattle.prover_open.proofs.states.first_state.Goals as goal

pub pending_first-requires-clause-owed : goal.pending_first-requires-clause-owed
pending_first-requires-clause-owed c = c.in_ok-numbers.ensures

pub returns-clause-stands : goal.returns-clause-stands
returns-clause-stands c =
    IfOk-weaker c.state_at.result (λ state. state ≡ state_of c.args.path.now 0 c.in_ok-numbers.numbers c.in_ok-waiting.waiting 0) (Stands c.args.path.now 0)
    (λ state is. stated c.args.path.now 0 c.in_ok-numbers.numbers c.in_ok-waiting.waiting 0 state is) c.state_at.ensures

pub returns-clause-owes : goal.returns-clause-owes
returns-clause-owes c =
    let low : 0 ≤ 1 = omega arith in
    IfOk-weaker c.state_at.result (λ state. state ≡ state_of c.args.path.now 0 c.in_ok-numbers.numbers c.in_ok-waiting.waiting 0) (AreOwed c.args.automaton.now)
    (λ state is. stated-owed c.args.path.now 0 c.in_ok-numbers.numbers c.in_ok-waiting.waiting 0 state is c.args.automaton.now c.in_ok-numbers.ensures c.in_ok-waiting.ensures low)
    c.state_at.ensures
