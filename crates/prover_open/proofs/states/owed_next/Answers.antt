use Rattle.std.proofs.Common.{◌≡◌, refl}
use Rattle.std.specs.Prelude.{filter}
use Rattle.std.proofs.lemmas.Result.{IfOk-weaker}
use Rattle.joint_theory.specs.States.{is_asked, AreAsked}
use Rattle.netlist.specs.Valuations.{bit}
use Rattle.prover_held.specs.Lasting.{letter_in}
use Rattle.prover_open.specs.Standing.{AreRising}
use Rattle.prover_open.proofs.Pending.{all-rising, some-asked, some-rising}
use Rattle.prover_open.proofs.states.owed_next.Goals as goal

pub supported-requires-clause-among : goal.supported-requires-clause-among
supported-requires-clause-among c =
    let all = c.as_slice-2.result.now in
    (all-rising c.args.reading.automaton.now c.len.result c.in_ok-all.all all c.len.ensures c.in_ok-all.ensures c.as_slice-2.ensures).below

pub returns-clause-numbers : goal.returns-clause-numbers
returns-clause-numbers c =
    let automaton = c.args.reading.automaton.now in
    let letter = letter_in c.args.reading.netlist.now c.args.reading.path.now c.args.place in
    let by = c.as_slice.result.now in
    let all = c.as_slice-2.result.now in
    let hinted = filter (bit c.args.hint.now) all in
    IfOk-weaker c.supported.result (λ found. found ≡ filter (is_asked automaton letter by) hinted) (AreRising automaton)
    (λ found is. some-rising automaton (is_asked automaton letter by) hinted found
    (some-rising automaton (bit c.args.hint.now) all hinted (all-rising automaton c.len.result c.in_ok-all.all all c.len.ensures c.in_ok-all.ensures c.as_slice-2.ensures) refl) is)
    c.supported.ensures

pub returns-clause-asked : goal.returns-clause-asked
returns-clause-asked c =
    let automaton = c.args.reading.automaton.now in
    let letter = letter_in c.args.reading.netlist.now c.args.reading.path.now c.args.place in
    let by = c.as_slice.result.now in
    let hinted = filter (bit c.args.hint.now) c.as_slice-2.result.now in
    IfOk-weaker c.supported.result (λ found. found ≡ filter (is_asked automaton letter by) hinted) (AreAsked automaton letter c.args.now.now.owed)
    (λ found is. some-asked automaton letter c.args.now.now.owed by hinted found c.as_slice.ensures is)
    c.supported.ensures
