use Rattle.std.proofs.Common.{◌≡◌, refl, length}
use Rattle.std.specs.Prelude.{filter}
use Rattle.std.proofs.lemmas.Result.{IfOk-weaker}
use Rattle.netlist.specs.Valuations.{bit}
use Rattle.prover_open.specs.Standing.{AreRising}
use Rattle.prover_open.proofs.Pending.{all-rising, below-bound, some-rising}
use Rattle.prover_open.proofs.states.owed_first.Goals as goal

pub chosen-requires : goal.chosen-requires
chosen-requires c =
    let all = c.as_slice.result.now in
    below-bound c.args.automaton.now all all (length c.args.hint.now)
    (all-rising c.args.automaton.now c.len.result c.in_ok-all.all all c.len.ensures c.in_ok-all.ensures c.as_slice.ensures) refl c.requires

pub returns : goal.returns
returns c =
    let all = c.as_slice.result.now in
    IfOk-weaker c.chosen.result (λ found. found ≡ filter (bit c.args.hint.now) all) (AreRising c.args.automaton.now)
    (λ found is. some-rising c.args.automaton.now (bit c.args.hint.now) all found
    (all-rising c.args.automaton.now c.len.result c.in_ok-all.all all c.len.ensures c.in_ok-all.ensures c.as_slice.ensures) is) c.chosen.ensures
