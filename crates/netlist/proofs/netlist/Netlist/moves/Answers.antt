use Rattle.std.proofs.Common.{◌<◌, ◌+◌, arith, length, refl, ap, add-one}
use Rattle.std.proofs.lemmas.Bool.{false≢true}
use Rattle.netlist.specs.Runs.{walk_of}
use Rattle.netlist.proofs.Walking.{length-walk}
use Rattle.netlist.proofs.netlist.Netlist.moves.Goals as goal
use Rattle.netlist.proofs.netlist.Netlist.moves.Goals.{After-valuation_at-in-loop-place}

within : (c : After-valuation_at-in-loop-place) → c.loop-place.place + 1 < length (walk_of c.args.run.now)
within c = let size = length-walk c.args.run.now c.requires.loops in omega (arith, ap length c.as_slice.ensures, ap length c.as_slice-2.ensures)

pub latches_move-requires-clause-inputs : goal.latches_move-requires-clause-inputs
latches_move-requires-clause-inputs c =
    let in_walk = within c in
    rw (c.as_slice-latches.ensures, c.latches.ensures, c.valuation_at.ensures, c.requires.sizes c.loop-place.place (omega arith)) c.facts.ensures.sound.latch_inputs

pub latches_move-requires-clause-outputs : goal.latches_move-requires-clause-outputs
latches_move-requires-clause-outputs c =
    rw (c.as_slice-latches.ensures, c.latches.ensures, c.valuation_at-in-loop-place.ensures, c.requires.sizes (c.loop-place.place + 1) (within c)) c.facts.ensures.latches

pub returns-then-not-latches_move : goal.returns-then-not-latches_move
returns-then-not-latches_move c = (
  λ no. absurd (false≢true no),
  λ moves. c.if-not-latches_move.ensures.1
      (rw (c.as_slice-latches.ensures, c.latches.ensures, c.valuation_at-in-loop-place.ensures, c.valuation_at.ensures, add-one)
      (moves c.loop-place.place (let size = length-walk c.args.run.now c.requires.loops in omega (arith, ap length c.as_slice.ensures, ap length c.as_slice-2.ensures)))),
)

pub returns : goal.returns
returns c =
    let size = length-walk c.args.run.now c.requires.loops in
    (λ _ place in_walk. c.loop-place.invariant place (omega (arith, ap length c.as_slice.ensures, ap length c.as_slice-2.ensures)), λ _. refl)
