use Rattle.std.proofs.Common.{refl}
use Rattle.std.proofs.lemmas.Bool.{false≢true}
use Rattle.netlist.proofs.Walking.{run-from, run-made, run-moves, sizes, first-within}
use Rattle.netlist.proofs.netlist.Netlist.is_run.Goals as goal

pub returns-then-not-is_made : goal.returns-then-not-is_made
returns-then-not-is_made c = (λ no. absurd (false≢true no), λ is. c.if-not-is_made.ensures.1 (run-made c.args.self.now c.args.run.now is))

pub begins-requires : goal.begins-requires
begins-requires c =
    let made = c.if-not-is_made.ensures.0 refl in
    rw c.valuation_at.ensures (sizes c.args.self.now c.args.run.now made 0 (first-within c.args.self.now c.args.run.now made))

pub moves-requires-clause-sizes : goal.moves-requires-clause-sizes
moves-requires-clause-sizes c = sizes c.args.self.now c.args.run.now (c.if-not-is_made.ensures.0 refl)

pub returns-then-begins : goal.returns-then-begins
returns-then-begins c =
    let design = c.args.self.now in
    let run = c.args.run.now in (
      λ moves. run-from design run (c.if-not-is_made.ensures.0 refl) (rw (← c.valuation_at.ensures) (c.if-begins.ensures.0 refl)) (c.moves.ensures.0 moves),
      λ is. c.moves.ensures.1 (run-moves design run is),
    )
