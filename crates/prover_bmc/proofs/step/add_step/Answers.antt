use Rattle.std.proofs.Common.{Bor, List, ℤ}
use Rattle.prover_bmc.proofs.Laters.{are-later, before-later, later-then}
use Rattle.prover_bmc.proofs.step.add_step.Goals as goal

pub add_dues-requires-clause-place : goal.add_dues-requires-clause-place
add_dues-requires-clause-place c =
    let old = c.args.builder.now in
    let mid = c.add_frame.new.builder in
    let new = c.next_debts.new.builder in
    let last = c.in_ok-later.ensures.later in
    let both = later-then old mid new c.in_ok-frame.ensures.later last in
    c.new-place.ensures new
    (c.literals_of.ensures new (before-later old new c.args.plan.now.netlist.now (λ (literals : Bor (List ℤ)). literals.now) c.args.last both c.requires.last))
    (rw c.as_slice.ensures (are-later mid new c.in_ok-frame.frame last c.in_ok-frame.ensures.frame.are))
    (rw c.as_slice-2.ensures c.in_ok-later.ensures.debts.are)
