use Rattle.prover_bmc.proofs.Laters.{are-later, later-free}
use Rattle.prover_bmc.proofs.step.add_end.Goals as goal

pub add_all_lasting-requires-clause-place : goal.add_all_lasting-requires-clause-place
add_all_lasting-requires-clause-place c =
    let old = c.args.builder.now in
    let new = c.free.new.self in
    let later = later-free old new 0 0 c.in_ok-asked.asked c.in_ok-asked.ensures in
    c.new-place.ensures new tt
    (rw c.as_slice.ensures (are-later old new c.args.step.now.frame later c.requires.step.frame.are))
    (rw c.as_slice-2.ensures (are-later old new c.in_ok-kept.kept later c.in_ok-kept.ensures.are))
