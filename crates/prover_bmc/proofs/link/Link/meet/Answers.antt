use Rattle.prover_bmc.proofs.Laters.{frame-of, place-later}
use Rattle.prover_bmc.proofs.link.Link.meet.Goals as goal

pub add_followed-requires-clause-place : goal.add_followed-requires-clause-place
add_followed-requires-clause-place c =
    let making = c.args.builder.now in
    c.new-owed.ensures making (c.frame_of-earlier.ensures making (frame-of making c.args.plan.now c.args.before c.requires.before))
    (rw c.as_slice.ensures c.requires.link.frame.are) (rw c.as_slice-debts.ensures c.requires.next.debts.are)

pub add_followed-requires-2-clause-place : goal.add_followed-requires-2-clause-place
add_followed-requires-2-clause-place c =
    let making = c.args.builder.now in
    place-later making c.add_followed.new.builder c.new-put_off.result c.in_ok-add_followed.ensures
    (c.new-put_off.ensures making (c.frame_of-earlier.ensures making (frame-of making c.args.plan.now c.args.before c.requires.before))
    (rw c.as_slice-3.ensures c.requires.link.frame.are) (rw c.as_slice-4.ensures c.in_ok-may.ensures.are))
