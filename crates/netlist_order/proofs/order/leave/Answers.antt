use Rattle.std.proofs.Common.{◌≡◌, ◌-◌, ◌<◌, ◌∙◌, sym, subst, length, slice_get, Some, arith}
use Rattle.std.proofs.lemmas.Result.{on_ok_weaker}
use Rattle.std.proofs.lemmas.List.Elements.{All-from_get_or}
use Rattle.netlist_order.specs.State.{closed}
use Rattle.netlist_order.specs.Sound.{IsSound, KeepsMet}
use Rattle.netlist_order.proofs.Leading.{place-within}
use Rattle.netlist_order.proofs.Turning.{IsSound-no_head, IsSound-head, KeepsMet-head, same_option, other_option}
use Rattle.netlist_order.proofs.order.leave.Goals as goal
use Rattle.netlist_order.proofs.order.leave.Goals.{Else-ne}

pub returns-then-ne-clause-sound : goal.returns-then-ne-clause-sound
returns-then-ne-clause-sound c =
    rw c.leave.ensures
    (IsSound-no_head c.args.wiring.now c.args.search.now c.args.place c.requires.sound c.requires.at c.requires.followed
    (λ is. other_option c.head.result c.args.place c.if-ne.ensures (c.head.ensures ∙ rw c.leave.ensures is)))

pub is_cyclic-cyclic-requires-clause-place : goal.is_cyclic-cyclic-requires-clause-place
is_cyclic-cyclic-requires-clause-place c =
    rw c.leave.ensures (place-within c.args.wiring.now c.args.search.now c.args.place c.requires.sound c.requires.at)

pub close-requires-clause-place : goal.close-requires-clause-place
close-requires-clause-place c =
    let lt = place-within c.args.wiring.now c.args.search.now c.args.place c.requires.sound c.requires.at in
    rw c.leave.ensures (omega (arith, lt))

pub close-requires-clause-tables : goal.close-requires-clause-tables
close-requires-clause-tables c =
    rw c.leave.ensures
    (All-from_get_or (λ table. table < length c.args.search.now.marks) c.args.search.now.met 0
    (λ place lt. omega (arith, c.requires.sound.open_tables.within place lt, c.requires.sound.open_tables.marks_size)))

begins : (c : Else-ne) → slice_get c.args.search.now.heads (length c.args.search.now.heads - 1) ≡ Some c.args.place
begins c = sym (rw c.leave.ensures at c.head.ensures) ∙ same_option c.head.result c.args.place c.if-ne.ensures

pub returns-clause-sound : goal.returns-clause-sound
returns-clause-sound c =
    let begin = begins (goal.at.returns-clause-sound c).Else-ne in
    let says = rw c.leave.ensures at c.is_cyclic-cyclic.ensures in
    let sound = IsSound-head c.args.wiring.now c.args.search.now c.args.place c.requires.sound c.requires.at c.requires.followed begin c.is_cyclic-cyclic.result says in
    on_ok_weaker c.close.result (λ is. subst (λ s. IsSound c.args.wiring.now s) (sym is) (subst (λ s. IsSound c.args.wiring.now (closed s c.args.place c.is_cyclic-cyclic.result)) (sym c.leave.ensures) sound)) c.close.ensures

pub returns-clause-kept : goal.returns-clause-kept
returns-clause-kept c =
    let begin = begins (goal.at.returns-clause-kept c).Else-ne in
    let says = rw c.leave.ensures at c.is_cyclic-cyclic.ensures in
    let kept = KeepsMet-head c.args.wiring.now c.args.search.now c.args.place c.requires.sound c.requires.at c.requires.followed begin c.is_cyclic-cyclic.result says in
    on_ok_weaker c.close.result (λ is. subst (λ s. KeepsMet c.args.search.now s) (sym is) (subst (λ s. KeepsMet c.args.search.now (closed s c.args.place c.is_cyclic-cyclic.result)) (sym c.leave.ensures) kept)) c.close.ensures
