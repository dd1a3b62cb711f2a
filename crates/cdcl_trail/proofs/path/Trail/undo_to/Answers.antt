use Rattle.std.proofs.Common.{◌≡◌, ◌≤◌, ◌<◌, ap, length, get_or, arith}
use Rattle.std.proofs.lemmas.List.{length-take, with_items_is, take_rest, get_or_read}
use Rattle.std.proofs.lemmas.List.Elements.{All-drop}
use Rattle.cdcl_trail.specs.Path.{Path}
use Rattle.cdcl_trail.proofs.Marks.{marked-undo, places-undo, apart-undo, rising-undo, begun-undo}
use Rattle.cdcl_trail.proofs.Paths.{all_within}
use Rattle.cdcl_trail.proofs.path.Trail.undo_to.Goals as goal

pub unmark-requires : goal.unmark-requires
unmark-requires c =
    let of = c.self.inside in
    let keeps = c.self.invariant in
    let start = c.index.result.now in
    rw (c.deref.ensures.value, c.deref_mut.ensures.value, take_rest of.literals.items start)
    (All-drop (λ literal. literal < length of.marks.items) start of.literals.items (all_within of.marks.items of.literals.items keeps.marks))

pub invariant_of-self : goal.invariant_of-self
invariant_of-self c =
    let of = c.self.inside in
    let keeps = c.self.invariant in
    let level = c.args.level in
    let start = c.index.result.now in
    let limits = ap (λ (p : Path). p.limits) c.self.view_is in
    let inside : level < length of.limits.items = omega (arith, ap length limits, c.requires) in
    let read : start ≡ get_or of.limits.items level 0 = get_or_read of.limits.items level start inside c.index.ensures 0 in
    let begun = keeps.begun level 0 inside in
    let within : start ≤ length of.literals.items = omega arith in
    let gone = rw (c.deref.ensures.value, c.deref_mut.ensures.value, take_rest of.literals.items start) at c.unmark.ensures.gone in
    let kept = rw (c.deref.ensures.value, c.deref_mut.ensures.value, take_rest of.literals.items start) at c.unmark.ensures.kept in
    let marks = with_items_is of.marks c.unmark.new.marks (omega (arith, c.unmark.auto.marks, c.deref_mut.ensures.len)) in
    record {
      marks = rw (marks, c.truncate.ensures.items) (marked-undo of.marks.items c.unmark.new.marks of.literals.items start keeps.marks gone kept (apart-undo of.places.items of.literals.items start within keeps.places));
      places = rw c.truncate.ensures.items (places-undo of.places.items of.literals.items start within keeps.places);
      size = omega (arith, ap length marks, c.unmark.auto.marks, ap length c.deref_mut.ensures.value, keeps.size);
      variables = keeps.variables;
      reasons = omega (arith, ap length c.truncate.ensures.items, ap length c.truncate-2.ensures.items, length-take start of.literals.items, length-take start of.reasons.items, keeps.reasons);
      room = rw (c.truncate.ensures.capacity, c.truncate-2.ensures.capacity, c.truncate-3.ensures.capacity) keeps.room;
      rising = rw c.truncate-3.ensures.items (rising-undo of.limits.items level keeps.rising);
      begun = rw (c.truncate-3.ensures.items, c.truncate.ensures.items, read) (begun-undo of.limits.items of.literals.items level inside keeps.rising keeps.begun);
    }
