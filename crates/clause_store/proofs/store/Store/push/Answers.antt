use Rattle.std.proofs.Common.{◌≡◌, ◌*◌, [], ◌∷◌, ◌++◌, length, Some, refl, ◌∙◌, ap, sym, arith}
use Rattle.std.proofs.lemmas.List.{with_items_is, length-append}
use Rattle.clause_store.specs.Stored.{stored_words, live_clauses}
use Rattle.clause_store.specs.Fields.{clauses_of}
use Rattle.clause_store.proofs.Storing.{clauses-push, holds-push, Holds}
use Rattle.clause_store.proofs.store.Store.push.Goals as goal

pub invariant_of-self-2 : goal.invariant_of-self-2
invariant_of-self-2 c =
    let store = c.self.inside in
    let room = c.make_room in
    let fit = with_items_is store.ends room.new.ends (omega (arith, room.auto.ends, c.deref_mut.ensures.len)) in
    let same : clauses_of room.new.words.items room.new.ends ≡ clauses_of store.words.items store.ends.items =
    room.ensures.clauses ∙ ap (clauses_of store.words.items) c.deref_mut.ensures.value in
    let all = room.new.words.items ++ c.args.words.now in
    let words : c.extend_from_slice.new.self.items ≡ all = c.in_ok-extend_from_slice.ensures.items in
    let size : c.len.result ≡ length all = omega (arith, c.len.ensures, ap length words) in
    let ends : c.push_reserved.new.self.items ≡ room.new.ends ++ 2 * length all ∷ [] =
    c.push_reserved.ensures.items ∙ rw (c.reserve.ensures.items, fit, size) refl in
    let holds : Holds room.new.words.items room.new.ends store.used store.live = record {
      rising = room.ensures.rising;
      used_is = c.self.invariant.used ∙ ap stored_words (sym same);
      live_is = c.self.invariant.live ∙ ap live_clauses (sym same);
    } in
    let pushed = holds-push room.new.words.items room.new.ends c.args.words.now store.used store.live holds in
    record {
      rising = rw (words, ends) pushed.rising;
      few = omega (arith, ap length words, length-append room.new.words.items c.args.words.now, room.ensures.few);
      used = rw (words, ends) pushed.used_is;
      live = rw (words, ends) pushed.live_is;
    }

pub returns-clause-ok : goal.returns-clause-ok
returns-clause-ok c =
    let store = c.self.inside in
    let room = c.make_room in
    let fit = with_items_is store.ends room.new.ends (omega (arith, room.auto.ends, c.deref_mut.ensures.len)) in
    let same : clauses_of room.new.words.items room.new.ends ≡ clauses_of store.words.items store.ends.items =
    room.ensures.clauses ∙ ap (clauses_of store.words.items) c.deref_mut.ensures.value in
    let all = room.new.words.items ++ c.args.words.now in
    let words : c.extend_from_slice.new.self.items ≡ all = c.in_ok-extend_from_slice.ensures.items in
    let size : c.len.result ≡ length all = omega (arith, c.len.ensures, ap length words) in
    let ends : c.push_reserved.new.self.items ≡ room.new.ends ++ 2 * length all ∷ [] =
    c.push_reserved.ensures.items ∙ rw (c.reserve.ensures.items, fit, size) refl in
    rw (words, ends, ← c.self.view_is)
    (clauses-push room.new.words.items room.new.ends c.args.words.now room.ensures.rising ∙ ap (λ clauses. clauses ++ Some c.args.words.now ∷ []) same)
