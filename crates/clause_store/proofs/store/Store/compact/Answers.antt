use Rattle.std.proofs.Common.{◌≡◌, ◌∙◌, ap, sym, arith}
use Rattle.std.specs.Vec.{with_items}
use Rattle.std.proofs.lemmas.List.{with_items_is}
use Rattle.clause_store.specs.Stored.{stored_words, live_clauses}
use Rattle.clause_store.specs.Fields.{clauses_of}
use Rattle.clause_store.proofs.store.Store.compact.Goals as goal

pub invariant_of-self : goal.invariant_of-self
invariant_of-self c =
    let store = c.self.inside in
    let moved = c.compact in
    let fit = with_items_is store.ends moved.new.ends (omega (arith, moved.auto.ends, c.deref_mut.ensures.len)) in
    let same : clauses_of moved.new.words.items (with_items store.ends moved.new.ends).items ≡ clauses_of store.words.items store.ends.items =
    ap (clauses_of moved.new.words.items) fit ∙ moved.ensures.clauses ∙ ap (clauses_of store.words.items) c.deref_mut.ensures.value in
    record {
      rising = rw fit moved.ensures.rising;
      few = omega (arith, moved.ensures.fewer, c.self.invariant.few);
      used = c.self.invariant.used ∙ ap stored_words (sym same);
      live = c.self.invariant.live ∙ ap live_clauses (sym same);
    }

pub returns : goal.returns
returns c =
    let store = c.self.inside in
    let moved = c.compact in
    let fit = with_items_is store.ends moved.new.ends (omega (arith, moved.auto.ends, c.deref_mut.ensures.len)) in
    ap (clauses_of moved.new.words.items) fit ∙ moved.ensures.clauses ∙ ap (clauses_of store.words.items) c.deref_mut.ensures.value ∙ c.self.view_is
