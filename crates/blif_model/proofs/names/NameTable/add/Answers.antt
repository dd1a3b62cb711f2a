use Rattle.std.proofs.Common.{◌≡◌, ◌∙◌, ◌∷◌, ◌++◌, [], map, take, drop, length, ap, subst, sym, rules}
use Rattle.std.proofs.lemmas.List.{length-map, map-append, places}
use Rattle.blif_model.specs.Hashes.{Seats}
use Rattle.blif_model.proofs.Hashed.{finds-more}
use Rattle.blif_model.proofs.names.NameTable.add.Goals as goal

pub invariant_of-self-in-Ok : goal.invariant_of-self-in-Ok
invariant_of-self-in-Ok c =
    let inside = c.self.inside in
    let names = map (λ text. text.now) inside.texts.items in
    let name = c.args.name.now in
    let items : c.push.new.self.items ≡ inside.texts.items ++ c.args.name ∷ [] = search rules in
    let grown : map (λ text. text.now) c.push.new.self.items ≡ names ++ name ∷ [] =
    ap (map (λ text. text.now)) items ∙ map-append (λ text. text.now) inside.texts.items (c.args.name ∷ []) in
    let count : c.len-number.result ≡ length inside.texts.items = search rules in
    let slots : take inside.slots.len (c.seat.new.slots ++ drop (length c.seat.new.slots) inside.slots.items) ≡ c.seat.new.slots = search (rules, places) in
    rw slots (rw grown
    (finds-more names name inside.slots.items c.seat.new.slots inside.others c.seat.new.others c.len-number.result
    c.self.invariant (search rules) (count ∙ sym (length-map inside.texts.items (λ text. text.now)))
    (λ seats is own. c.in-Ok.ensures.ok (names ++ name ∷ [])
    (subst (λ list. Seats (names ++ name ∷ []) c.len-number.result list inside.others) (sym c.as_mut_slice.ensures.value) seats)
    is own)))
