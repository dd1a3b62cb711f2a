use Rattle.std.proofs.Common.{◌≡◌, ◌∙◌, [], ◌∷◌, ◌++◌, true, cond, length, map, Some, ap, sym, arith}
use Rattle.std.proofs.lemmas.List.{map-append, length-map}
use Rattle.std.proofs.lemmas.Map.Text.{hash_map_updates_str}
use Rattle.std.specs.Str.{bytes_eq}
use Rattle.vcd_reader.proofs.Places.{place_of-push, distinct-push}
use Rattle.vcd_reader.proofs.Short.{short-push}
use Rattle.vcd_reader.specs.Labels.{is_new}
use Rattle.vcd_reader.specs.Short.{AreBytes}
use Rattle.vcd_reader.proofs.codes.CodeTable.add.Goals as goal

pub invariant_of-self-in-Ok : goal.invariant_of-self-in-Ok
invariant_of-self-in-Ok c =
    let new : is_new (map (λ text. text.now) c.self.inside.texts.items) c.args.text.now ≡ true = rw c.self.view_is c.requires.new in
    let at : c.len-place.result ≡ length (map (λ text. text.now) c.self.inside.texts.items) = c.len-place.ensures ∙ c.self.inside.texts.ok.0 ∙ sym (length-map c.self.inside.texts.items (λ text. text.now)) in
    let pushed : c.push.new.self.items ≡ c.self.inside.texts.items ++ c.args.text ∷ [] = c.in_ok-push.ensures.items in
    let bytes : AreBytes c.args.text.now = λ k. omega (arith, c.type_inv.text k) in (
      λ query.
          let updated = hash_map_updates_str c.args.text.now c.self.inside.places c.insert.new.self (Some c.len-place.result) c.in-Ok.ensures.updates query in
          let old = ap (λ o. cond (bytes_eq c.args.text.now query) (Some c.len-place.result) o) (c.self.invariant.0 query) in
          rw (pushed, map-append) (updated ∙ old ∙ place_of-push (map (λ text. text.now) c.self.inside.texts.items) c.args.text.now query c.len-place.result at new),
      rw (c.note.ensures, pushed, map-append) (short-push c.self.inside.short.items (map (λ text. text.now) c.self.inside.texts.items) c.args.text.now c.len-place.result c.self.invariant.1 at new bytes),
      rw (pushed, map-append) (distinct-push (map (λ text. text.now) c.self.inside.texts.items) c.args.text.now c.self.invariant.2 new),
    )
