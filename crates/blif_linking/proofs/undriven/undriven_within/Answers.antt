use Rattle.std.proofs.Common.{◌≡◌, ◌∙◌, Bool, List, ℕ, [], map, ap}
use Rattle.std.specs.Option.{option_map}
use Rattle.std.proofs.lemmas.Result.{IfOk-weaker}
use Rattle.blif_model.specs.declared.file.PlacementLine.{PlacementLine}
use Rattle.blif_model.specs.FileKnown.{part_in, placing_in}
use Rattle.blif_model.specs.Names.{place_of}
use Rattle.blif_model.specs.Scanning.{word_of}
use Rattle.blif_linking.specs.Actuals.{at_place}
use Rattle.blif_linking.specs.Driving.{found_in}
use Rattle.blif_linking.specs.Undriven.{first_free, free_from, free_names, undriven_within}
use Rattle.blif_linking.proofs.undriven.undriven_within.Goals as goal

pub returns : goal.returns
returns c =
    let whole = c.args.library.now.whole.now in
    let model = c.args.model.now in
    let number = place_of c.args.library.now.titles.now in
    let interfaces = c.args.library.now.interfaces.now in
    let names = model.own.text.names in
    let driven = model.own.driven in
    let placings = map (placing_in whole) model.placements in
    let firsts = map (word_of whole) model.own.firsts in
    let items = model.own.text.model.items in
    let is_found : c.in_ok-found.found ≡ found_in number interfaces [] placings =
    c.in_ok-found.ensures ∙ ap (λ (lines : List PlacementLine). found_in number interfaces [] (map (placing_in whole) lines)) c.as_slice.ensures in
    let is_free : c.deref.result.now ≡ free_names names driven (found_in number interfaces [] placings) =
    c.deref.ensures.value ∙ c.in_ok-free.ensures ∙ ap (free_names names driven) is_found in
    IfOk-weaker c.free_from.result
    (λ word. at_place (option_map (word_of whole) word) ≡ free_from names driven c.in_ok-found.found c.deref.result.now (at_place (first_free c.deref.result.now firsts)) number interfaces 0 items placings)
    (λ word. at_place (option_map (word_of whole) word) ≡ undriven_within number interfaces (part_in whole model))
    (λ word is.
    is
    ∙ ap (λ (found : List (List ℕ)). free_from names driven found c.deref.result.now (at_place (first_free c.deref.result.now firsts)) number interfaces 0 items placings) is_found
    ∙ ap (λ (free : List Bool). free_from names driven (found_in number interfaces [] placings) free (at_place (first_free free firsts)) number interfaces 0 items placings) is_free)
    c.free_from.ensures
