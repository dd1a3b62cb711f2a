use Rattle.std.proofs.Common.{◌∙◌, sym, ap, refl, length, slice_get}
use Rattle.std.proofs.lemmas.Option.{slice_get_read, slice_get_past}
use Rattle.blif_flattening.proofs.Visiting.{items_of-get, items_of-none, model-read, model-none}
use Rattle.blif_flat.proofs.parts.entry_of.Goals as goal

pub returns-in-Some-get : goal.returns-in-Some-get
returns-in-Some-get c =
    let at = model-read c.args.models.now c.as_slice.result.now c.args.model c.in-Some.model.now c.as_slice.ensures c.in-Some.ensures.lookup.3.0 c.in-Some.ensures.lookup.1 in
    let items = items_of-get c.args.models.now c.args.model c.in-Some.model.now at in
    let read = slice_get_read c.as_slice-in-Some.result.now (length c.as_slice-in-Some.result.now) c.args.item c.in-Some-get.entry.now refl
    c.in-Some-get.ensures.lookup.3.0 c.in-Some-get.ensures.lookup.1 in
    sym (ap (λ list. slice_get list c.args.item) (items ∙ sym c.as_slice-in-Some.ensures) ∙ read)

pub returns-in-None-get : goal.returns-in-None-get
returns-in-None-get c =
    let at = model-read c.args.models.now c.as_slice.result.now c.args.model c.in-Some.model.now c.as_slice.ensures c.in-Some.ensures.lookup.3.0 c.in-Some.ensures.lookup.1 in
    let items = items_of-get c.args.models.now c.args.model c.in-Some.model.now at in
    let past = slice_get_past c.as_slice-in-Some.result.now c.args.item c.in-None-get.ensures.lookup.3 in
    sym (ap (λ list. slice_get list c.args.item) (items ∙ sym c.as_slice-in-Some.ensures) ∙ past)

pub returns-in-None : goal.returns-in-None
returns-in-None c =
    let none = items_of-none c.args.models.now c.args.model
    (model-none c.args.models.now c.as_slice.result.now c.args.model c.as_slice.ensures c.in-None.ensures.lookup.3) in
    sym (ap (λ items. slice_get items c.args.item) none)
