use Rattle.std.proofs.Common.{◌≡◌, ◌∙◌, ◌-◌, ◌<◌, [], true, ap, map, length, get_or, sym, ⊎_elim, arith}
use Rattle.std.proofs.lemmas.Bool.{cases_lt}
use Rattle.std.proofs.lemmas.List.{get_or-map, length-map}
use Rattle.std.specs.Str.{bytes_eq}
use Rattle.blif_model.specs.Hashes.{slot_at}
use Rattle.blif_model.proofs.Hashed.{at-empty, behind-all, in-slot}
use Rattle.blif_model.proofs.names.sought.Goals as goal

pub returns-then-slot-eq0 : goal.returns-then-slot-eq0
returns-then-slot-eq0 c =
    at-empty (map (λ text. text.now) c.args.texts.now) c.args.slots.now c.args.others.now c.args.name.now c.loop-place.place
    c.requires c.loop-place.invariant (omega arith) (omega arith) (omega arith)

pub returns-then-eq : goal.returns-then-eq
returns-then-eq c =
    let names = map (λ text. text.now) c.args.texts.now in
    let number = slot_at c.args.slots.now c.loop-place.place - 1 in
    let below : number < length c.args.texts.now =
    omega (arith, c.requires.seats.within c.loop-place.place, length-map c.args.texts.now (λ text. text.now)) in
    let same : bytes_eq (get_or names number []) c.args.name.now ≡ true =
    ap (λ text. bytes_eq text c.args.name.now)
    (get_or-map (λ text. text.now) c.args.texts.now number (record { ref_ptr = (0, 0); now = [] }) [] below)
    ∙ sym c.eq.ensures ∙ c.if-eq.true in
    in-slot names c.args.slots.now c.args.others.now c.args.name.now c.loop-place.place number c.requires (omega arith) same

pub loop-place-preserved : goal.loop-place-preserved
loop-place-preserved c = λ place number after before holds.
    let names = map (λ text. text.now) c.args.texts.now in
    ⊎_elim
    (λ front. c.loop-place.invariant place number after front holds)
    (λ behind.
    let here : place ≡ c.loop-place.place = omega arith in
    let is : number ≡ slot_at c.args.slots.now c.loop-place.place - 1 = omega (arith, ap (slot_at c.args.slots.now) here, holds) in
    let below : slot_at c.args.slots.now c.loop-place.place - 1 < length c.args.texts.now =
    omega (arith, c.requires.seats.within c.loop-place.place, length-map c.args.texts.now (λ text. text.now)) in
    ap (λ n. bytes_eq (get_or names n []) c.args.name.now) is
    ∙ ap (λ text. bytes_eq text c.args.name.now)
    (get_or-map (λ text. text.now) c.args.texts.now (slot_at c.args.slots.now c.loop-place.place - 1) (record { ref_ptr = (0, 0); now = [] }) [] below)
    ∙ sym c.eq.ensures ∙ c.if-eq.false)
    (cases_lt place c.loop-place.place)

pub returns : goal.returns
returns c =
    c.copied.ensures ∙ c.get.ensures.value
    ∙ behind-all (map (λ text. text.now) c.args.texts.now) c.args.slots.now c.args.others.now c.args.name.now c.requires
    (λ place number after before holds. c.loop-place.invariant place number after (omega (arith, before)) holds)
