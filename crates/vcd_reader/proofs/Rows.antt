-- The values of a recording's samples, read from its changes.
use Rattle.std.proofs.Common.{◌≡◌, ℕ, ◌+◌, ◌-◌, ◌<◌, ◌≤◌, Bool, true, false, cond, leb, List, [], ◌∷◌, map, length, get_or, drop, Option, None, Some, refl, sym, ap, subst, ◌∙◌, arith, length-drop}
use Rattle.std.proofs.lemmas.List.{get_or-map, length-map, length-take-le}
use Rattle.std.proofs.lemmas.List.Elements.{All-head, All-tail}
use Rattle.std.proofs.lemmas.List.FromFn.{length-map-range_with_len, get_or-map-range_with_len}
use Rattle.std.specs.List.{All, Any}
use Rattle.psl_base.specs.Places.{place_at}
use Rattle.psl_base.specs.declared.place.Place.{Place}
use Rattle.psl_tree.specs.declared.name.Name.{Name}
use Rattle.vcd_reader.specs.declared.changes.Change.{Change}
use Rattle.vcd_reader.specs.declared.unknown.Unknown.{Unknown}
use Rattle.vcd_reader.specs.Rows.{line_at, value_of, rows_of, time_at, kept_as, AreInside, IsSound}
use Rattle.vcd_reader.specs.Sampled.{Sampled, value_in, time_of_sample, place_of_time}
use Rattle.vcd_reader.specs.Changes.{latest_change, letters_in}

pub length-rows_of : (bytes : List ℕ) (samples : ℕ) (changes : List (List Change)) → length (rows_of bytes samples changes) ≡ samples
length-rows_of bytes samples changes = length-map-range_with_len _ 0 samples

-- the value of a signal at a sample is that of its list
pub value_in-rows : (recording : Sampled) (names : List Name) (bytes : List ℕ) (samples : ℕ) (changes : List (List Change)) (starts : List ℕ) (unknown : Unknown) (sample signal : ℕ) (list : List Change) →
    kept_as names bytes samples changes starts unknown ≡ recording → sample < length recording.samples → signal < length changes → list ≡ get_or changes signal list → value_in recording sample signal ≡ value_of bytes sample list
value_in-rows recording names bytes samples changes starts unknown sample signal list view in_samples in_changes here =
    let counted : samples ≡ length recording.samples = sym (length-rows_of bytes samples changes) ∙ ap (λ (r : Sampled). length r.samples) view in
    let in_range : sample < samples = omega (arith, counted, in_samples) in
    let row : get_or recording.samples sample [] ≡ map (value_of bytes sample) changes =
    ap (λ (r : Sampled). get_or r.samples sample []) (sym view) ∙ get_or-map-range_with_len (λ i. map (value_of bytes i) changes) 0 samples sample sample [] in_range (omega arith) in
    ap (λ values. get_or values signal None) row ∙ get_or-map (value_of bytes sample) changes signal list None in_changes ∙ ap (value_of bytes sample) (sym here)

-- what holds of each change of a list holds of the latest one
by_turn : (P : Change → Type 0) (b : Bool) (x change : Change) (old : Option Change) → cond b (Some x) old ≡ Some change → P x → (old ≡ Some change → P change) → P change
by_turn P true x change old latest here before = let same : x ≡ change = cc in subst P same here
by_turn P false x change old latest here before = before latest

pub latest_change-All : (P : Change → Type 0) (old : Option Change) (samples : ℕ) (changes : List Change) (change : Change) → (old ≡ Some change → P change) → All P changes → latest_change old samples changes ≡ Some change → P change
latest_change-All P old samples [] change before each latest = before latest
latest_change-All P old samples (x ∷ xs) change before each latest =
    latest_change-All P (cond (leb x.sample samples) (Some x) old) samples xs change
    (λ now. by_turn P (leb x.sample samples) x change old now (All-head P x xs each) before) (All-tail P x xs each) latest

-- a signal that some name has is one of the changes'
pub has_changes : (names : List Name) (bytes : List ℕ) (samples : ℕ) (changes : List (List Change)) (starts : List ℕ) (signal : ℕ) → IsSound names bytes samples changes starts → Any (λ name. name.signal ≡ signal) names → signal < length changes
has_changes names bytes samples changes starts signal sound (k, name, in_range, here, same) =
    let below = sound.signals k name in_range in
    let at : (get_or names k name).signal ≡ signal = ap (λ (n : Name). n.signal) here ∙ same in
    omega (arith, below, at)

-- the letters of a recording's change
pub change-inside : (bytes : List ℕ) (changes : List (List Change)) (signal samples : ℕ) (list : List Change) (change : Change) → AreInside bytes changes → signal < length changes → list ≡ get_or changes signal list → Some change ≡ latest_change None samples list → (0 < change.len) × (change.start + change.len ≤ length bytes)
change-inside bytes changes signal samples list change inside in_range here latest =
    let each : All (λ change. (0 < change.len) × (change.start + change.len ≤ length bytes)) list = rw here (inside signal list in_range) in
    latest_change-All (λ change. (0 < change.len) × (change.start + change.len ≤ length bytes)) None samples list change (λ no. absurd (let e : None ≡ Some change = no in cc)) each (sym latest)

-- the time of a sample is that of the token with which it begins
pub time-kept : (recording : Sampled) (names : List Name) (bytes : List ℕ) (samples : ℕ) (changes : List (List Change)) (starts : List ℕ) (unknown : Unknown) (sample start : ℕ) →
    kept_as names bytes samples changes starts unknown ≡ recording → sample < length starts → start ≡ get_or starts sample 0 → time_at bytes start ≡ time_of_sample recording sample
time-kept recording names bytes samples changes starts unknown sample start view in_starts here =
    ap (time_at bytes) here ∙ sym (get_or-map (time_at bytes) starts sample 0 0 in_starts)
    ∙ ap (λ (r : Sampled). time_of_sample r sample) view

-- the place of a sample's time is that of the token with which it begins
pub place-kept : (recording : Sampled) (names : List Name) (bytes : List ℕ) (samples : ℕ) (changes : List (List Change)) (starts : List ℕ) (unknown : Unknown) (sample start : ℕ) →
    kept_as names bytes samples changes starts unknown ≡ recording → sample < length starts → start ≡ get_or starts sample 0 → place_at bytes start ≡ place_of_time recording sample
place-kept recording names bytes samples changes starts unknown sample start view in_starts here =
    ap (place_at bytes) here ∙ sym (get_or-map (place_at bytes) starts sample 0 (record { line = 1; column = 1 }) in_starts)
    ∙ ap (λ (r : Sampled). place_of_time r sample) view

-- each sample of a recording begins somewhere
pub begins-within : (recording : Sampled) (names : List Name) (bytes : List ℕ) (samples : ℕ) (changes : List (List Change)) (starts : List ℕ) (unknown : Unknown) (sample : ℕ) →
    kept_as names bytes samples changes starts unknown ≡ recording → IsSound names bytes samples changes starts → sample < length recording.samples → sample < length starts
begins-within recording names bytes samples changes starts unknown sample view sound in_samples =
    let counted = sym (length-rows_of bytes samples changes) ∙ ap (λ (r : Sampled). length r.samples) view in
    let same = sound.counted in
    omega (arith, counted, same, in_samples)

-- the lines of the places of all samples
pub line-kept : (recording : Sampled) (names : List Name) (bytes : List ℕ) (samples : ℕ) (changes : List (List Change)) (starts : List ℕ) (unknown : Unknown) (lines : List ℕ) (sample : ℕ) →
    kept_as names bytes samples changes starts unknown ≡ recording → IsSound names bytes samples changes starts → lines ≡ map (line_at bytes) starts → sample < length recording.samples → get_or lines sample 0 ≡ (place_of_time recording sample).line
line-kept recording names bytes samples changes starts unknown lines sample view sound are in_samples =
    let low = begins-within recording names bytes samples changes starts unknown sample view sound in_samples in
    ap (λ list. get_or list sample 0) are ∙ get_or-map (line_at bytes) starts sample 0 0 low
    ∙ ap (λ (place : Place). place.line) (place-kept recording names bytes samples changes starts unknown sample (get_or starts sample 0) view low refl)

pub lines-counted : (recording : Sampled) (names : List Name) (bytes : List ℕ) (samples : ℕ) (changes : List (List Change)) (starts : List ℕ) (unknown : Unknown) (lines : List ℕ) →
    kept_as names bytes samples changes starts unknown ≡ recording → IsSound names bytes samples changes starts → lines ≡ map (line_at bytes) starts → length lines ≡ length recording.samples
lines-counted recording names bytes samples changes starts unknown lines view sound are =
    ap length are ∙ length-map starts (line_at bytes) ∙ sound.counted ∙ sym (length-rows_of bytes samples changes) ∙ ap (λ (r : Sampled). length r.samples) view

pub length-letters_in : (bytes : List ℕ) (change : Change) → change.start + change.len ≤ length bytes → length (letters_in bytes change) ≡ change.len
length-letters_in bytes change within =
    let cut : change.start + change.len - change.start ≡ change.len = omega arith in
    rw cut (length-take-le change.len (drop change.start bytes) (omega (arith, length-drop change.start bytes)))
