-- The value of a signal at a time, by the changes that are kept of it.
use Rattle.std.proofs.Common.{◌≡◌, ℕ, suc, zero, ◌+◌, ◌<◌, ◌≤◌, Bool, true, false, cond, nat_le, nat_lt, eqb, List, [], ◌∷◌, length, get_or, Option, None, Some, refl, sym, ap, subst, ◌∙◌, arith}
use Rattle.std.proofs.lemmas.Bool.{ltb-true, ltb-false, ne_eqb, eqb-true, eqb-false, le-ltb, le-leb, lt-leb, cond-true, cond-false}
use Rattle.vcd_reader.specs.Events.{Event, At, Gets, before_higher, last_change, is_last, falls, times_after, never_fall}

-- a change that is kept: how many samples were begun before it, and its letters
pub record Kept : Type 0 where
  pub sample : ℕ
  pub value : List ℕ

-- the changes of a signal, after so many samples and a last time
abbrev pub kept : ℕ → Option ℕ → ℕ → List Event → List Kept
kept samples last signal [] = []
kept samples last signal (At time ∷ es) = cond (is_last last time) (kept samples last signal es) (kept (suc samples) (Some time) signal es)
kept samples last signal (Gets other value ∷ es) = cond (eqb other signal) (record { sample = samples; value = value } ∷ kept samples last signal es) (kept samples last signal es)

-- the last change before which at most so many samples were begun
abbrev pub latest : Option (List ℕ) → ℕ → List Kept → Option (List ℕ)
latest old most [] = old
latest old most (x ∷ xs) = latest (cond (nat_le x.sample most) (Some x.value) old) most xs

-- how many times stand before the next one that is higher than this, each once
abbrev pub times_upto : Option ℕ → ℕ → List Event → ℕ
times_upto last time [] = 0
times_upto last time (At other ∷ es) = cond (nat_lt time other) 0 (cond (is_last last other) (times_upto last time es) (suc (times_upto (Some other) time es)))
times_upto last time (Gets signal value ∷ es) = times_upto last time es

-- the time is not lower than the last one
abbrev pub IsUpto : Option ℕ → ℕ → Type 0
IsUpto None time = Unit {0}
IsUpto (Some last) time = last ≤ time

by_later : (is : Bool) (old : Option (List ℕ)) (most samples : ℕ) (value : List ℕ) (xs : List Kept) → nat_le samples most ≡ false → latest old most xs ≡ old → latest old most (cond is (record { sample = samples; value = value } ∷ xs) xs) ≡ old
by_later true old most samples value xs later same = ap (λ (o : Option (List ℕ)). latest o most xs) (cond-false (nat_le samples most) (Some value) old later) ∙ same
by_later false old most samples value xs later same = same

either : (is : Bool) (old : Option (List ℕ)) (most : ℕ) (xs ys : List Kept) → latest old most xs ≡ old → latest old most ys ≡ old → latest old most (cond is xs ys) ≡ old
either true old most xs ys first second = first
either false old most xs ys first second = second

-- changes that come later do not count
latest-later : (old : Option (List ℕ)) (most samples : ℕ) (last : Option ℕ) (signal : ℕ) (es : List Event) → most < samples → latest old most (kept samples last signal es) ≡ old
latest-later old most samples last signal [] later = refl
latest-later old most samples last signal (At time ∷ es) later =
    either (is_last last time) old most (kept samples last signal es) (kept (suc samples) (Some time) signal es) (latest-later old most samples last signal es later) (latest-later old most (suc samples) (Some time) signal es (omega arith))
latest-later old most samples last signal (Gets other value ∷ es) later =
    by_later (eqb other signal) old most samples value (kept samples last signal es) (lt-leb samples most later) (latest-later old most samples last signal es later)

-- a time that is higher than one not lower than the last is not the last
not_last : (last : Option ℕ) (time other : ℕ) → IsUpto last time → time < other → is_last last other ≡ false
not_last None time other upto higher = refl
not_last (Some l) time other upto higher = ne_eqb l other (λ same. omega (arith, upto, higher, same))

by_time : (higher same : Bool) (old : Option (List ℕ)) (samples signal other n m : ℕ) (before : List Event) (xs ys : List Kept) → (higher ≡ true → same ≡ false) → (higher ≡ true → latest old samples ys ≡ old) →
    (higher ≡ false → same ≡ true → last_change old signal before ≡ latest old (samples + m) xs) → (higher ≡ false → last_change old signal before ≡ latest old (suc samples + n) ys) →
    last_change old signal (cond higher [] (At other ∷ before)) ≡ latest old (samples + cond higher 0 (cond same m (suc n))) (cond same xs ys)
by_time true true old samples signal other n m before xs ys differ later equal next = absurd (let no : true ≡ false = differ refl in cc)
by_time true false old samples signal other n m before xs ys differ later equal next = sym (later refl) ∙ ap (λ (k : ℕ). latest old k ys) (omega arith)
by_time false true old samples signal other n m before xs ys differ later equal next = equal refl refl
by_time false false old samples signal other n m before xs ys differ later equal next = next refl ∙ ap (λ (k : ℕ). latest old k ys) (omega arith)

by_change : (is : Bool) (old : Option (List ℕ)) (samples most signal : ℕ) (value : List ℕ) (before : List Event) (xs : List Kept) → samples ≤ most →
    ((o : Option (List ℕ)) → last_change o signal before ≡ latest o most xs) → last_change (cond is (Some value) old) signal before ≡ latest old most (cond is (record { sample = samples; value = value } ∷ xs) xs)
by_change true old samples most signal value before xs low same = same (Some value) ∙ ap (λ (o : Option (List ℕ)). latest o most xs) (sym (cond-true (nat_le samples most) (Some value) old (le-leb samples most low)))
by_change false old samples most signal value before xs low same = same old

-- the last change before the next higher time is the latest of those kept
pub last_change-kept : (old : Option (List ℕ)) (time samples : ℕ) (last : Option ℕ) (signal : ℕ) (es : List Event) → IsUpto last time →
    last_change old signal (before_higher time es) ≡ latest old (samples + times_upto last time es) (kept samples last signal es)
last_change-kept old time samples last signal [] upto = refl
last_change-kept old time samples last signal (At other ∷ es) upto =
    by_time (nat_lt time other) (is_last last other) old samples signal other (times_upto (Some other) time es) (times_upto last time es) (before_higher time es) (kept samples last signal es) (kept (suc samples) (Some other) signal es)
    (λ higher. not_last last time other upto (ltb-true time other higher))
    (λ higher. latest-later old samples (suc samples) (Some other) signal es (omega arith))
    (λ low same. last_change-kept old time samples last signal es upto)
    (λ low. last_change-kept old time (suc samples) (Some other) signal es (ltb-false time other low))
last_change-kept old time samples last signal (Gets other value ∷ es) upto =
    by_change (eqb other signal) old samples (samples + times_upto last time es) signal value (before_higher time es) (kept samples last signal es) (omega arith) (λ o. last_change-kept o time samples last signal es upto)

-- two tests, the second where the first fails
pub both : (a b : Bool) → cond a false b ≡ true → (a ≡ false) × (b ≡ true)
both true b e = cc
both false b e = (refl, e)

by_lower : (higher same : Bool) (last other n m : ℕ) → nat_lt last other ≡ higher → eqb last other ≡ same → nat_lt other last ≡ false → (same ≡ true → n ≡ 0) → cond higher 0 (cond same n (suc m)) ≡ 0
by_lower true same last other n m is equal low none = refl
by_lower false true last other n m is equal low none = none refl
by_lower false false last other n m is equal low none =
    absurd (let one = ltb-false last other is in let two = ltb-false other last low in let differ = eqb-false last other equal in omega (arith, one, two, differ))

-- where times do not fall, none of them is at or below the last, other than itself
none_upto : (last : ℕ) (es : List Event) → never_fall (Some last) es ≡ true → times_upto (Some last) last es ≡ 0
none_upto last [] steady = refl
none_upto last (Gets signal value ∷ es) steady = none_upto last es steady
none_upto last (At other ∷ es) steady =
    let parts = both (nat_lt other last) (never_fall (Some other) es) steady in
    by_lower (nat_lt last other) (eqb last other) last other (times_upto (Some last) last es) (times_upto (Some other) last es) refl refl parts.0
    (λ same. none_upto last es (subst (λ (n : ℕ). never_fall (Some n) es ≡ true) (sym (eqb-true last other same)) parts.1))

above_first : (last other k : ℕ) (times : List ℕ) → last < other → ((j : ℕ) → j < length times → other < get_or times j 0) → k < suc (length times) → last < get_or (other ∷ times) k 0
above_first last other zero times higher each in_range = higher
above_first last other (suc j) times higher each in_range = let next = each j (omega arith) in omega (arith, higher, next)

by_listed : (same : Bool) (last other k : ℕ) (before times : List ℕ) → eqb last other ≡ same → nat_lt other last ≡ false → (same ≡ true → k < length before → last < get_or before k 0) → ((j : ℕ) → j < length times → other < get_or times j 0) →
    k < length (cond same before (other ∷ times)) → last < get_or (cond same before (other ∷ times)) k 0
by_listed true last other k before times equal low old new in_range = old refl in_range
by_listed false last other k before times equal low old new in_range =
    above_first last other k times (let one = ltb-false other last low in let differ = eqb-false last other equal in omega (arith, one, differ)) new in_range

-- the times after a last one are higher
above_last : (last : ℕ) (es : List Event) (k : ℕ) → never_fall (Some last) es ≡ true → k < length (times_after (Some last) es) → last < get_or (times_after (Some last) es) k 0
above_last last [] k steady in_range = absurd (omega arith)
above_last last (Gets signal value ∷ es) k steady in_range = above_last last es k steady in_range
above_last last (At other ∷ es) k steady in_range =
    let parts = both (nat_lt other last) (never_fall (Some other) es) steady in
    by_listed (eqb last other) last other k (times_after (Some last) es) (times_after (Some other) es) refl parts.0
    (λ same below. above_last last es k (subst (λ (n : ℕ). never_fall (Some n) es ≡ true) (sym (eqb-true last other same)) parts.1) below)
    (λ j below. above_last other es j parts.1 below) in_range

last_is : (last : Option ℕ) (time : ℕ) → is_last last time ≡ true → last ≡ Some time
last_is None time same = absurd (let no : false ≡ true = same in cc)
last_is (Some l) time same = ap Some (eqb-true l time same)

upto_first : (other k : ℕ) (times : List ℕ) (upto : ℕ → ℕ) → upto other ≡ 0 → ((j : ℕ) → j < length times → other < get_or times j 0) → ((j : ℕ) → j < length times → upto (get_or times j 0) ≡ suc j) → k < suc (length times) →
    cond (nat_lt (get_or (other ∷ times) k 0) other) 0 (suc (upto (get_or (other ∷ times) k 0))) ≡ suc k
upto_first other zero times upto none each next in_range = cond-false (nat_lt other other) _ _ (le-ltb other other (omega arith)) ∙ ap suc none
upto_first other (suc j) times upto none each next in_range =
    let below : j < length times = omega arith in
    let above = each j below in
    cond-false (nat_lt (get_or times j 0) other) _ _ (le-ltb (get_or times j 0) other (omega (arith, above))) ∙ ap suc (next j below)

by_counted : (same : Bool) (other k : ℕ) (before times : List ℕ) (old new : ℕ → ℕ) →
    (same ≡ true → k < length before → (other < get_or before k 0) × (old (get_or before k 0) ≡ suc k)) → new other ≡ 0 → ((j : ℕ) → j < length times → other < get_or times j 0) → ((j : ℕ) → j < length times → new (get_or times j 0) ≡ suc j) →
    k < length (cond same before (other ∷ times)) →
    (let x = get_or (cond {A = List ℕ} same before (other ∷ times)) k 0 in cond (nat_lt x other) 0 (cond same (old x) (suc (new x)))) ≡ suc k
by_counted true other k before times old new again none each next in_range =
    let here = again refl in_range in
    let above = here.0 in
    cond-false (nat_lt (get_or before k 0) other) _ _ (le-ltb (get_or before k 0) other (omega (arith, above))) ∙ here.1
by_counted false other k before times old new again none each next in_range = upto_first other k times new none each next in_range

-- the time at a place of the list has so many times up to it
pub times_upto-get_or : (last : Option ℕ) (es : List Event) (k : ℕ) → never_fall last es ≡ true → k < length (times_after last es) → times_upto last (get_or (times_after last es) k 0) es ≡ suc k
times_upto-get_or last [] k steady in_range = absurd (omega arith)
times_upto-get_or last (Gets signal value ∷ es) k steady in_range = times_upto-get_or last es k steady in_range
times_upto-get_or last (At other ∷ es) k steady in_range =
    let parts = both (falls last other) (never_fall (Some other) es) steady in
    by_counted (is_last last other) other k (times_after last es) (times_after (Some other) es) (λ x. times_upto last x es) (λ x. times_upto (Some other) x es)
    (λ same below. let is = last_is last other same in
    let here : k < length (times_after (Some other) es) = subst (λ (o : Option ℕ). k < length (times_after o es)) is below in (
      subst (λ (o : Option ℕ). other < get_or (times_after o es) k 0) (sym is) (above_last other es k parts.1 here),
      subst (λ (o : Option ℕ). times_upto o (get_or (times_after o es) k 0) es ≡ suc k) (sym is) (times_upto-get_or (Some other) es k parts.1 here),
    ))
    (none_upto other es parts.1) (λ j below. above_last other es j parts.1 below) (λ j below. times_upto-get_or (Some other) es j parts.1 below) in_range

rise_listed : (same : Bool) (other k j : ℕ) (before times : List ℕ) → (same ≡ true → j < length before → get_or before k 0 < get_or before j 0) → ((i : ℕ) → i < length times → other < get_or times i 0) →
    ((i n : ℕ) → i < n → n < length times → get_or times i 0 < get_or times n 0) → k < j → j < length (cond same before (other ∷ times)) → get_or (cond same before (other ∷ times)) k 0 < get_or (cond same before (other ∷ times)) j 0
rise_listed true other k j before times again each next lower in_range = again refl in_range
rise_listed false other k zero before times again each next lower in_range = absurd (omega (arith, lower))
rise_listed false other zero (suc j) before times again each next lower in_range = each j (omega (arith, in_range))
rise_listed false other (suc k) (suc j) before times again each next lower in_range = next k j (omega (arith, lower)) (omega (arith, in_range))

-- a later time of the list is higher
pub times-rise : (last : Option ℕ) (es : List Event) (k j : ℕ) → never_fall last es ≡ true → k < j → j < length (times_after last es) → get_or (times_after last es) k 0 < get_or (times_after last es) j 0
times-rise last [] k j steady lower in_range = absurd (omega arith)
times-rise last (Gets signal value ∷ es) k j steady lower in_range = times-rise last es k j steady lower in_range
times-rise last (At other ∷ es) k j steady lower in_range =
    let parts = both (falls last other) (never_fall (Some other) es) steady in
    rise_listed (is_last last other) other k j (times_after last es) (times_after (Some other) es)
    (λ same below. times-rise last es k j (subst (λ (o : Option ℕ). never_fall o es ≡ true) (sym (last_is last other same)) parts.1) lower below)
    (λ i below. above_last other es i parts.1 below) (λ i n under below. times-rise (Some other) es i n parts.1 under below) lower in_range
