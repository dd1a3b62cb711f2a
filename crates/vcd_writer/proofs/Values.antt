-- The values that the events of samples give their signals.
use Rattle.std.proofs.Common.{◌≡◌, ◌∙◌, refl, sym, ap, ℕ, zero, suc, ◌+◌, ◌<◌, ◌≤◌, Bool, false, List, [], ◌∷◌, ◌++◌, length, map, Option, None, Some, arith}
use Rattle.std.specs.Prelude.{slice_index_or}
use Rattle.std.specs.List.{range_with_len}
use Rattle.std.proofs.lemmas.Bool.{le-ltb, lt-ltb, ne_eqb, eq-eqb}
use Rattle.vcd_writer.proofs.Samples.{time_before, gets_from, sample_events, events_from, is-last-not}
use Rattle.vcd_writer.specs.Lines.{digit, letters_of}
use Rattle.vcd_reader.specs.Events.{Event, At, Gets, before_higher, last_change, value_at, times_after}

-- ---- the times

past-gets : (last : Option ℕ) (number : ℕ) (values : List Bool) (rest : List Event) → times_after last (gets_from number values ++ rest) ≡ times_after last rest
past-gets last number [] rest = refl
past-gets last number (value ∷ values) rest = past-gets last (suc number) values rest

-- each sample has its own time
pub times-are : (values : ℕ → List Bool) (first count : ℕ) → times_after (time_before first) (events_from values first count) ≡ range_with_len first count
times-are values first zero = refl
times-are values first (suc count) =
    let next : suc first ≡ first + 1 = omega arith in
    rw (is-last-not first) (ap (λ (times : List ℕ). first ∷ times)
    (past-gets (Some first) 0 (values first) (events_from values (first + 1) count)
    ∙ ap (λ (n : ℕ). times_after (time_before n) (events_from values (first + 1) count)) next ∙ times-are values (first + 1) count))

-- ---- which events count

higher-past-gets : (time number : ℕ) (values : List Bool) (rest : List Event) → before_higher time (gets_from number values ++ rest) ≡ gets_from number values ++ before_higher time rest
higher-past-gets time number [] rest = refl
higher-past-gets time number (value ∷ values) rest = ap (λ es. Gets number (digit value ∷ []) ∷ es) (higher-past-gets time (suc number) values rest)

-- behind a sample's own events no other counts
ends-there : (values : ℕ → List Bool) (time first count : ℕ) → time < first → before_higher time (events_from values first count) ≡ []
ends-there values time first zero later = refl
ends-there values time first (suc count) later = rw (lt-ltb time first later) refl

-- a sample's own events count
own : (values : ℕ → List Bool) (time first count : ℕ) → first ≤ time
    → before_higher time (events_from values first (suc count)) ≡ sample_events values first ++ before_higher time (events_from values (first + 1) count)
own values time first count here =
    rw (le-ltb time first here) (ap (λ es. At first ∷ es) (higher-past-gets time 0 (values first) (events_from values (first + 1) count)))

-- ---- the last change of a signal

-- values of other signals change nothing
past-others : (old : Option (List ℕ)) (signal number : ℕ) (values : List Bool) (rest : List Event) → signal < number → last_change old signal (gets_from number values ++ rest) ≡ last_change old signal rest
past-others old signal number [] rest lower = refl
past-others old signal number (value ∷ values) rest lower =
    rw (ne_eqb number signal (λ same. omega (arith, same, lower)), last_change) (past-others old signal (suc number) values rest (omega arith))

-- the value of a signal counts
own-value : (old : Option (List ℕ)) (number place signal : ℕ) (values : List Bool) (rest : List Event) → number + place ≡ signal → place < length values
    → last_change old signal (gets_from number values ++ rest) ≡ last_change (Some (digit (slice_index_or values place false) ∷ [])) signal rest
own-value old number place signal [] rest at within = absurd (omega arith)
own-value old number zero signal (value ∷ values) rest at within =
    rw (eq-eqb number signal (omega (arith, at)), last_change) (past-others (Some (digit value ∷ [])) signal (suc number) values rest (omega (arith, at)))
own-value old number (suc place) signal (value ∷ values) rest at within =
    rw (ne_eqb number signal (λ same. omega (arith, same, at)), last_change) (own-value old (suc number) place signal values rest (omega (arith, at)) (omega arith))

-- the last change up to a sample is the one of that sample
last-of : (values : ℕ → List Bool) (signal time first gap count : ℕ) (old : Option (List ℕ)) → ((sample : ℕ) → sample ≤ time → signal < length (values sample)) → first + gap ≡ time → gap < count
    → last_change old signal (before_higher time (events_from values first count)) ≡ Some (digit (slice_index_or (values time) signal false) ∷ [])
last-of values signal time first gap zero old wide here within = absurd (omega arith)
last-of values signal time first zero (suc count) old wide here within =
    let same : first ≡ time = omega (arith, here) in
    ap (last_change old signal) (own values time first count (omega (arith, here)))
    ∙ ap (λ (es : List Event). last_change old signal (sample_events values first ++ es)) (ends-there values time (first + 1) count (omega (arith, here)))
    ∙ own-value old 0 signal signal (values first) [] (omega arith) (wide first (omega (arith, here)))
    ∙ ap (λ (n : ℕ). Some (digit (slice_index_or (values n) signal false) ∷ [])) same
last-of values signal time first (suc gap) (suc count) old wide here within =
    ap (last_change old signal) (own values time first count (omega (arith, here)))
    ∙ own-value old 0 signal signal (values first) (before_higher time (events_from values (first + 1) count)) (omega arith) (wide first (omega (arith, here)))
    ∙ last-of values signal time (first + 1) gap count _ wide (omega (arith, here)) (omega arith)

-- ---- the samples

-- the value of each signal at a sample
value-there : (values : ℕ → List Bool) (width signal time count : ℕ) → ((sample : ℕ) → sample < count → length (values sample) ≡ width) → signal < width → time < count
    → value_at (events_from values 0 count) signal time ≡ Some (digit (slice_index_or (values time) signal false) ∷ [])
value-there values width signal time count wide within here =
    last-of values signal time 0 time count None (λ sample le. let w = wide sample (omega (arith, le)) in omega (arith, w)) (omega arith) here

-- a list of values is what it has at each place
row-is : (f : ℕ → Option (List ℕ)) (values : List Bool) (first : ℕ) → ((place : ℕ) → place < length values → f (first + place) ≡ Some (digit (slice_index_or values place false) ∷ []))
    → map f (range_with_len first (length values)) ≡ letters_of values
row-is f [] first each = refl
row-is f (value ∷ values) first each =
    ap (λ (o : Option (List ℕ)). o ∷ map f (range_with_len (first + 1) (length values))) (ap f (let same : first ≡ first + 0 = omega arith in same) ∙ each 0 (omega arith))
    ∙ ap (λ (os : List (Option (List ℕ))). Some (digit value ∷ []) ∷ os)
    (row-is f values (first + 1) (λ place within. ap f (let same : first + 1 + place ≡ first + suc place = omega arith in same) ∙ each (suc place) (omega arith)))

pub rows-are : (values : ℕ → List Bool) (width whole first count : ℕ) → ((sample : ℕ) → sample < whole → length (values sample) ≡ width) → first + count ≤ whole
    → map (λ time. map (λ signal. value_at (events_from values 0 whole) signal time) (range_with_len 0 width)) (range_with_len first count) ≡ map (λ sample. letters_of (values sample)) (range_with_len first count)
rows-are values width whole first zero wide within = refl
rows-are values width whole first (suc count) wide within =
    let here : length (values first) ≡ width = wide first (omega arith) in
    ap (λ (row : List (Option (List ℕ))). row ∷ map (λ time. map (λ signal. value_at (events_from values 0 whole) signal time) (range_with_len 0 width)) (range_with_len (first + 1) count))
    (ap (λ (n : ℕ). map (λ signal. value_at (events_from values 0 whole) signal first) (range_with_len 0 n)) (sym here)
    ∙ row-is (λ signal. value_at (events_from values 0 whole) signal first) (values first) 0
    (λ place lt. ap (λ (n : ℕ). value_at (events_from values 0 whole) n first) (let same : 0 + place ≡ place = omega arith in same) ∙ value-there values width place first whole wide (omega (arith, lt, here)) (omega arith)))
    ∙ ap (λ (rows : List (List (Option (List ℕ)))). letters_of (values first) ∷ rows) (rows-are values width whole (first + 1) count wide (omega arith))
