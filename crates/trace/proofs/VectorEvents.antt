-- The values that the events of samples give signals of any number of bits.
use Rattle.std.proofs.Common.{◌≡◌, ◌∙◌, refl, sym, ap, ℕ, zero, suc, ◌+◌, ◌<◌, ◌≤◌, List, [], ◌∷◌, ◌++◌, length, map, Option, None, Some, Ok, true, arith}
use Rattle.std.specs.Prelude.{slice_index_or}
use Rattle.std.specs.List.{flat_map, range_with_len}
use Rattle.std.proofs.lemmas.Bool.{le-ltb, lt-ltb, ne_eqb, eq-eqb}
use Rattle.psl_base.specs.Tokens.{tokens}
use Rattle.psl_base.specs.declared.place.Place.{Place}
use Rattle.trace.specs.Vectors.{all_given}
use Rattle.vcd_reader.proofs.Firsts.{faultless-reading}
use Rattle.vcd_reader.specs.Declarations.{Declared}
use Rattle.vcd_reader.specs.Events.{Event, At, Gets, before_higher, last_change, value_at, times_after}
use Rattle.vcd_reader.specs.Meaning.{dump_of, events_after, may_end_after, places_in, reading, sampled_of}
use Rattle.vcd_reader.specs.Rules.{may_end}
use Rattle.vcd_reader.specs.Sampled.{Sampled}
use Rattle.vcd_reader.specs.Standing.{Standing, at_first}
use Rattle.vcd_reader.specs.declared.unknown.Unknown.{Unknown}
use Rattle.vcd_writer.proofs.Samples.{before_sample, is-last-not, time_before}
use Rattle.vcd_writer.proofs.Standings.{Goes, says}

-- values of signals, from one on
abbrev pub words_from : ℕ → List (List ℕ) → List Event
words_from number [] = []
words_from number (word ∷ words) = Gets number word ∷ words_from (suc number) words

abbrev pub sample_words : (ℕ → List (List ℕ)) → ℕ → List Event
sample_words words sample = At sample ∷ words_from 0 (words sample)

abbrev pub all_words : (ℕ → List (List ℕ)) → ℕ → ℕ → List Event
all_words words first count = flat_map (sample_words words) (range_with_len first count)

-- ---- the times

past-words : (last : Option ℕ) (number : ℕ) (words : List (List ℕ)) (rest : List Event) → times_after last (words_from number words ++ rest) ≡ times_after last rest
past-words last number [] rest = refl
past-words last number (word ∷ words) rest = past-words last (suc number) words rest

-- each sample has its own time
times-are : (words : ℕ → List (List ℕ)) (first count : ℕ) → times_after (time_before first) (all_words words first count) ≡ range_with_len first count
times-are words first zero = refl
times-are words first (suc count) =
    let next : suc first ≡ first + 1 = omega arith in
    rw (is-last-not first) (ap (λ (times : List ℕ). first ∷ times)
    (past-words (Some first) 0 (words first) (all_words words (first + 1) count)
    ∙ ap (λ (n : ℕ). times_after (time_before n) (all_words words (first + 1) count)) next ∙ times-are words (first + 1) count))

-- ---- which events count

higher-past-words : (time number : ℕ) (words : List (List ℕ)) (rest : List Event) → before_higher time (words_from number words ++ rest) ≡ words_from number words ++ before_higher time rest
higher-past-words time number [] rest = refl
higher-past-words time number (word ∷ words) rest = ap (λ es. Gets number word ∷ es) (higher-past-words time (suc number) words rest)

-- behind a sample's own events no other counts
ends-there : (words : ℕ → List (List ℕ)) (time first count : ℕ) → time < first → before_higher time (all_words words first count) ≡ []
ends-there words time first zero later = refl
ends-there words time first (suc count) later = rw (lt-ltb time first later) refl

-- a sample's own events count
own : (words : ℕ → List (List ℕ)) (time first count : ℕ) → first ≤ time
    → before_higher time (all_words words first (suc count)) ≡ sample_words words first ++ before_higher time (all_words words (first + 1) count)
own words time first count here =
    rw (le-ltb time first here) (ap (λ es. At first ∷ es) (higher-past-words time 0 (words first) (all_words words (first + 1) count)))

-- ---- the last change of a signal

-- values of other signals change nothing
past-others : (old : Option (List ℕ)) (signal number : ℕ) (words : List (List ℕ)) (rest : List Event) → signal < number → last_change old signal (words_from number words ++ rest) ≡ last_change old signal rest
past-others old signal number [] rest lower = refl
past-others old signal number (word ∷ words) rest lower =
    rw (ne_eqb number signal (λ same. omega (arith, same, lower)), last_change) (past-others old signal (suc number) words rest (omega arith))

-- the value of a signal counts
own-word : (old : Option (List ℕ)) (number place signal : ℕ) (words : List (List ℕ)) (rest : List Event) → number + place ≡ signal → place < length words
    → last_change old signal (words_from number words ++ rest) ≡ last_change (Some (slice_index_or words place [])) signal rest
own-word old number place signal [] rest at within = absurd (omega arith)
own-word old number zero signal (word ∷ words) rest at within =
    rw (eq-eqb number signal (omega (arith, at)), last_change) (past-others (Some word) signal (suc number) words rest (omega (arith, at)))
own-word old number (suc place) signal (word ∷ words) rest at within =
    rw (ne_eqb number signal (λ same. omega (arith, same, at)), last_change) (own-word old (suc number) place signal words rest (omega (arith, at)) (omega arith))

-- the last change up to a sample is the one of that sample
last-of : (words : ℕ → List (List ℕ)) (signal time first gap count : ℕ) (old : Option (List ℕ)) → ((sample : ℕ) → sample ≤ time → signal < length (words sample)) → first + gap ≡ time → gap < count
    → last_change old signal (before_higher time (all_words words first count)) ≡ Some (slice_index_or (words time) signal [])
last-of words signal time first gap zero old wide here within = absurd (omega arith)
last-of words signal time first zero (suc count) old wide here within =
    let same : first ≡ time = omega (arith, here) in
    ap (last_change old signal) (own words time first count (omega (arith, here)))
    ∙ ap (λ (es : List Event). last_change old signal (sample_words words first ++ es)) (ends-there words time (first + 1) count (omega (arith, here)))
    ∙ own-word old 0 signal signal (words first) [] (omega arith) (wide first (omega (arith, here)))
    ∙ ap (λ (n : ℕ). Some (slice_index_or (words n) signal [])) same
last-of words signal time first (suc gap) (suc count) old wide here within =
    ap (last_change old signal) (own words time first count (omega (arith, here)))
    ∙ own-word old 0 signal signal (words first) (before_higher time (all_words words (first + 1) count)) (omega arith) (wide first (omega (arith, here)))
    ∙ last-of words signal time (first + 1) gap count _ wide (omega (arith, here)) (omega arith)

-- ---- the samples

-- the value of each signal at a sample
word-there : (words : ℕ → List (List ℕ)) (width signal time count : ℕ) → ((sample : ℕ) → sample < count → length (words sample) ≡ width) → signal < width → time < count
    → value_at (all_words words 0 count) signal time ≡ Some (slice_index_or (words time) signal [])
word-there words width signal time count wide within here =
    last-of words signal time 0 time count None (λ sample le. let w = wide sample (omega (arith, le)) in omega (arith, w)) (omega arith) here

-- a list of values is what it has at each place
row-is : (f : ℕ → Option (List ℕ)) (words : List (List ℕ)) (first : ℕ) → ((place : ℕ) → place < length words → f (first + place) ≡ Some (slice_index_or words place []))
    → map f (range_with_len first (length words)) ≡ all_given words
row-is f [] first each = refl
row-is f (word ∷ words) first each =
    ap (λ (o : Option (List ℕ)). o ∷ map f (range_with_len (first + 1) (length words))) (ap f (let same : first ≡ first + 0 = omega arith in same) ∙ each 0 (omega arith))
    ∙ ap (λ (os : List (Option (List ℕ))). Some word ∷ os)
    (row-is f words (first + 1) (λ place within. ap f (let same : first + 1 + place ≡ first + suc place = omega arith in same) ∙ each (suc place) (omega arith)))

rows-are : (words : ℕ → List (List ℕ)) (width whole first count : ℕ) → ((sample : ℕ) → sample < whole → length (words sample) ≡ width) → first + count ≤ whole
    → map (λ time. map (λ signal. value_at (all_words words 0 whole) signal time) (range_with_len 0 width)) (range_with_len first count) ≡ map (λ sample. all_given (words sample)) (range_with_len first count)
rows-are words width whole first zero wide within = refl
rows-are words width whole first (suc count) wide within =
    let here : length (words first) ≡ width = wide first (omega arith) in
    ap (λ (row : List (Option (List ℕ))). row ∷ map (λ time. map (λ signal. value_at (all_words words 0 whole) signal time) (range_with_len 0 width)) (range_with_len (first + 1) count))
    (ap (λ (n : ℕ). map (λ signal. value_at (all_words words 0 whole) signal first) (range_with_len 0 n)) (sym here)
    ∙ row-is (λ signal. value_at (all_words words 0 whole) signal first) (words first) 0
    (λ place lt. ap (λ (n : ℕ). value_at (all_words words 0 whole) n first) (let same : 0 + place ≡ place = omega arith in same) ∙ word-there words width place first whole wide (omega (arith, lt, here)) (omega arith)))
    ∙ ap (λ (rows : List (List (Option (List ℕ)))). all_given (words first) ∷ rows) (rows-are words width whole (first + 1) count wide (omega arith))

-- ---- the whole text

-- what the events give
sampled-are : (unknown : Unknown) (declared : Declared) (words : ℕ → List (List ℕ)) (count : ℕ) (places : List Place) → ((sample : ℕ) → sample < count → length (words sample) ≡ length declared.codes)
    → sampled_of unknown (dump_of (before_sample declared count) (all_words words 0 count) places) ≡ record { names = declared.names; samples = map (λ sample. all_given (words sample)) (range_with_len 0 count); times = range_with_len 0 count; places = places; unknown = unknown }
sampled-are unknown declared words count places wide =
    let rows_at : List ℕ → List (List (Option (List ℕ))) = map (λ time. map (λ signal. value_at (all_words words 0 count) signal time) (range_with_len 0 (length declared.codes))) in
    ap (λ (times : List ℕ). record { names = declared.names; samples = rows_at times; times = times; places = places; unknown = unknown }) (times-are words 0 count)
    ∙ ap (λ (rows : List (List (Option (List ℕ)))). record { names = declared.names; samples = rows; times = range_with_len 0 count; places = places; unknown = unknown })
    (rows-are words (length declared.codes) count 0 count wide (omega arith))

-- a text of definitions and samples is read as the values that it was made of
pub words-read : (unknown : Unknown) (text : List ℕ) (declared : Declared) (words : ℕ → List (List ℕ)) (count : ℕ) → ((sample : ℕ) → sample < count → length (words sample) ≡ length declared.codes)
    → Goes at_first (tokens text) (all_words words 0 count) (before_sample declared count)
    → reading unknown text ≡ Ok (record { names = declared.names; samples = map (λ sample. all_given (words sample)) (range_with_len 0 count); times = range_with_len 0 count; places = places_in text; unknown = unknown })
words-read unknown text declared words count wide goes =
    let all = says [] (tokens text) (all_words words 0 count) at_first (before_sample declared count) refl goes in
    let end : may_end_after (tokens text) ≡ true = ap (λ (s : Standing). may_end s.part s.opened) all.end_is in
    faultless-reading unknown text (all.none, end)
    ∙ ap (λ (s : Standing). Ok (sampled_of unknown (dump_of s (events_after [] (tokens text)) (places_in text)))) all.end_is
    ∙ ap (λ (es : List Event). Ok (sampled_of unknown (dump_of (before_sample declared count) es (places_in text)))) all.events_are
    ∙ ap (λ (s : Sampled). Ok s) (sampled-are unknown declared words count (places_in text) wide)
