-- What the bytes of a file say, from what is read of them token by token.
use Rattle.std.proofs.Common.{rules, ◌≡◌, inl, inr, ℕ, ◌+◌, ◌<◌, ◌≤◌, Bool, true, false, cond, nat_le, List, [], ◌∷◌, ◌++◌, map, length, get_or, replicate, Option, None, Some, Result, Ok, Err, refl, sym, ap, subst, ◌∙◌, arith}
use Rattle.std.proofs.lemmas.List.{length-map, get_or-map, get_or-replicate, length-replicate}
use Rattle.std.proofs.lemmas.List.Elements.{All-nil, All-replicate}
use Rattle.std.proofs.lemmas.List.FromFn.{fill_by_all}
use Rattle.std.specs.List.{All, range_with_len}
use Rattle.std.specs.Option.{option_map}
use Rattle.psl_base.proofs.Placing.{placed}
use Rattle.psl_base.specs.Places.{file_limit, place_at}
use Rattle.psl_base.specs.Tokens.{PlacedToken, tokens, all_tokens}
use Rattle.psl_base.specs.declared.place.Place.{Place}
use Rattle.vcd_reader.specs.declared.changes.Change.{Change}
use Rattle.vcd_reader.specs.declared.fault.VcdFault.{VcdFault}
use Rattle.vcd_reader.specs.declared.fault.VcdFault.TheVariants as vcd
use Rattle.vcd_reader.proofs.Firsts.{faultless-none, reading-faultless}
use Rattle.vcd_reader.proofs.Holding.{State, lettered, Holds}
use Rattle.vcd_reader.proofs.Saying.{walk-said}
use Rattle.vcd_reader.proofs.Starting.{begun, offsets, run-starts, run-samples, begun-within, places-kept}
use Rattle.vcd_reader.proofs.Telling.{state_of, state_in, AgreeWhole, defining_agrees}
use Rattle.vcd_reader.proofs.Times.{times-kept}
use Rattle.vcd_reader.proofs.Values.{kept, latest, last_change-kept, times_upto-get_or, times-rise}
use Rattle.vcd_reader.specs.Declarations.{Declared, nothing_declared}
use Rattle.vcd_reader.specs.Events.{Event, value_at, times_of, never_fall}
use Rattle.vcd_reader.specs.declared.unknown.Unknown.{Unknown}
use Rattle.vcd_reader.specs.FirstFault.{IsFaultless}
use Rattle.vcd_reader.specs.Meaning.{first_fault, events_after, places_after, unless, dump_by, sampled_of, end_of, reading}
use Rattle.vcd_reader.specs.Rows.{value_of, rows_of, time_at, kept_as, IsSound}
use Rattle.vcd_reader.specs.Running.{Outcome, changes_after, starts_after, raised, run_to, defining, Halts}
use Rattle.vcd_reader.specs.Rules.{rule_at, may_end}
use Rattle.vcd_reader.specs.Sampled.{Sampled, AreAlike, time_of_sample}
use Rattle.vcd_reader.specs.Changes.{latest_change, letters_in}
use Rattle.vcd_reader.specs.Standing.{Standing, standing_by, Told, nothing_told, Part, Defining, Telling, Open, Ready, declared_after, part_after, opened_after}
use Rattle.vcd_reader.specs.Told.{IsReadFault}

by_turn : (bytes : List ℕ) (b : Bool) (change : Change) (old : Option Change) → option_map (letters_in bytes) (cond b (Some change) old) ≡ cond b (Some (letters_in bytes change)) (option_map (letters_in bytes) old)
by_turn bytes true change old = refl
by_turn bytes false change old = refl

-- the letters of the latest change
latest-lettered : (bytes : List ℕ) (old : Option Change) (most : ℕ) (changes : List Change) → option_map (letters_in bytes) (latest_change old most changes) ≡ latest (option_map (letters_in bytes) old) most (map (lettered bytes) changes)
latest-lettered bytes old most [] = refl
latest-lettered bytes old most (x ∷ xs) =
    latest-lettered bytes (cond (nat_le x.sample most) (Some x) old) most xs ∙ ap (λ (o : Option (List ℕ)). latest o most (map (lettered bytes) xs)) (by_turn bytes (nat_le x.sample most) x old)

-- nothing yet of so many signals
abbrev nothing : ℕ → State
nothing n = state_of nothing_told (replicate n [])

-- the value of a list at a sample is that of its signal at the sample's time
value-held : (bytes : List ℕ) (n : ℕ) (es : List Event) (new : State) (k s : ℕ) → Holds bytes (nothing n) es new → k < length (times_of es) → s < n → value_of bytes k (get_or new.changes s []) ≡ value_at es s (get_or (times_of es) k 0)
value-held bytes n es new k s holds in_samples in_signals =
    let none : get_or (replicate n []) s [] ≡ [] = get_or-replicate n s [] [] in_signals in
    let list : map (lettered bytes) (get_or new.changes s []) ≡ kept 0 None s es = holds.changes s (omega (arith, in_signals, length-replicate {A = List Change} n [])) ∙ ap (λ (xs : List Change). map (lettered bytes) xs ++ kept 0 None s es) none in
    let counted = times_upto-get_or None es k holds.steady in_samples in
    latest-lettered bytes None (k + 1) (get_or new.changes s []) ∙ ap (latest None (k + 1)) list
    ∙ ap (λ (m : ℕ). latest None m (kept 0 None s es)) (omega (arith, counted))
    ∙ sym (last_change-kept None (get_or (times_of es) k 0) 0 None s es tt)

-- the samples that are held are those of the events
samples-held : (bytes : List ℕ) (n : ℕ) (es : List Event) (new : State) → Holds bytes (nothing n) es new → map (λ time. map (λ signal. value_at es signal time) (range_with_len 0 n)) (times_of es) ≡ rows_of bytes new.samples new.changes
samples-held bytes n es new holds =
    let counted = holds.samples in
    let signals = holds.count ∙ length-replicate n [] in
    fill_by_all (λ k. map (value_of bytes k) new.changes) (map (λ time. map (λ signal. value_at es signal time) (range_with_len 0 n)) (times_of es)) new.samples []
    (length-map (times_of es) (λ time. map (λ signal. value_at es signal time) (range_with_len 0 n)) ∙ omega (arith, counted))
    (λ k in_samples. let below : k < length (times_of es) = omega (arith, counted, in_samples) in
    get_or-map (λ time. map (λ signal. value_at es signal time) (range_with_len 0 n)) (times_of es) k 0 [] below
    ∙ sym (fill_by_all (λ signal. value_at es signal (get_or (times_of es) k 0)) (map (value_of bytes k) new.changes) n None
    (length-map new.changes (value_of bytes k) ∙ signals)
    (λ s in_signals. get_or-map (value_of bytes k) new.changes s [] None (omega (arith, in_signals, signals)) ∙ value-held bytes n es new k s holds below in_signals)))

-- the walk and the reading of all tokens
whole : (bytes : List ℕ) → AgreeWhole bytes (unless (first_fault (end_of bytes) [] (tokens bytes)) (standing_by (tokens bytes), events_after [] (tokens bytes))) (defining nothing_declared Ready (all_tokens bytes))
whole bytes =
    subst (λ said. AgreeWhole bytes said (defining nothing_declared Ready (all_tokens bytes))) (walk-said (end_of bytes) [] (tokens bytes))
    (defining_agrees (end_of bytes) bytes nothing_declared Ready (tokens bytes) (placed bytes))

-- what a reading without a fault says
record Read (bytes : List ℕ) (fault : Option VcdFault) (standing : Standing) (events : List Event) (out : Outcome) : Type 0 where
  none : fault ≡ None
  declared : out.declared ≡ standing.declared
  holds : Holds bytes (nothing (length standing.declared.codes)) events (state_in out)

by_fault : (bytes : List ℕ) (fault : Option VcdFault) (standing : Standing) (events : List Event) (out : Outcome) → AgreeWhole bytes (unless fault (standing, events)) (Ok out) → Read bytes fault standing events out
by_fault bytes None standing events out agree = record { none = refl; declared = agree.0; holds = agree.1 }
by_fault bytes (Some found) standing events out agree = absurd agree

read_whole : (bytes : List ℕ) (out : Outcome) → defining nothing_declared Ready (all_tokens bytes) ≡ Ok out → Read bytes (first_fault (end_of bytes) [] (tokens bytes)) (standing_by (tokens bytes)) (events_after [] (tokens bytes)) out
read_whole bytes out read = by_fault bytes _ _ _ out (subst (λ found. AgreeWhole bytes (unless (first_fault (end_of bytes) [] (tokens bytes)) (standing_by (tokens bytes), events_after [] (tokens bytes))) found) read (whole bytes))

-- where the samples begin is kept
starts-read : (bytes : List ℕ) (out : Outcome) → defining nothing_declared Ready (all_tokens bytes) ≡ Ok out → out.starts ≡ offsets (begun Defining Ready (tokens bytes))
starts-read bytes out read = run-starts (end_of bytes) nothing_declared Defining [] [] Ready (tokens bytes) out read

pub says_recording : (unknown : Unknown) (bytes : List ℕ) (d : Declared) (told : Told) (changes : List (List Change)) (starts : List ℕ) → defining nothing_declared Ready (all_tokens bytes) ≡ Ok (record { declared = d; part = Telling told; changes = changes; starts = starts }) →
    reading unknown bytes ≡ Ok (kept_as d.names bytes told.samples changes starts unknown)
says_recording unknown bytes d told changes starts read =
    let found = read_whole bytes _ read in
    ap (λ (fault : Option VcdFault). unless fault (sampled_of unknown (dump_by (tokens bytes)))) found.none
    ∙ ap (λ (rows : List (List (Option (List ℕ)))). Ok (record { names = (standing_by (tokens bytes)).declared.names; samples = rows; times = times_of (events_after [] (tokens bytes)); places = places_after [] (tokens bytes); unknown = unknown })) (samples-held bytes (length (standing_by (tokens bytes)).declared.codes) (events_after [] (tokens bytes)) (state_of told changes) found.holds)
    ∙ ap (λ (times : List ℕ). Ok (record { names = (standing_by (tokens bytes)).declared.names; samples = rows_of bytes told.samples changes; times = times; places = places_after [] (tokens bytes); unknown = unknown }))
    (times-kept bytes ∙ ap (map (time_at bytes)) (sym (starts-read bytes _ read)))
    ∙ ap (λ (places : List Place). Ok (record { names = (standing_by (tokens bytes)).declared.names; samples = rows_of bytes told.samples changes; times = map (time_at bytes) starts; places = places; unknown = unknown }))
    (places-kept bytes ∙ ap (map (place_at bytes)) (sym (starts-read bytes _ read)))
    ∙ ap (λ (known : Declared). Ok (kept_as known.names bytes told.samples changes starts unknown)) (sym found.declared)

pub sound_recording : (bytes : List ℕ) (d : Declared) (told : Told) (changes : List (List Change)) (starts : List ℕ) → length bytes ≤ file_limit → defining nothing_declared Ready (all_tokens bytes) ≡ Ok (record { declared = d; part = Telling told; changes = changes; starts = starts }) →
    All (λ name. name.signal < length d.codes) d.names → AreAlike d.names → IsSound d.names bytes told.samples changes starts
sound_recording bytes d told changes starts short read within alike =
    let found = read_whole bytes _ read in
    let kept = starts-read bytes _ read in
    let sized = ap length kept ∙ length-map (begun Defining Ready (tokens bytes)) (λ (t : PlacedToken). t.at) in
    let samples = run-samples (end_of bytes) nothing_declared Defining [] [] Ready (tokens bytes) _ read in
    let codes = ap (λ (known : Declared). length known.codes) found.declared in
    let count = found.holds.count ∙ length-replicate (length (standing_by (tokens bytes)).declared.codes) [] in
    record {
      few = found.holds.few (omega arith);
      inside = found.holds.inside (All-replicate (λ (list : List Change). All (λ (change : Change). (0 < change.len) × (change.start + change.len ≤ length bytes)) list) (length (standing_by (tokens bytes)).declared.codes) [] (All-nil (λ (change : Change). (0 < change.len) × (change.start + change.len ≤ length bytes))));
      signals = λ i name in_range. let low = within i name in_range in omega (arith, low, codes, count);
      alike = alike;
      short = short;
      counted = omega (arith, sized, samples);
      within = subst (All (λ (start : ℕ). start ≤ length bytes)) (sym kept) (begun-within bytes Defining Ready (tokens bytes) (placed bytes));
    }

by_error : (bytes : List ℕ) (fault : Option VcdFault) (standing : Standing) (events : List Event) (found : VcdFault) → AgreeWhole bytes (unless fault (standing, events)) (Err found) → fault ≡ Some found
by_error bytes None standing events found agree = absurd agree
by_error bytes (Some same) standing events found agree = ap Some agree

pub says_fault : (unknown : Unknown) (bytes : List ℕ) (found : VcdFault) → defining nothing_declared Ready (all_tokens bytes) ≡ Err found → reading unknown bytes ≡ Err found
says_fault unknown bytes found halts =
    let first : first_fault (end_of bytes) [] (tokens bytes) ≡ Some found =
    by_error bytes _ _ _ found (subst (λ out. AgreeWhole bytes (unless (first_fault (end_of bytes) [] (tokens bytes)) (standing_by (tokens bytes), events_after [] (tokens bytes))) out) halts (whole bytes)) in
    ap (λ (fault : Option VcdFault). unless fault (sampled_of unknown (dump_by (tokens bytes)))) first

-- one place for each time that is listed
counted-run : (bytes : List ℕ) (standing : Standing) (events : List Event) (out : Result Outcome VcdFault) → defining nothing_declared Ready (all_tokens bytes) ≡ out → AgreeWhole bytes (Ok (standing, events)) out → length (times_of events) ≡ length (begun Defining Ready (tokens bytes))
counted-run bytes standing events (Ok out) read agree =
    let samples = run-samples (end_of bytes) nothing_declared Defining [] [] Ready (tokens bytes) out read in
    let listed = agree.1.samples in
    omega (arith, samples, listed)
counted-run bytes standing events (Err fault) read agree = absurd agree

counted-fault : (bytes : List ℕ) (said recording : Sampled) (standing : Standing) (events : List Event) (fault : Option VcdFault) → unless fault said ≡ Ok recording → AgreeWhole bytes (unless fault (standing, events)) (defining nothing_declared Ready (all_tokens bytes)) →
    (said ≡ recording) × (length (times_of events) ≡ length (begun Defining Ready (tokens bytes)))
counted-fault bytes said recording standing events None read agree = (cc, counted-run bytes standing events (defining nothing_declared Ready (all_tokens bytes)) refl agree)
counted-fault bytes said recording standing events (Some fault) read agree = absurd (let wrong : Err fault ≡ Ok recording = read in cc)

-- there is a place for each sample
pub places-counted : (unknown : Unknown) (bytes : List ℕ) (recording : Sampled) → reading unknown bytes ≡ Ok recording → length recording.places ≡ length recording.samples
places-counted unknown bytes recording read =
    let events = events_after [] (tokens bytes) in
    let found = counted-fault bytes (sampled_of unknown (dump_by (tokens bytes))) recording (standing_by (tokens bytes)) events (first_fault (end_of bytes) [] (tokens bytes)) read (whole bytes) in
    let begins = begun Defining Ready (tokens bytes) in
    let signals = length (standing_by (tokens bytes)).declared.codes in
    let rows = length-map (times_of events) (λ time. map (λ signal. value_at events signal time) (range_with_len 0 signals)) in
    let places = ap length (places-kept bytes) ∙ length-map (offsets begins) (place_at bytes) ∙ length-map begins (λ (t : PlacedToken). t.at) in
    sym (ap (λ (r : Sampled). length r.places) found.0) ∙ places ∙ sym found.1 ∙ sym rows ∙ ap (λ (r : Sampled). length r.samples) found.0

-- there is a time for each sample
pub times-counted : (unknown : Unknown) (bytes : List ℕ) (recording : Sampled) → reading unknown bytes ≡ Ok recording → length recording.times ≡ length recording.samples
times-counted unknown bytes recording read =
    let events = events_after [] (tokens bytes) in
    let signals = length (standing_by (tokens bytes)).declared.codes in
    let is = (reading-faultless unknown bytes recording read).1 in
    let rows = length-map (times_of events) (λ time. map (λ signal. value_at events signal time) (range_with_len 0 signals)) in
    sym (ap (λ (r : Sampled). length r.times) is) ∙ sym rows ∙ ap (λ (r : Sampled). length r.samples) is

-- times do not fall where there is no fault
steady-run : (bytes : List ℕ) (standing : Standing) (events : List Event) (out : Result Outcome VcdFault) → AgreeWhole bytes (Ok (standing, events)) out → never_fall None events ≡ true
steady-run bytes standing events (Ok out) agree = agree.1.steady
steady-run bytes standing events (Err fault) agree = absurd agree

steady-read : (bytes : List ℕ) → IsFaultless (tokens bytes) → never_fall None (events_after [] (tokens bytes)) ≡ true
steady-read bytes none =
    let out = defining nothing_declared Ready (all_tokens bytes) in
    steady-run bytes (standing_by (tokens bytes)) (events_after [] (tokens bytes)) out
    (subst (λ (fault : Option VcdFault). AgreeWhole bytes (unless fault (standing_by (tokens bytes), events_after [] (tokens bytes))) out) (faultless-none (end_of bytes) (tokens bytes) none) (whole bytes))

-- a later sample has a higher time
pub later-higher : (unknown : Unknown) (bytes : List ℕ) (recording : Sampled) → reading unknown bytes ≡ Ok recording → (sample later : ℕ) → sample < later → later < length recording.samples →
    time_of_sample recording sample < time_of_sample recording later
later-higher unknown bytes recording read sample later lower in_samples =
    let is = reading-faultless unknown bytes recording read in
    let times : times_of (events_after [] (tokens bytes)) ≡ recording.times = ap (λ (r : Sampled). r.times) is.1 in
    let counted = times-counted unknown bytes recording read in
    subst (λ (all : List ℕ). get_or all sample 0 < get_or all later 0) times
    (times-rise None (events_after [] (tokens bytes)) sample later (steady-read bytes is.0) lower (omega (arith, in_samples, counted, ap length times)))

-- a fault of the text is none of the shelf
abbrev IsOfText : VcdFault → Type 0
IsOfText vcd.TooLong = ⊥
IsOfText vcd.ReadFault = ⊥
IsOfText fault = Unit {0}

abbrev EachOfText : Option (Place → VcdFault) → Type 0
EachOfText None = Unit {0}
EachOfText (Some fault) = (place : Place) → IsOfText (fault place)

one_of_text : (broken : Bool) (fault : Place → VcdFault) (rest : Option (Place → VcdFault)) → ((place : Place) → IsOfText (fault place)) → EachOfText rest → EachOfText (cond broken (Some fault) rest)
one_of_text true fault rest here later = here
one_of_text false fault rest here later = later

rule_of_text : (d : Declared) (p : Part) (o : Open) (text : List ℕ) → EachOfText (rule_at d p o text)
rule_of_text d p o text = search (rules, one_of_text) depth 60

-- what is read is a fault of the text, where it is one
abbrev ErrOfText : {A : Type 0} → Result A VcdFault → Type 0
ErrOfText (Ok value) = Unit {0}
ErrOfText (Err fault) = IsOfText fault

end_of_text : (end : Place) (may : Bool) (out : Outcome) → ErrOfText (cond may (Ok out) (Err (vcd.EndsInside end)))
end_of_text end true out = tt
end_of_text end false out = tt

raised_of_text : (rule : Option (Place → VcdFault)) (place : Place) (later : Result Outcome VcdFault) → EachOfText rule → ErrOfText later → ErrOfText (raised rule place later)
raised_of_text None place later each rest = rest
raised_of_text (Some fault) place later each rest = each place

run_of_text : (end : Place) (d : Declared) (p : Part) (changes : List (List Change)) (starts : List ℕ) (o : Open) (ts : List PlacedToken) → ErrOfText (run_to end d p changes starts o ts)
run_of_text end d p changes starts o [] = end_of_text end (may_end p o) (record { declared = d; part = p; changes = changes; starts = starts })
run_of_text end d p changes starts o (t ∷ ts) =
    raised_of_text (rule_at d p o t.text) t.place _ (rule_of_text d p o t.text)
    (run_of_text end (declared_after d p o t.text) (part_after p o t.text) (changes_after d p changes o t.at t.text) (starts_after p starts o t.at t.text) (opened_after o t.at t.text) ts)

by_fault_read : (unknown : Unknown) (bytes : List ℕ) (found : VcdFault) → IsOfText found → reading unknown bytes ≡ Err found → IsReadFault unknown bytes found
by_fault_read unknown bytes vcd.TooLong of_text read = of_text
by_fault_read unknown bytes vcd.ReadFault of_text read = of_text
by_fault_read unknown bytes vcd.NoMemory of_text read = tt
by_fault_read unknown bytes found of_text read = read

-- where the reading halts, the answer is the text's first fault, or memory was refused
pub fault_read : (unknown : Unknown) (bytes : List ℕ) (found : VcdFault) → Halts found (defining nothing_declared Ready (all_tokens bytes)) → IsReadFault unknown bytes found
fault_read unknown bytes found (inl memory) = subst (IsReadFault unknown bytes) (sym memory) tt
fault_read unknown bytes found (inr halts) =
    by_fault_read unknown bytes found (subst (ErrOfText {A = Outcome}) halts (run_of_text (end_of bytes) nothing_declared Defining [] [] Ready (tokens bytes))) (says_fault unknown bytes found halts)
