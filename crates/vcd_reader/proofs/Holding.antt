-- What is held of the body, against the events that it says.
use Rattle.std.proofs.Common.{◌≡◌, ◌≢◌, ℕ, suc, ◌+◌, ◌<◌, ◌≤◌, Bool, true, false, not, ◌&&◌, cond, nat_le, eqb, List, [], ◌∷◌, ◌++◌, map, length, get_or, Option, None, Some, refl, sym, ap, subst, ◌∙◌, arith, append_assoc, get_or-set_same, get_or-set_other}
use Rattle.std.proofs.lemmas.Bool.{leb-false, cond-true, cond-false, eqb-true, eqb-false}
use Rattle.std.proofs.lemmas.List.{append-nil, map-append, length-set}
use Rattle.std.proofs.lemmas.List.Elements.{All-set, All-push}
use Rattle.std.specs.List.{All}
use Rattle.std.specs.Option.{option_to_list}
use Rattle.vcd_reader.specs.declared.changes.Change.{Change}
use Rattle.vcd_reader.proofs.Values.{Kept, kept}
use Rattle.vcd_reader.specs.Events.{Event, At, Gets, times_after, is_last, falls, never_fall}
use Rattle.vcd_reader.specs.Rows.{AreInside}
use Rattle.vcd_reader.specs.Rules.{sample_limit}
use Rattle.vcd_reader.specs.Running.{with_change}
use Rattle.vcd_reader.specs.Changes.{letters_in}

-- a change with its letters
abbrev pub lettered : List ℕ → Change → Kept
lettered bytes change = record { sample = change.sample; value = letters_in bytes change }

-- a last time, how many samples were begun, and the changes of each signal
pub record State : Type 0 where
  pub last : Option ℕ
  pub samples : ℕ
  pub changes : List (List Change)

-- what is held after some events
pub record Holds (bytes : List ℕ) (old : State) (es : List Event) (new : State) : Type 0 where
  pub samples : new.samples ≡ old.samples + length (times_after old.last es)
  pub steady : never_fall old.last es ≡ true
  pub count : length new.changes ≡ length old.changes
  pub changes : (s : ℕ) → s < length old.changes → map (lettered bytes) (get_or new.changes s []) ≡ map (lettered bytes) (get_or old.changes s []) ++ kept old.samples old.last s es
  pub inside : AreInside bytes old.changes → AreInside bytes new.changes
  pub few : old.samples ≤ sample_limit → new.samples ≤ sample_limit

-- a time may come
pub record TimeComes (old : State) (time : ℕ) : Type 0 where
  pub steady : falls old.last time ≡ false
  pub few : (not (is_last old.last time) && nat_le sample_limit old.samples) ≡ false

abbrev pub with_time : State → ℕ → State
with_time old time = record { last = Some time; samples = cond (is_last old.last time) old.samples (old.samples + 1); changes = old.changes }

-- a change's letters stand in the text, where its change says
pub record ChangeComes (bytes : List ℕ) (old : State) (signal : ℕ) (value : List ℕ) (change : Change) : Type 0 where
  pub declared : signal < length old.changes
  pub samples : change.sample ≡ old.samples
  pub letters : letters_in bytes change ≡ value
  pub some : 0 < change.len
  pub within : change.start + change.len ≤ length bytes

abbrev pub after_change : State → ℕ → Change → State
after_change old signal change = record { last = old.last; samples = old.samples; changes = with_change old.changes signal change }

-- one event, or none
pub data Step (bytes : List ℕ) (old : State) : Option Event → State → Type 0 where
  Stays : Step bytes old None old
  Passes : (time : ℕ) → TimeComes old time → Step bytes old (Some (At time)) (with_time old time)
  Puts : (signal : ℕ) (value : List ℕ) (change : Change) → ChangeComes bytes old signal value change → Step bytes old (Some (Gets signal value)) (after_change old signal change)

-- the changes of each signal, after one more of some signal
by_signal : (bytes : List ℕ) (changes : List (List Change)) (change : Change) (samples signal s : ℕ) (value : List ℕ) (rest : List Kept) (is : Bool) → eqb signal s ≡ is → signal < length changes → lettered bytes change ≡ record { sample = samples; value = value } →
    map (lettered bytes) (get_or (with_change changes signal change) s []) ++ rest ≡ map (lettered bytes) (get_or changes s []) ++ cond is (record { sample = samples; value = value } ∷ rest) rest
by_signal bytes changes change samples signal s value rest true same in_range letters =
    let here : signal ≡ s = eqb-true signal s same in
    let list : get_or (with_change changes signal change) signal [] ≡ get_or changes signal [] ++ change ∷ [] = get_or-set_same changes signal (get_or changes signal [] ++ change ∷ []) [] in_range in
    let all : map (lettered bytes) (get_or (with_change changes signal change) signal []) ≡ map (lettered bytes) (get_or changes signal []) ++ record { sample = samples; value = value } ∷ [] =
    ap (map (lettered bytes)) list ∙ map-append (lettered bytes) (get_or changes signal []) (change ∷ []) ∙ ap (λ (x : Kept). map (lettered bytes) (get_or changes signal []) ++ x ∷ []) letters in
    subst (λ (n : ℕ). map (lettered bytes) (get_or (with_change changes signal change) n []) ++ rest ≡ map (lettered bytes) (get_or changes n []) ++ record { sample = samples; value = value } ∷ rest) here
    (ap (λ (xs : List Kept). xs ++ rest) all ∙ append_assoc (map (lettered bytes) (get_or changes signal [])) (record { sample = samples; value = value } ∷ []) rest)
by_signal bytes changes change samples signal s value rest false other in_range letters =
    let differ : s ≢ signal = λ (same : s ≡ signal). eqb-false signal s other (sym same) in
    ap (λ (list : List Change). map (lettered bytes) list ++ rest) (get_or-set_other changes signal s (get_or changes signal [] ++ change ∷ []) [] differ)

-- one more change that stands in the text
put_inside : (bytes : List ℕ) (changes : List (List Change)) (signal : ℕ) (change : Change) → signal < length changes → AreInside bytes changes → 0 < change.len → change.start + change.len ≤ length bytes → AreInside bytes (with_change changes signal change)
put_inside bytes changes signal change in_range inside some within =
    All-set (λ list. All (λ (x : Change). (0 < x.len) × (x.start + x.len ≤ length bytes)) list) changes signal (get_or changes signal [] ++ change ∷ [])
    (All-push (λ (x : Change). (0 < x.len) × (x.start + x.len ≤ length bytes)) (get_or changes signal []) change (inside signal [] in_range) (some, within)) inside

-- a time that equals the last begins no sample, and another one does
by_time : (bytes : List ℕ) (old : State) (time : ℕ) (es : List Event) (new : State) (same : Bool) → is_last old.last time ≡ same → (same ≡ true → old.last ≡ Some time) → falls old.last time ≡ false → (not same && nat_le sample_limit old.samples) ≡ false →
    Holds bytes (record { last = Some time; samples = cond same old.samples (old.samples + 1); changes = old.changes }) es new → Holds bytes old (At time ∷ es) new
by_time bytes old time es new true is equal steady few holds =
    let last : old.last ≡ Some time = equal refl in
    record {
      samples = holds.samples ∙ ap (λ (o : Option ℕ). old.samples + length (times_after o es)) (sym last) ∙ ap (λ (ts : List ℕ). old.samples + length ts) (sym (cond-true (is_last old.last time) (times_after old.last es) _ is));
      steady = cond-false (falls old.last time) false _ steady ∙ holds.steady;
      count = holds.count;
      changes = λ s in_range. holds.changes s in_range
          ∙ ap (λ (o : Option ℕ). map (lettered bytes) (get_or old.changes s []) ++ kept old.samples o s es) (sym last)
          ∙ ap (λ (xs : List Kept). map (lettered bytes) (get_or old.changes s []) ++ xs) (sym (cond-true (is_last old.last time) (kept old.samples old.last s es) _ is));
      inside = holds.inside;
      few = holds.few;
    }
by_time bytes old time es new false is equal steady few holds =
    let listed : times_after old.last (At time ∷ es) ≡ time ∷ times_after (Some time) es = cond-false (is_last old.last time) _ _ is in
    let longer : length (times_after old.last (At time ∷ es)) ≡ suc (length (times_after (Some time) es)) = ap length listed in
    let sum = holds.samples in
    let below = leb-false sample_limit old.samples few in
    record {
      samples = omega (arith, sum, longer);
      steady = cond-false (falls old.last time) false _ steady ∙ holds.steady;
      count = holds.count;
      changes = λ s in_range. holds.changes s in_range
          ∙ ap (λ (n : ℕ). map (lettered bytes) (get_or old.changes s []) ++ kept n (Some time) s es) (omega arith)
          ∙ ap (λ (xs : List Kept). map (lettered bytes) (get_or old.changes s []) ++ xs) (sym (cond-false (is_last old.last time) (kept old.samples old.last s es) _ is));
      inside = holds.inside;
      few = λ low. holds.few (omega (arith, below));
    }

pub equal_last : (last : Option ℕ) (time : ℕ) → is_last last time ≡ true → last ≡ Some time
equal_last None time same = absurd (let wrong : false ≡ true = same in cc)
equal_last (Some l) time same = ap Some (eqb-true l time same)

-- one event more, or none
pub one_more : (bytes : List ℕ) (old : State) (event : Option Event) (next : State) (es : List Event) (new : State) → Step bytes old event next → Holds bytes next es new → Holds bytes old (option_to_list event ++ es) new
one_more bytes old _ _ es new Stays holds = holds
one_more bytes old _ _ es new (Passes time comes) holds = by_time bytes old time es new (is_last old.last time) refl (equal_last old.last time) comes.steady comes.few holds
one_more bytes old _ _ es new (Puts signal value change comes) holds =
    let letters : lettered bytes change ≡ record { sample = old.samples; value = value } =
    ap (λ (n : ℕ). record { sample = n; value = letters_in bytes change }) comes.samples ∙ ap (λ (v : List ℕ). record { sample = old.samples; value = v }) comes.letters in
    let same = length-set old.changes signal (get_or old.changes signal [] ++ change ∷ []) in
    record {
      samples = holds.samples;
      steady = holds.steady;
      count = holds.count ∙ same;
      changes = λ s in_range. holds.changes s (omega (arith, same, in_range)) ∙ by_signal bytes old.changes change old.samples signal s value (kept old.samples old.last s es) (eqb signal s) refl comes.declared letters;
      inside = λ inside. holds.inside (put_inside bytes old.changes signal change comes.declared inside comes.some comes.within);
      few = holds.few;
    }

-- nothing more
pub no_more : (bytes : List ℕ) (old : State) → Holds bytes old [] old
no_more bytes old = record {
  samples = omega arith;
  steady = refl;
  count = refl;
  changes = λ s in_range. sym (append-nil (map (lettered bytes) (get_or old.changes s [])));
  inside = λ inside. inside;
  few = λ few. few;
}
