-- What is written together can be read.
use Rattle.std.proofs.Common.{◌≡◌, ◌∙◌, refl, sym, ap, subst, ℕ, zero, suc, ◌+◌, ◌-◌, ◌<◌, ◌≤◌, Bool, true, false, not, List, [], ◌∷◌, ◌++◌, length, length-append, map, take, drop, Option, None, Some, arith, inl, inr}
use Rattle.std.specs.Prelude.{All, ◌&&◌, ◌==◌, cond, nat_le, nat_lt, slice_index_or}
use Rattle.std.specs.List.{flat_map, range_with_len}
use Rattle.std.specs.Option.{option_and_then, option_map}
use Rattle.std.specs.Str.{bytes_eq}
use Rattle.std.proofs.lemmas.Bool.{and_parts, cases_lt, leb-true, ltb-true}
use Rattle.std.proofs.Math.ListN.{get_or-eq_default}
use Rattle.std.proofs.lemmas.List.{get_or-take, length-take}
use Rattle.std.proofs.lemmas.List.Elements.{All-head, All-tail}
use Rattle.std.proofs.lemmas.List.FromFn.{length-map-range_with_len, get_or-map-range_with_len}
use Rattle.std.proofs.lemmas.List.Sums.{sum_by-append}
use Rattle.netlist.specs.Design.{Design}
use Rattle.psl_base.specs.Bytes.{is_white}
use Rattle.psl_base.specs.Decimals.{are_digits, decimal_upto, leads_with_zero, number_after, plain_upto}
use Rattle.psl_layer_theory.specs.Buses.{Indexed, index_before_end, index_most, indexed, last_bracket}
use Rattle.psl_tree.specs.declared.name.Name.{Name}
use Rattle.trace.specs.Trace.{first_text}
use Rattle.trace.specs.Vectors.{IsVector, bits_in, single}
use Rattle.trace.specs.Words.{HasWords, IsWord}
use Rattle.trace.specs.declared.vectors.Vector.{Vector}
use Rattle.trace_buses.specs.Buses.{Span, all_buses, alone, bit_name, bus_at, bus_behind, bus_from, bus_of, exact_or_alone, first_names, first_of, found_kept, gathered, is_exact, kept_bus, may_be_bus, name_text, signals_down, span_behind, vector_of, vectors_with, widened, with_name, with_number, written, written_at}
use Rattle.vcd_reader.specs.Shapes.{is_end}

-- ---- the first names

pub named-all : (design : Design) → length (first_names design) ≡ design.signals
named-all design = length-map-range_with_len (λ (signal : ℕ). bit_name (first_text design.names signal) signal) 0 design.signals

pub named-first : (design : Design) (signal : ℕ) → signal < design.signals → name_text (first_names design) signal ≡ first_text design.names signal
named-first design signal within =
    ap (λ (name : Name). name.text) (get_or-map-range_with_len (λ (s : ℕ). bit_name (first_text design.names s) s) 0 design.signals signal signal (bit_name [] 0) within (omega arith))

-- names that are words
abbrev pub AreWords : List Name → Type 0
AreWords names = (signal : ℕ) → signal < length names → IsWord (name_text names signal)

pub words-are : (design : Design) → HasWords design → AreWords (first_names design)
words-are design words signal within =
    let below : signal < design.signals = omega (arith, within, named-all design) in
    subst IsWord (sym (named-first design signal below)) (words signal below)

-- ---- indices

some-is : {A : Type 0} (a b : A) → Some a ≡ Some b → a ≡ b
some-is a b e = cc

number-most : (most : ℕ) (text : List ℕ) (number : ℕ) → decimal_upto most text ≡ Some number → number ≤ most
number-most most text number is = by (are_digits text && nat_le (number_after 0 text) most) refl is
  where
    by : (b : Bool) → (are_digits text && nat_le (number_after 0 text) most) ≡ b → cond b (Some (number_after 0 text)) None ≡ Some number → number ≤ most
    by true e f =
        let low = leb-true (number_after 0 text) most (and_parts (are_digits text) _ e).1 in
        let same : number_after 0 text ≡ number = some-is _ _ f in
        omega (arith, low, same)
    by false e f = cc

plain-most : (text : List ℕ) (number : ℕ) → plain_upto index_most text ≡ Some number → number ≤ index_most
plain-most text number is = by (leads_with_zero text) is
  where
    by : (b : Bool) → cond b None (decimal_upto index_most text) ≡ Some number → number ≤ index_most
    by true e = cc
    by false e = number-most index_most text number e

index-most : (text : List ℕ) (number : ℕ) → index_before_end text ≡ Some number → number ≤ index_most
index-most text number is = by (nat_lt 0 (length text) && (slice_index_or text (length text - 1) 0 == 93)) is
  where
    by : (b : Bool) → cond b (plain_upto index_most (take (length text - 1) text)) None ≡ Some number → number ≤ index_most
    by true e = plain-most (take (length text - 1) text) number e
    by false e = cc

-- an index and the text before it
record IsSplit (name : List ℕ) (found : Indexed) : Type 0 where
  at : ℕ
  text : found.text ≡ take at name
  most : found.index ≤ index_most

split-parts : (name : List ℕ) (at : ℕ) (index : Option ℕ) (found : Indexed) → (((number : ℕ) → index ≡ Some number → number ≤ index_most))
    → option_map {U = Indexed} (λ (i : ℕ). record { text = take at name; index = i }) index ≡ Some found → IsSplit name found
split-parts name at None found most is = cc
split-parts name at (Some index) found most is =
    let same : record { text = take at name; index = index } ≡ found = some-is _ _ is in
    record {
      at = at;
      text = sym (ap (λ (f : Indexed). f.text) same);
      most = subst (λ (n : ℕ). n ≤ index_most) (ap (λ (f : Indexed). f.index) same) (most index refl);
    }

split-is : (name : List ℕ) (found : Indexed) → indexed name ≡ Some found → IsSplit name found
split-is name found is = by (last_bracket None 0 name) is
  where
    by : (bracket : Option ℕ)
        → option_and_then {U = Indexed} (λ (at : ℕ). option_map {U = Indexed} (λ (index : ℕ). record { text = take at name; index = index }) (index_before_end (drop (at + 1) name))) bracket ≡ Some found
        → IsSplit name found
    by None e = cc
    by (Some at) e = split-parts name at (index_before_end (drop (at + 1) name)) found (λ number f. index-most (drop (at + 1) name) number f) e

solid-take : (count : ℕ) (text : List ℕ) → All (λ byte. is_white byte ≡ false) text → All (λ byte. is_white byte ≡ false) (take count text)
solid-take count text each place other within =
    let long = length-take count text in
    subst (λ (byte : ℕ). is_white byte ≡ false) (sym (get_or-take count text place other (omega (arith, within, long)))) (each place other (omega (arith, within, long)))

-- ---- spans

-- the indices of a span are no higher than the highest
abbrev IsLow : Span → Type 0
IsLow span = (span.low ≤ index_most) × (span.high ≤ index_most)

one-low : (name : Name) (text : List ℕ) (old : Option Span) → ((span : Span) → old ≡ Some span → IsLow span) → (span : Span) → with_name text name.signal (indexed name.text) old ≡ Some span → IsLow span
one-low name text old before span is = by (indexed name.text) refl is
  where
    older : (last : Option Span) → ((s : Span) → last ≡ Some s → IsLow s) → (index : ℕ) → index ≤ index_most → IsLow (widened name.signal index last)
    older None low index most = (most, most)
    older (Some s) low index most =
        let these = low s refl in
        (omega (arith, most, these.0), omega (arith, most, these.1))

    chosen : (b : Bool) (found : Indexed) → found.index ≤ index_most → cond b (Some (widened name.signal found.index old)) old ≡ Some span → IsLow span
    chosen true found low e = subst IsLow (some-is _ _ e) (older old before found.index low)
    chosen false found low e = before span e

    by : (found : Option Indexed) → indexed name.text ≡ found → with_name text name.signal found old ≡ Some span → IsLow span
    by None e f = before span f
    by (Some found) e f = chosen (bytes_eq found.text text) found (split-is name.text found e).most f

span-low : (names : List Name) (text : List ℕ) (span : Span) → span_behind names text ≡ Some span → IsLow span
span-low [] text span is = cc
span-low (name ∷ names) text span is = one-low name text (span_behind names text) (λ before e. span-low names text before e) span is

-- ---- a bus

one-longer : (front : Option (List ℕ)) (last : Option ℕ) (count : ℕ) → ((numbers : List ℕ) → front ≡ Some numbers → length numbers ≡ count) → (numbers : List ℕ) → with_number front last ≡ Some numbers → length numbers ≡ suc count
one-longer None None count before numbers is = cc
one-longer None (Some last) count before numbers is = cc
one-longer (Some front) None count before numbers is = cc
one-longer (Some front) (Some last) count before numbers is =
    let long = before front refl in
    ap (λ (ns : List ℕ). length ns) (sym (some-is _ _ is)) ∙ (let sum : length (front ++ last ∷ []) ≡ suc count = omega (arith, long, length-append front (last ∷ [])) in sum)

gathered-length : (number : ℕ → Option ℕ) (count : ℕ) (numbers : List ℕ) → gathered number count ≡ Some numbers → length numbers ≡ count
gathered-length number zero numbers is = ap (λ (ns : List ℕ). length ns) (sym (some-is _ _ is))
gathered-length number (suc count) numbers is = one-longer (gathered number count) (number count) count (λ front e. gathered-length number count front e) numbers is

vector-is : (text : List ℕ) (span : Span) (signals : Option (List ℕ)) (bus : Vector) → vector_of text span signals ≡ Some bus
    → (found : List ℕ) × (signals ≡ Some found) × (bus ≡ record { text = text; high = span.high; low = span.low; signals = found })
vector-is text span None bus is = cc
vector-is text span (Some signals) bus is = (signals, refl, sym (some-is _ _ is))

not-true : (b : Bool) → not b ≡ true → b ≡ false
not-true true e = cc
not-true false e = refl

bus-of-is : (names : List Name) (text : List ℕ) (span : Span) (bus : Vector) → All (λ byte. is_white byte ≡ false) text → IsLow span → bus_of names text span ≡ Some bus → IsVector bus
bus-of-is names text span bus solid low is = by (may_be_bus names text span) refl is
  where
    by : (b : Bool) → may_be_bus names text span ≡ b → cond b (vector_of text span (signals_down names text span.high (span.high - span.low + 1))) None ≡ Some bus → IsVector bus
    by false e f = cc
    by true e f =
        let falls = and_parts (nat_lt span.low span.high) _ e in
        let some = and_parts (nat_lt 0 (length text)) _ falls.1 in
        let ends = and_parts (not (is_end text)) _ some.1 in
        let parts = vector-is text span (signals_down names text span.high (span.high - span.low + 1)) bus f in
        subst IsVector (sym parts.2)
        (record {
          word = record { some = ltb-true 0 (length text) some.0; solid = solid };
          either = inr (record {
            falls = ltb-true span.low span.high falls.0;
            most = low.1;
            each = gathered-length _ (span.high - span.low + 1) parts.0 parts.1;
            goes_on = not-true (is_end text) ends.0;
          });
        })

bus-is : (names : List Name) (signal : ℕ) (bus : Vector) → AreWords names → signal < length names → bus_at names signal ≡ Some bus → IsVector bus
bus-is names signal bus words within is = by (indexed (name_text names signal)) refl is
  where
    at_text : (found : Indexed) → IsSplit (name_text names signal) found → All (λ byte. is_white byte ≡ false) found.text
    at_text found split = subst (λ (t : List ℕ). All (λ byte. is_white byte ≡ false) t) (sym split.text) (solid-take split.at (name_text names signal) (words signal within).solid)

    first : (b : Bool) (found : Indexed) (span : Span) → IsSplit (name_text names signal) found → span_behind names found.text ≡ Some span → cond b (bus_of names found.text span) None ≡ Some bus → IsVector bus
    first true found span split e f = bus-of-is names found.text span bus (at_text found split) (span-low names found.text span e) f
    first false found span split e f = cc

    spanned : (found : Indexed) (span : Option Span) → IsSplit (name_text names signal) found → span_behind names found.text ≡ span → bus_from names signal found.text span ≡ Some bus → IsVector bus
    spanned found None split e f = cc
    spanned found (Some span) split e f = first (span.first == signal) found span split e f

    by : (found : Option Indexed) → indexed (name_text names signal) ≡ found → bus_behind names signal found ≡ Some bus → IsVector bus
    by None e f = cc
    by (Some found) e f = spanned found (span_behind names found.text) (split-is (name_text names signal) found e) refl f

-- ---- all of them

single-is : (text : List ℕ) (signal : ℕ) → IsWord text → IsVector (single text signal)
single-is text signal word = record { word = word; either = inl (record { high = refl; low = refl; one = refl }) }

all-none : All IsVector []
all-none place other within = absurd (omega (arith, within))

all-more : (vector : Vector) (rest : List Vector) → IsVector vector → All IsVector rest → All IsVector (vector ∷ rest)
all-more vector rest is others zero other within = is
all-more vector rest is others (suc place) other within = others place other (omega (arith, within))

all-one : (vector : Vector) → IsVector vector → All IsVector (vector ∷ [])
all-one vector is = all-more vector [] is all-none

all-both : (one two : List Vector) → All IsVector one → All IsVector two → All IsVector (one ++ two)
all-both [] two left right = right
all-both (vector ∷ one) two left right = all-more vector (one ++ two) (All-head IsVector vector one left) (all-both one two (All-tail IsVector vector one left) right)

kept-is : (names : List Name) (kept : List Bool) (first : ℕ) (bus : Vector) → AreWords names → kept_bus kept (all_buses names) first ≡ Some bus → IsVector bus
kept-is names kept first bus words is = by (slice_index_or kept first false) is
  where
    inside : (first < length names) → slice_index_or (all_buses names) first None ≡ Some bus → IsVector bus
    inside within e = bus-is names first bus words within (sym (get_or-map-range_with_len (bus_at names) 0 (length names) first first None within (omega arith)) ∙ e)

    outside : length names ≤ first → slice_index_or (all_buses names) first None ≡ Some bus → IsVector bus
    outside past e =
        let none : slice_index_or (all_buses names) first None ≡ None = get_or-eq_default (all_buses names) None (omega (arith, past, length-map-range_with_len (bus_at names) 0 (length names))) in
        absurd (let wrong : None ≡ Some bus = sym none ∙ e in cc)

    by : (b : Bool) → cond b (slice_index_or (all_buses names) first None) None ≡ Some bus → IsVector bus
    by false e = cc
    by true e = elim (cases_lt first (length names)) [
      | inl within ↦ inside within e
      | inr past ↦ outside past e
    ]

written-are : (names : List Name) (kept : List Bool) (signal : ℕ) → AreWords names → signal < length names → All IsVector (written_at names kept signal)
written-are names kept signal words within = by (kept_bus kept (all_buses names) (first_of names signal)) refl
  where
    chosen : (b : Bool) (bus : Vector) → IsVector bus → All IsVector (cond b (bus ∷ []) [])
    chosen true bus is = all-one bus is
    chosen false bus is = all-none

    by : (bus : Option Vector) → kept_bus kept (all_buses names) (first_of names signal) ≡ bus → All IsVector (written names signal (first_of names signal) bus)
    by None e = all-one (single (name_text names signal) signal) (single-is (name_text names signal) signal (words signal within))
    by (Some bus) e = chosen (first_of names signal == signal) bus (kept-is names kept (first_of names signal) bus words e)

joined-are : (names : List Name) (kept : List Bool) (first count : ℕ) → AreWords names → first + count ≤ length names → All IsVector (flat_map (written_at names kept) (range_with_len first count))
joined-are names kept first zero words within = all-none
joined-are names kept first (suc count) words within =
    all-both (written_at names kept first) (flat_map (written_at names kept) (range_with_len (first + 1) count)) (written-are names kept first words (omega (arith, within)))
    (joined-are names kept (first + 1) count words (omega (arith, within)))

alone-are : (names : List Name) (first count : ℕ) → AreWords names → first + count ≤ length names → All IsVector (map (λ (signal : ℕ). single (name_text names signal) signal) (range_with_len first count))
alone-are names first zero words within = all-none
alone-are names first (suc count) words within =
    all-both (single (name_text names first) first ∷ []) (map (λ (signal : ℕ). single (name_text names signal) signal) (range_with_len (first + 1) count))
    (all-one (single (name_text names first) first) (single-is (name_text names first) first (words first (omega (arith, within))))) (alone-are names (first + 1) count words (omega (arith, within)))

alone-bits : (names : List Name) (first count : ℕ) → bits_in (map (λ (signal : ℕ). single (name_text names signal) signal) (range_with_len first count)) ≡ count
alone-bits names first zero = refl
alone-bits names first (suc count) =
    let rest = alone-bits names (first + 1) count in
    let sum = sum_by-append (λ (v : Vector). length v.signals) (single (name_text names first) first ∷ []) (map (λ (signal : ℕ). single (name_text names signal) signal) (range_with_len (first + 1) count)) in
    omega (arith, rest, sum)

-- ---- what is chosen

pub chosen-are : (names : List Name) → AreWords names → All IsVector (exact_or_alone names (vectors_with names (found_kept names)))
chosen-are names words = by (is_exact names (vectors_with names (found_kept names)))
  where
    by : (b : Bool) → All IsVector (cond b (vectors_with names (found_kept names)) (alone names))
    by true = joined-are names (found_kept names) 0 (length names) words (omega arith)
    by false = alone-are names 0 (length names) words (omega arith)

pub chosen-bits : (names : List Name) → bits_in (exact_or_alone names (vectors_with names (found_kept names))) ≤ length names
chosen-bits names = by (is_exact names (vectors_with names (found_kept names))) refl
  where
    by : (b : Bool) → is_exact names (vectors_with names (found_kept names)) ≡ b → bits_in (cond b (vectors_with names (found_kept names)) (alone names)) ≤ length names
    by true e = leb-true (bits_in (vectors_with names (found_kept names))) (length names) (and_parts (nat_le (bits_in (vectors_with names (found_kept names))) (length names)) _ e).0
    by false e = let bits = alone-bits names 0 (length names) in omega (arith, bits)

-- ---- how many there are

written-few : (names : List Name) (signal first : ℕ) (bus : Option Vector) → length (written names signal first bus) ≤ 1
written-few names signal first None = omega arith
written-few names signal first (Some bus) = by (first == signal)
  where
    by : (b : Bool) → length (cond b (bus ∷ []) []) ≤ 1
    by true = omega arith
    by false = omega arith

pub few-from : (names : List Name) (kept : List Bool) (first count : ℕ) → length (flat_map (written_at names kept) (range_with_len first count)) ≤ count
few-from names kept first zero = omega arith
few-from names kept first (suc count) =
    let here = written-few names first (first_of names first) (kept_bus kept (all_buses names) (first_of names first)) in
    let rest = few-from names kept (first + 1) count in
    let sum = length-append (written_at names kept first) (flat_map (written_at names kept) (range_with_len (first + 1) count)) in
    omega (arith, here, rest, sum)
