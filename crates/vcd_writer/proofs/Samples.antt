-- The lines of samples of signals of one bit, piece by piece: what they say.
use Rattle.std.proofs.Common.{◌≡◌, refl, sym, ap, subst, ℕ, zero, suc, ◌+◌, ◌<◌, ◌≤◌, ◌^◌, Bool, true, false, List, [], ◌∷◌, length, Option, None, Some, arith}
use Rattle.std.specs.Prelude.{decimal, nat_le}
use Rattle.std.specs.List.{list_all, flat_map, range_with_len}
use Rattle.std.proofs.lemmas.Bool.{lt-leb, le-ltb, ne_eqb, and_from, leb-true}
use Rattle.std.proofs.Math.Bool.{and-false}
use Rattle.psl_base.specs.Bytes.{is_digit}
use Rattle.psl_base.specs.Tokens.{token_at}
use Rattle.vcd_writer.proofs.Numerals.{form-all, form-time}
use Rattle.vcd_writer.proofs.Pieces.{Reads, reads-nothing, reads-on, reads-word}
use Rattle.vcd_writer.proofs.Standings.{Goes}
use Rattle.vcd_writer.proofs.Tokens.{is_solid, true-left, true-right}
use Rattle.vcd_writer.specs.Lines.{digit, line, value_lines, sample_lines, samples_from}
use Rattle.vcd_reader.specs.declared.shape.Shape.TheVariants.{Time, Scalar}
use Rattle.vcd_reader.specs.Declarations.{Declared, signal_at}
use Rattle.vcd_reader.specs.Events.{Event, At, Gets, is_last, falls}
use Rattle.vcd_reader.specs.Labels.{place_of}
use Rattle.vcd_reader.specs.Rules.{rule_at, sample_limit}
use Rattle.vcd_reader.specs.Shapes.{shape_of}
use Rattle.vcd_reader.specs.Standing.{Standing, Told, Telling, Ready, time_of}

-- ---- where a recording stands

-- the last time before a sample
abbrev pub time_before : ℕ → Option ℕ
time_before zero = None
time_before (suc sample) = Some sample

abbrev told_before : ℕ → Told
told_before sample = record { last = time_before sample; samples = sample; in_block = false }

-- before the lines of a sample, and among them
abbrev pub before_sample : Declared → ℕ → Standing
before_sample declared sample = record { declared = declared; part = Telling (told_before sample); opened = Ready }

-- ---- what samples say

-- values of signals, from one on
abbrev pub gets_from : ℕ → List Bool → List Event
gets_from number [] = []
gets_from number (value ∷ values) = Gets number (digit value ∷ []) ∷ gets_from (suc number) values

abbrev pub sample_events : (ℕ → List Bool) → ℕ → List Event
sample_events values sample = At sample ∷ gets_from 0 (values sample)

abbrev pub events_from : (ℕ → List Bool) → ℕ → ℕ → List Event
events_from values first count = flat_map (sample_events values) (range_with_len first count)

-- ---- the time of a sample

pub is-last-not : (sample : ℕ) → is_last (time_before sample) sample ≡ false
is-last-not zero = refl
is-last-not (suc sample) = ne_eqb sample (suc sample) (λ same. omega (arith, same))

never-falls : (sample : ℕ) → falls (time_before sample) sample ≡ false
never-falls zero = refl
never-falls (suc sample) = le-ltb (suc sample) sample (omega arith)

shape-time : (text : List ℕ) → shape_of (35 ∷ text) ≡ Time
unfolding shape_of
shape-time text = refl

-- a time that is the next one has no fault
time-rule : (declared : Declared) (sample : ℕ) (text : List ℕ) → sample < sample_limit → shape_of text ≡ Time → time_of text ≡ Some sample
    → rule_at declared (Telling (told_before sample)) Ready text ≡ None
time-rule declared sample text few shape says = rw (shape, says, is-last-not sample, never-falls sample, lt-leb sample_limit sample few) refl

time-goes : (whole : List ℕ) (declared : Declared) (sample at : ℕ) (text : List ℕ) → sample < sample_limit → shape_of text ≡ Time → time_of text ≡ Some sample
    → Goes (before_sample declared sample) (token_at whole at text ∷ []) (At sample ∷ []) (before_sample declared (suc sample))
time-goes whole declared sample at text few shape says =
    (time-rule declared sample text few shape says, ([], rw (shape, says) refl, (refl, rw (shape, says, is-last-not sample) (ap (λ (n : ℕ). record { declared = declared; part = Telling (record { last = Some sample; samples = n; in_block = false }); opened = Ready }) (let one : sample + 1 ≡ suc sample = omega arith in one)))))

digit-solid : (byte : ℕ) → is_digit byte ≡ true → is_solid byte ≡ true
digit-solid byte is =
    let above : 48 ≤ byte = leb-true 48 byte (true-left (nat_le 48 byte) (nat_le byte 57) is) in
    rw (lt-leb byte 13 (omega (arith, above)), ne_eqb byte 32 (λ same. omega (arith, above, same)), and-false (nat_le 9 byte)) refl

digits-solid : (text : List ℕ) → list_all is_digit text ≡ true → list_all is_solid text ≡ true
digits-solid [] each = refl
digits-solid (byte ∷ bytes) each =
    and_from (is_solid byte) (list_all is_solid bytes) (digit-solid byte (true-left (is_digit byte) (list_all is_digit bytes) each))
    (digits-solid bytes (true-right (is_digit byte) (list_all is_digit bytes) each))

time-reads : (whole : List ℕ) (declared : Declared) (sample : ℕ) → sample < sample_limit
    → Reads whole (before_sample declared sample) (line (35 ∷ decimal sample)) (At sample ∷ []) (before_sample declared (suc sample))
time-reads whole declared sample few =
    let small : sample < 2 ^ 64 = omega arith in
    reads-word whole (before_sample declared sample) (before_sample declared (suc sample)) (35 ∷ decimal sample) 10 (At sample ∷ []) (omega arith)
    (digits-solid (decimal sample) (form-all sample small)) refl
    (λ at. time-goes whole declared sample at (35 ∷ decimal sample) few (shape-time (decimal sample)) (form-time sample small))

-- ---- the values of a sample

-- a code is that of a signal whose values are read
pub record IsRead (declared : Declared) (number : ℕ) (code : List ℕ) : Type 0 where
  pub some : 0 < length code
  pub solid : list_all is_solid code ≡ true
  pub found : place_of declared.codes code ≡ Some number
  pub read : (signal_at declared number).unread ≡ false

-- codes are those of the signals from one on
abbrev pub AreRead : Declared → ℕ → List (List ℕ) → Type 0
AreRead declared number [] = Unit {0}
AreRead declared number (code ∷ codes) = IsRead declared number code × AreRead declared (suc number) codes

shape-scalar : (value : Bool) (first : ℕ) (rest : List ℕ) → shape_of (digit value ∷ first ∷ rest) ≡ Scalar
unfolding shape_of
shape-scalar false first rest = refl
shape-scalar true first rest = refl

value-goes : (whole : List ℕ) (declared : Declared) (sample number at : ℕ) (value : Bool) (first : ℕ) (rest : List ℕ)
    → place_of declared.codes (first ∷ rest) ≡ Some number → (signal_at declared number).unread ≡ false
    → Goes (before_sample declared sample) (token_at whole at (digit value ∷ first ∷ rest) ∷ []) (Gets number (digit value ∷ []) ∷ []) (before_sample declared sample)
value-goes whole declared sample number at value first rest found read =
    let shape = shape-scalar value first rest in
    (rw (shape, found) refl, ([], rw (shape, found, read) refl, (refl, rw shape refl)))

value-solid : (value : Bool) (code : List ℕ) → list_all is_solid code ≡ true → list_all is_solid (digit value ∷ code) ≡ true
value-solid false code solid = solid
value-solid true code solid = solid

value-reads : (whole : List ℕ) (declared : Declared) (sample number : ℕ) (value : Bool) (code : List ℕ) → IsRead declared number code
    → Reads whole (before_sample declared sample) (line (digit value ∷ code)) (Gets number (digit value ∷ []) ∷ []) (before_sample declared sample)
value-reads whole declared sample number value [] is = absurd (let some = is.some in omega arith)
value-reads whole declared sample number value (first ∷ rest) is =
    reads-word whole (before_sample declared sample) (before_sample declared sample) (digit value ∷ first ∷ rest) 10 (Gets number (digit value ∷ []) ∷ []) (omega arith)
    (value-solid value (first ∷ rest) is.solid) refl
    (λ at. value-goes whole declared sample number at value first rest is.found is.read)

values-read : (whole : List ℕ) (declared : Declared) (sample number : ℕ) (codes : List (List ℕ)) (values : List Bool) → AreRead declared number codes → length values ≡ length codes
    → Reads whole (before_sample declared sample) (value_lines codes values) (gets_from number values) (before_sample declared sample)
values-read whole declared sample number [] [] are same = reads-nothing whole (before_sample declared sample)
values-read whole declared sample number [] (value ∷ values) are same = absurd (omega arith)
values-read whole declared sample number (code ∷ codes) [] are same = absurd (omega arith)
values-read whole declared sample number (code ∷ codes) (value ∷ values) are same =
    reads-on whole (before_sample declared sample) (before_sample declared sample) (before_sample declared sample) (line (digit value ∷ code)) (value_lines codes values)
    (Gets number (digit value ∷ []) ∷ []) (gets_from (suc number) values)
    (value-reads whole declared sample number value code are.0) (values-read whole declared sample (suc number) codes values are.1 (omega arith))

-- ---- samples

sample-reads : (whole : List ℕ) (declared : Declared) (codes : List (List ℕ)) (values : ℕ → List Bool) (sample : ℕ) → AreRead declared 0 codes → length (values sample) ≡ length codes
    → sample < sample_limit
    → Reads whole (before_sample declared sample) (sample_lines codes sample (values sample)) (sample_events values sample) (before_sample declared (suc sample))
sample-reads whole declared codes values sample are same few =
    reads-on whole (before_sample declared sample) (before_sample declared (suc sample)) (before_sample declared (suc sample)) (line (35 ∷ decimal sample)) (value_lines codes (values sample))
    (At sample ∷ []) (gets_from 0 (values sample))
    (time-reads whole declared sample few) (values-read whole declared (suc sample) 0 codes (values sample) are same)

pub samples-read : (whole : List ℕ) (declared : Declared) (codes : List (List ℕ)) (values : ℕ → List Bool) (first count : ℕ) → AreRead declared 0 codes
    → ((sample : ℕ) → sample < first + count → length (values sample) ≡ length codes) → first + count ≤ sample_limit
    → Reads whole (before_sample declared first) (samples_from codes values first count) (events_from values first count) (before_sample declared (first + count))
samples-read whole declared codes values first zero are same few =
    subst (λ (n : ℕ). Reads whole (before_sample declared first) [] [] (before_sample declared n)) (let e : first ≡ first + zero = omega arith in e) (reads-nothing whole (before_sample declared first))
samples-read whole declared codes values first (suc count) are same few =
    let next : suc first ≡ first + 1 = omega arith in
    let last : first + 1 + count ≡ first + suc count = omega arith in
    let rest = samples-read whole declared codes values (first + 1) count are (λ sample within. same sample (omega (arith, within))) (omega arith) in
    reads-on whole (before_sample declared first) (before_sample declared (suc first)) (before_sample declared (first + suc count)) (sample_lines codes first (values first))
    (samples_from codes values (first + 1) count) (sample_events values first) (events_from values (first + 1) count)
    (sample-reads whole declared codes values first are (same first (omega arith)) (omega arith))
    (subst (λ (n : ℕ). Reads whole (before_sample declared n) (samples_from codes values (first + 1) count) (events_from values (first + 1) count) (before_sample declared (first + suc count))) (sym next)
    (subst (λ (n : ℕ). Reads whole (before_sample declared (first + 1)) (samples_from codes values (first + 1) count) (events_from values (first + 1) count) (before_sample declared n)) last rest))
