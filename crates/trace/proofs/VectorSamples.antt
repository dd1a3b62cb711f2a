-- The samples of a trace of vectors, piece by piece, and the whole trace: what they say.
use Rattle.std.proofs.Common.{◌≡◌, ◌∙◌, refl, sym, ap, subst, ℕ, zero, suc, ◌+◌, ◌-◌, ◌<◌, ◌≤◌, ◌^◌, Bool, true, false, List, [], ◌∷◌, ◌++◌, length, map, Option, None, Ok, Some, arith, append_assoc, inl, inr}
use Rattle.std.specs.Prelude.{All, codes, decimal, nat_lt, slice_index, slice_index_or}
use Rattle.std.specs.List.{list_all, flat_map, range_with_len}
use Rattle.std.proofs.lemmas.Bool.{and_from, cond-true, le-ltb, lt-ltb}
use Rattle.std.proofs.lemmas.List.{append-nil}
use Rattle.std.proofs.lemmas.List.FromFn.{length-map-range_with_len, get_or-map-range_with_len}
use Rattle.netlist.specs.Valuations.{bit}
use Rattle.netlist.specs.declared.run.Run.{Run}
use Rattle.psl_base.specs.Bytes.{is_white}
use Rattle.psl_base.specs.Tokens.{PlacedToken, token_at, tokens_from}
use Rattle.trace.proofs.Digits.{code-found, digits-solid, some-byte}
use Rattle.trace.proofs.VectorDefinitions.{declared_of, definitions-read, few-vectors, is-narrow, is-wide, signal_of, size_at}
use Rattle.trace.proofs.VectorEvents.{all_words, sample_words, words-read, words_from}
use Rattle.trace.specs.Codes.{code_of, codes_of}
use Rattle.trace.specs.Trace.{count_of, valuation_in}
use Rattle.trace.specs.Vectors.{IsVector, all_given, bits_in, is_wide, no_vector, value_text, vector_at, vector_declarations, vector_letters, vector_line, vector_lines, vector_sample, vector_samples, vector_words, vectors_sampled, vectors_text}
use Rattle.trace.specs.declared.vectors.Vector.{Vector}
use Rattle.vcd_reader.specs.Declarations.{Declared, bits_most, signal_at}
use Rattle.vcd_reader.specs.Events.{At, Event, Gets}
use Rattle.vcd_reader.specs.Labels.{place_of}
use Rattle.vcd_reader.specs.Meaning.{reading}
use Rattle.vcd_reader.specs.Rules.{sample_limit}
use Rattle.vcd_reader.specs.Shapes.{are_values, is_value, shape_of}
use Rattle.vcd_reader.specs.Standing.{Standing, at_first}
use Rattle.vcd_reader.specs.declared.shape.Shape.TheVariants.{Scalar, Vector as VectorShape}
use Rattle.vcd_reader.specs.declared.signal.Signal.{Signal}
use Rattle.vcd_reader.specs.declared.unknown.Unknown.{Unknown}
use Rattle.vcd_reader.specs.declared.unknown.Unknown.TheVariants.{Zero}
use Rattle.vcd_reader.specs.Sampled.{bit_at, bit_of, reads_one}
use Rattle.vcd_writer.proofs.Pieces.{Reads, reads-all, reads-nothing, reads-on, reads-word}
use Rattle.vcd_writer.proofs.Samples.{before_sample, samples-read}
use Rattle.vcd_writer.proofs.Standings.{Goes, goes-on}
use Rattle.vcd_writer.proofs.Tokens.{is_solid, word-token}
use Rattle.vcd_writer.specs.Lines.{digit, line}

-- ---- two words

-- two words, and the white space byte behind each, of which the first opens what the second ends
reads-two : (whole : List ℕ) (start mid : Standing) (word other : List ℕ) (gap end : ℕ) (here : List Event) → 0 < length word → list_all is_solid word ≡ true → is_white gap ≡ true
    → 0 < length other → list_all is_solid other ≡ true → is_white end ≡ true
    → ((at next : ℕ) → Goes start (token_at whole at word ∷ token_at whole next other ∷ []) here mid) → Reads whole start (word ++ gap ∷ (other ++ end ∷ [])) here mid
reads-two whole start mid word other gap end here long solid white some firm light step at rest events last later =
    let next = at + length word + 1 in
    let behind = next + length other + 1 in
    let ts : tokens_from whole at ((word ++ gap ∷ (other ++ end ∷ [])) ++ rest) ≡ token_at whole at word ∷ token_at whole next other ∷ tokens_from whole behind rest =
    ap (tokens_from whole at) (append_assoc word (gap ∷ (other ++ end ∷ [])) rest ∙ ap (λ (more : List ℕ). word ++ gap ∷ more) (append_assoc other (end ∷ []) rest))
    ∙ word-token whole at word gap (other ++ end ∷ rest) long solid white
    ∙ ap (λ (more : List PlacedToken). token_at whole at word ∷ more) (word-token whole next other end rest some firm light) in
    subst (λ (all : List PlacedToken). Goes start all (here ++ events) last) (sym ts)
    (goes-on start mid last (token_at whole at word ∷ token_at whole next other ∷ []) (tokens_from whole behind rest) here events (step at next) (later behind))

-- ---- the time of a sample

time-reads : (whole : List ℕ) (declared : Declared) (sample : ℕ) → sample < sample_limit
    → Reads whole (before_sample declared sample) (line (35 ∷ decimal sample)) (At sample ∷ []) (before_sample declared (suc sample))
time-reads whole declared sample few =
    let piece = line (35 ∷ decimal sample) in
    let next : sample + 1 ≡ suc sample = omega arith in
    subst (λ (text : List ℕ). Reads whole (before_sample declared sample) text (At sample ∷ []) (before_sample declared (suc sample))) (append-nil (piece ++ []) ∙ append-nil piece)
    (subst (λ (n : ℕ). Reads whole (before_sample declared sample) ((piece ++ []) ++ []) (At sample ∷ []) (before_sample declared n)) next
    (samples-read whole declared [] (λ n. []) sample 1 tt (λ n within. refl) (omega (arith, few))))

-- ---- the values of a vector

digit-value : (value : Bool) → is_value (digit value) ≡ true
digit-value true = refl
digit-value false = refl

digit-solid : (value : Bool) → is_solid (digit value) ≡ true
digit-solid true = refl
digit-solid false = refl

letters-solid : (values : List Bool) (signals : List ℕ) → list_all is_solid (map (λ (signal : ℕ). digit (bit values signal)) signals) ≡ true
letters-solid values [] = refl
letters-solid values (signal ∷ signals) = and_from (is_solid (digit (bit values signal))) _ (digit-solid (bit values signal)) (letters-solid values signals)

letters-values : (values : List Bool) (signals : List ℕ) → list_all is_value (map (λ (signal : ℕ). digit (bit values signal)) signals) ≡ true
letters-values values [] = refl
letters-values values (signal ∷ signals) = and_from (is_value (digit (bit values signal))) _ (digit-value (bit values signal)) (letters-values values signals)

letters-length : (values : List Bool) (signals : List ℕ) → length (map (λ (signal : ℕ). digit (bit values signal)) signals) ≡ length signals
letters-length values [] = refl
letters-length values (signal ∷ signals) = ap suc (letters-length values signals)

some-values : (letters : List ℕ) → 0 < length letters → list_all is_value letters ≡ true → are_values letters ≡ true
some-values [] some each = absurd (omega arith)
some-values (letter ∷ letters) some each = each

shape-vector : (letters : List ℕ) → are_values letters ≡ true → shape_of (98 ∷ letters) ≡ VectorShape
unfolding shape_of
shape-vector letters each = rw each refl

shape-scalar : (value : Bool) (first : ℕ) (rest : List ℕ) → shape_of (digit value ∷ first ∷ rest) ≡ Scalar
unfolding shape_of
shape-scalar false first rest = refl
shape-scalar true first rest = refl

-- the code of a signal that is read, of so many bits
record IsRead (declared : Declared) (number size : ℕ) (code : List ℕ) : Type 0 where
  some : 0 < length code
  solid : list_all is_solid code ≡ true
  found : place_of declared.codes code ≡ Some number
  there : signal_at declared number ≡ signal_of size

wide-goes : (whole : List ℕ) (declared : Declared) (sample number size at next : ℕ) (letters code : List ℕ) → IsRead declared number size code → are_values letters ≡ true → length letters ≤ size
    → Goes (before_sample declared sample) (token_at whole at (98 ∷ letters) ∷ token_at whole next code ∷ []) (Gets number letters ∷ []) (before_sample declared sample)
wide-goes whole declared sample number size at next letters code is each short =
    let shape = shape-vector letters each in
    let read : (signal_at declared number).unread ≡ false = ap (λ (s : Signal). s.unread) is.there in
    let long : (signal_at declared number).size ≡ size = ap (λ (s : Signal). s.size) is.there in
    let found = is.found in (
      rw shape refl,
      (
        Gets number letters ∷ [],
        rw shape refl,
        (
          rw (shape, found, read, long, le-ltb size (length letters) short) refl,
          ([], rw (shape, found, read) refl, (refl, rw shape refl)),
        ),
      ),
    )

narrow-goes : (whole : List ℕ) (declared : Declared) (sample number at : ℕ) (value : Bool) (first : ℕ) (rest : List ℕ)
    → place_of declared.codes (first ∷ rest) ≡ Some number → (signal_at declared number).unread ≡ false
    → Goes (before_sample declared sample) (token_at whole at (digit value ∷ first ∷ rest) ∷ []) (Gets number (digit value ∷ []) ∷ []) (before_sample declared sample)
narrow-goes whole declared sample number at value first rest found read =
    let shape = shape-scalar value first rest in
    (rw (shape, found) refl, ([], rw (shape, found, read) refl, (refl, rw shape refl)))

narrow-reads : (whole : List ℕ) (declared : Declared) (sample number size : ℕ) (value : Bool) (code : List ℕ) → IsRead declared number size code
    → Reads whole (before_sample declared sample) (line (digit value ∷ code)) (Gets number (digit value ∷ []) ∷ []) (before_sample declared sample)
narrow-reads whole declared sample number size value [] is = absurd (let some = is.some in omega arith)
narrow-reads whole declared sample number size value (first ∷ rest) is =
    reads-word whole (before_sample declared sample) (before_sample declared sample) (digit value ∷ first ∷ rest) 10 (Gets number (digit value ∷ []) ∷ []) (omega arith)
    (and_from (is_solid (digit value)) _ (digit-solid value) is.solid) refl
    (λ at. narrow-goes whole declared sample number at value first rest is.found (ap (λ (s : Signal). s.unread) is.there))

one-reads : (whole : List ℕ) (declared : Declared) (sample number size : ℕ) (values : List Bool) (signals code : List ℕ) → IsRead declared number size code → length signals ≡ 1
    → Reads whole (before_sample declared sample) (line (map (λ (signal : ℕ). digit (bit values signal)) signals ++ code)) (Gets number (map (λ (signal : ℕ). digit (bit values signal)) signals) ∷ []) (before_sample declared sample)
one-reads whole declared sample number size values [] code is one = absurd (omega (arith, one))
one-reads whole declared sample number size values (signal ∷ []) code is one = narrow-reads whole declared sample number size (bit values signal) code is
one-reads whole declared sample number size values (signal ∷ other ∷ signals) code is one = absurd (omega (arith, one))

value-reads : (whole : List ℕ) (declared : Declared) (sample number : ℕ) (vector : Vector) (values : List Bool) (code : List ℕ) → IsVector vector → IsRead declared number (length vector.signals) code
    → Reads whole (before_sample declared sample) (line (value_text (is_wide vector) (vector_letters vector values) code)) (Gets number (vector_letters vector values) ∷ []) (before_sample declared sample)
value-reads whole declared sample number vector values code is read = elim is.either [
  | inl bit ↦ rw (is-narrow vector bit) (one-reads whole declared sample number (length vector.signals) values vector.signals code read bit.one)
  | inr bus ↦
      let letters = vector_letters vector values in
      let long : length letters ≡ length vector.signals = letters-length values vector.signals in
      let each = bus.each in
      rw (is-wide vector bus)
      (subst (λ (text : List ℕ). Reads whole (before_sample declared sample) text (Gets number letters ∷ []) (before_sample declared sample)) (sym (append_assoc (98 ∷ letters) (32 ∷ code) (10 ∷ [])))
      (reads-two whole (before_sample declared sample) (before_sample declared sample) (98 ∷ letters) code 32 10 (Gets number letters ∷ []) (omega arith) (letters-solid values vector.signals) refl
      read.some read.solid refl
      (λ at next. wide-goes whole declared sample number (length vector.signals) at next letters code read (some-values letters (omega (arith, long, each)) (letters-values values vector.signals)) (omega (arith, long)))))
]

-- ---- all values of a sample

is-read : (vectors : List Vector) (number : ℕ) → number < length vectors → length vectors < 2 ^ 64 → IsRead (declared_of vectors (length vectors)) number (size_at vectors number) (code_of number)
is-read vectors number within small = record {
  some = some-byte number;
  solid = digits-solid 10 number;
  found = code-found (length vectors) number within small;
  there = get_or-map-range_with_len (λ (n : ℕ). signal_of (size_at vectors n)) 0 (length vectors) number number (record { size = 0; unread = true }) within (omega arith);
}

lines-read : (whole : List ℕ) (vectors : List Vector) (values : List Bool) (sample first count : ℕ) → All IsVector vectors → first + count ≤ length vectors → length vectors < 2 ^ 64
    → Reads whole (before_sample (declared_of vectors (length vectors)) sample) (flat_map (vector_line vectors values) (range_with_len first count))
    (words_from first (map (λ (number : ℕ). vector_letters (vector_at vectors number) values) (range_with_len first count))) (before_sample (declared_of vectors (length vectors)) sample)
lines-read whole vectors values sample first zero are within small = reads-nothing whole (before_sample (declared_of vectors (length vectors)) sample)
lines-read whole vectors values sample first (suc count) are within small =
    let next : first + 1 ≡ suc first = omega arith in
    let stays = before_sample (declared_of vectors (length vectors)) sample in
    let words = map (λ (number : ℕ). vector_letters (vector_at vectors number) values) (range_with_len (first + 1) count) in
    reads-on whole stays stays stays (vector_line vectors values first) (flat_map (vector_line vectors values) (range_with_len (first + 1) count))
    (Gets first (vector_letters (vector_at vectors first) values) ∷ []) (words_from (suc first) words)
    (value-reads whole (declared_of vectors (length vectors)) sample first (vector_at vectors first) values (code_of first) (are first no_vector (omega (arith, within))) (is-read vectors first (omega (arith, within)) small))
    (subst (λ (n : ℕ). Reads whole stays (flat_map (vector_line vectors values) (range_with_len (first + 1) count)) (words_from n words) stays) next
    (lines-read whole vectors values sample (first + 1) count are (omega (arith, within)) small))

-- ---- samples

abbrev run_words : List Vector → Run → ℕ → List (List ℕ)
run_words vectors run sample = vector_words vectors (valuation_in run sample)

sample-reads : (whole : List ℕ) (vectors : List Vector) (run : Run) (sample : ℕ) → All IsVector vectors → length vectors < 2 ^ 64 → sample < sample_limit
    → Reads whole (before_sample (declared_of vectors (length vectors)) sample) (vector_sample vectors run sample) (sample_words (run_words vectors run) sample) (before_sample (declared_of vectors (length vectors)) (suc sample))
sample-reads whole vectors run sample are small few =
    let declared = declared_of vectors (length vectors) in
    reads-on whole (before_sample declared sample) (before_sample declared (suc sample)) (before_sample declared (suc sample)) (line (35 ∷ decimal sample))
    (vector_lines vectors (valuation_in run sample) (length vectors)) (At sample ∷ []) (words_from 0 (run_words vectors run sample))
    (time-reads whole declared sample few) (lines-read whole vectors (valuation_in run sample) (suc sample) 0 (length vectors) are (omega arith) small)

all-read : (whole : List ℕ) (vectors : List Vector) (run : Run) (first count : ℕ) → All IsVector vectors → length vectors < 2 ^ 64 → first + count ≤ sample_limit
    → Reads whole (before_sample (declared_of vectors (length vectors)) first) (flat_map (vector_sample vectors run) (range_with_len first count)) (all_words (run_words vectors run) first count)
    (before_sample (declared_of vectors (length vectors)) (first + count))
all-read whole vectors run first zero are small few =
    let declared = declared_of vectors (length vectors) in
    subst (λ (n : ℕ). Reads whole (before_sample declared first) [] [] (before_sample declared n)) (let e : first ≡ first + zero = omega arith in e) (reads-nothing whole (before_sample declared first))
all-read whole vectors run first (suc count) are small few =
    let declared = declared_of vectors (length vectors) in
    let next : suc first ≡ first + 1 = omega arith in
    let last : first + 1 + count ≡ first + suc count = omega arith in
    let rest = all-read whole vectors run (first + 1) count are small (omega (arith, few)) in
    reads-on whole (before_sample declared first) (before_sample declared (suc first)) (before_sample declared (first + suc count)) (vector_sample vectors run first)
    (flat_map (vector_sample vectors run) (range_with_len (first + 1) count)) (sample_words (run_words vectors run) first) (all_words (run_words vectors run) (first + 1) count)
    (sample-reads whole vectors run first are small (omega (arith, few)))
    (subst (λ (n : ℕ). Reads whole (before_sample declared n) (flat_map (vector_sample vectors run) (range_with_len (first + 1) count)) (all_words (run_words vectors run) (first + 1) count) (before_sample declared (first + suc count))) (sym next)
    (subst (λ (n : ℕ). Reads whole (before_sample declared (first + 1)) (flat_map (vector_sample vectors run) (range_with_len (first + 1) count)) (all_words (run_words vectors run) (first + 1) count) (before_sample declared n)) last rest))

-- ---- the text

pub vectors-read : (unknown : Unknown) (vectors : List Vector) (run : Run) (loops : ℕ) → All IsVector vectors → bits_in vectors ≤ bits_most → count_of run loops ≤ sample_limit
    → reading unknown (vectors_text vectors run loops) ≡ Ok (vectors_sampled unknown vectors run loops)
vectors-read unknown vectors run loops are short few =
    let text = vectors_text vectors run loops in
    let count = count_of run loops in
    let number = length vectors in
    let declared = declared_of vectors number in
    let many = few-vectors vectors are in
    let wide : length (codes_of number) ≡ number = length-map-range_with_len code_of 0 number in
    let last : 0 + count ≡ count = omega arith in
    words-read unknown text declared (run_words vectors run) count
    (λ sample within. length-map-range_with_len (λ (n : ℕ). vector_letters (vector_at vectors n) (valuation_in run sample)) 0 number ∙ sym wide)
    (reads-all text at_first (before_sample declared count) text (all_words (run_words vectors run) 0 count)
    (reads-on text at_first (before_sample declared 0) (before_sample declared count) (vector_declarations vectors number ++ line (codes "$enddefinitions $end")) (vector_samples vectors run count) []
    (all_words (run_words vectors run) 0 count)
    (definitions-read text vectors are short)
    (subst (λ (n : ℕ). Reads text (before_sample declared 0) (vector_samples vectors run count) (all_words (run_words vectors run) 0 count) (before_sample declared n)) last
    (all-read text vectors run 0 count are (omega (arith, many, short)) (omega (arith, few))))) 0)

-- ---- the bits of a trace of vectors

letter-bit : (value : Bool) → reads_one Zero (digit value) ≡ value
letter-bit true = refl
letter-bit false = refl

letters-at : (values : List Bool) (signals : List ℕ) (place : ℕ) → place < length signals → slice_index (map (λ (signal : ℕ). digit (bit values signal)) signals) place ≡ digit (bit values (slice_index signals place))
letters-at values [] place within = absurd (omega arith)
letters-at values (signal ∷ signals) zero within = refl
letters-at values (signal ∷ signals) (suc place) within = letters-at values signals place (omega (arith, within))

-- the bit of a vector at a place from the right is the value of its signal there
pub vector-bit : (vectors : List Vector) (run : Run) (loops sample number place : ℕ) → sample < count_of run loops → number < length vectors → place < size_at vectors number
    → bit_at (vectors_sampled Zero vectors run loops) sample number place ≡ bit (valuation_in run sample) (slice_index (vector_at vectors number).signals (size_at vectors number - 1 - place))
vector-bit vectors run loops sample number place here within inside =
    let values = valuation_in run sample in
    let signals = (vector_at vectors number).signals in
    let letters = vector_letters (vector_at vectors number) values in
    let long : length letters ≡ length signals = letters-length values signals in
    ap (λ (row : List (Option (List ℕ))). bit_of Zero (slice_index_or row number None) place)
    (get_or-map-range_with_len (λ (n : ℕ). all_given (vector_words vectors (valuation_in run n))) 0 (count_of run loops) sample sample [] here (omega arith))
    ∙ ap (λ (value : Option (List ℕ)). bit_of Zero value place) (given-at (vector_words vectors values) number (omega (arith, within, length-map-range_with_len (λ (n : ℕ). vector_letters (vector_at vectors n) values) 0 (length vectors)))
    ∙ ap (λ (word : List ℕ). Some word) (get_or-map-range_with_len (λ (n : ℕ). vector_letters (vector_at vectors n) values) 0 (length vectors) number number [] within (omega arith)))
    ∙ ap (reads_one Zero) (cond-true (nat_lt place (length letters)) _ _ (lt-ltb place (length letters) (omega (arith, inside, long)))
    ∙ ap (λ (n : ℕ). slice_index letters (n - 1 - place)) long ∙ letters-at values signals (length signals - 1 - place) (omega (arith, inside)))
    ∙ letter-bit (bit values (slice_index signals (length signals - 1 - place)))
  where
    given-at : (words : List (List ℕ)) (number : ℕ) → number < length words → slice_index_or (all_given words) number None ≡ Some (slice_index_or words number [])
    given-at [] number within = absurd (omega arith)
    given-at (word ∷ words) zero within = refl
    given-at (word ∷ words) (suc number) within = given-at words number (omega (arith, within))
