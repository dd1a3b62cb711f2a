-- A text that grows by a digit of a code, a declaration, a value or a sample.
use Rattle.std.proofs.Common.{◌≡◌, ◌∙◌, sym, ap, ℕ, zero, suc, ◌+◌, ◌/◌, ◌%◌, ◌<◌, ◌≤◌, ◌^◌, Bool, false, List, [], ◌∷◌, ◌++◌, length, take, arith, append_assoc}
use Rattle.std.specs.Prelude.{codes, decimal, slice_index_or}
use Rattle.std.specs.List.{flat_map, range_with_len}
use Rattle.std.proofs.lemmas.List.{append-nil, length-take-le, take_more}
use Rattle.std.proofs.lemmas.List.FromFn.{length-map-range_with_len, map-range_with_len_more}
use Rattle.trace.proofs.Digits.{code-last, code-next}
use Rattle.trace.specs.Codes.{code_of, codes_of}
use Rattle.vcd_writer.proofs.Growing.{sample-more}
use Rattle.vcd_writer.specs.Lines.{digit, line, samples_from, value_lines}

-- ---- a code

pub added-digit : (text goal new : List ℕ) (rest : ℕ) → 94 ≤ rest → rest < 2 ^ 64 → text ++ code_of rest ≡ goal → new ≡ text ++ (33 + rest % 94) ∷ [] → new ++ code_of (rest / 94) ≡ goal
added-digit text goal new rest high small same added =
    ap (λ (all : List ℕ). all ++ code_of (rest / 94)) added
    ∙ append_assoc text ((33 + rest % 94) ∷ []) (code_of (rest / 94))
    ∙ ap (λ (all : List ℕ). text ++ all) (sym (code-next rest high small))
    ∙ same

pub last-digit : (text goal new : List ℕ) (rest : ℕ) → rest < 94 → text ++ code_of rest ≡ goal → new ≡ text ++ (33 + rest) ∷ [] → new ≡ goal
last-digit text goal new rest low same added = added ∙ ap (λ (all : List ℕ). text ++ all) (sym (code-last rest low)) ∙ same

pub length-next : (number : ℕ) → 94 ≤ number → number < 2 ^ 64 → length (code_of number) ≡ length (code_of (number / 94)) + 1
length-next number high small = ap (λ (all : List ℕ). length all) (code-next number high small) ∙ (let e : suc (length (code_of (number / 94))) ≡ length (code_of (number / 94)) + 1 = omega arith in e)

pub length-last : (number : ℕ) → number < 94 → length (code_of number) ≡ 1
length-last number low = ap (λ (all : List ℕ). length all) (code-last number low)

-- ---- pieces of a list of numbers

flat-from : (f : ℕ → List ℕ) (first count : ℕ) → flat_map f (range_with_len first (suc count)) ≡ flat_map f (range_with_len first count) ++ f (first + count)
flat-from f first zero = append-nil (f first) ∙ ap f (let same : first ≡ first + zero = omega arith in same)
flat-from f first (suc count) =
    ap (λ (rest : List ℕ). f first ++ rest) (flat-from f (first + 1) count)
    ∙ sym (append_assoc (f first) (flat_map f (range_with_len (first + 1) count)) (f (first + 1 + count)))
    ∙ ap (λ (n : ℕ). flat_map f (range_with_len first (suc count)) ++ f n) (let same : first + 1 + count ≡ first + suc count = omega arith in same)

pub flat-more : (f : ℕ → List ℕ) (count : ℕ) → flat_map f (range_with_len 0 (count + 1)) ≡ flat_map f (range_with_len 0 count) ++ f count
flat-more f count =
    ap (λ (n : ℕ). flat_map f (range_with_len 0 n)) (let e : count + 1 ≡ suc count = omega arith in e)
    ∙ flat-from f 0 count ∙ ap (λ (n : ℕ). flat_map f (range_with_len 0 count) ++ f n) (let e : 0 + count ≡ count = omega arith in e)

pub piece-more : (f : ℕ → List ℕ) (front text new : List ℕ) (count : ℕ) → text ≡ front ++ flat_map f (range_with_len 0 count) → new ≡ text ++ f count → new ≡ front ++ flat_map f (range_with_len 0 (count + 1))
piece-more f front text new count kept added =
    added ∙ ap (λ (all : List ℕ). all ++ f count) kept ∙ append_assoc front (flat_map f (range_with_len 0 count)) (f count)
    ∙ ap (λ (all : List ℕ). front ++ all) (sym (flat-more f count))

-- ---- values

lines-more : (all : List (List ℕ)) (values : List Bool) (code : List ℕ) (value : Bool) → length all ≡ length values
    → value_lines (all ++ code ∷ []) (values ++ value ∷ []) ≡ value_lines all values ++ line (digit value ∷ code)
lines-more [] [] code value same = append-nil (line (digit value ∷ code))
lines-more [] (v ∷ values) code value same = absurd (omega arith)
lines-more (c ∷ all) [] code value same = absurd (omega arith)
lines-more (c ∷ all) (v ∷ values) code value same =
    ap (λ (rest : List ℕ). line (digit v ∷ c) ++ rest) (lines-more all values code value (omega arith))
    ∙ sym (append_assoc (line (digit v ∷ c)) (value_lines all values) (line (digit value ∷ code)))

pub codes-more : (signals : ℕ) → codes_of (signals + 1) ≡ codes_of signals ++ code_of signals ∷ []
codes-more signals = map-range_with_len_more code_of 0 signals signals (omega arith)

pub value-more : (values : List Bool) (front text new : List ℕ) (signal : ℕ) → signal < length values → text ≡ front ++ value_lines (codes_of signal) (take signal values)
    → new ≡ text ++ line (digit (slice_index_or values signal false) ∷ code_of signal) → new ≡ front ++ value_lines (codes_of (signal + 1)) (take (signal + 1) values)
value-more values front text new signal within kept added =
    let value = slice_index_or values signal false in
    let sizes : length (codes_of signal) ≡ length (take signal values) = omega (arith, within, length-map-range_with_len code_of 0 signal, length-take-le signal values (omega (arith, within))) in
    added ∙ ap (λ (all : List ℕ). all ++ line (digit value ∷ code_of signal)) kept
    ∙ append_assoc front (value_lines (codes_of signal) (take signal values)) (line (digit value ∷ code_of signal))
    ∙ ap (λ (all : List ℕ). front ++ all)
    (sym (lines-more (codes_of signal) (take signal values) (code_of signal) value sizes)
    ∙ ap (λ (cs : List (List ℕ)). value_lines cs (take signal values ++ value ∷ [])) (sym (codes-more signal))
    ∙ ap (value_lines (codes_of (signal + 1))) (sym (take_more values signal false within)))

-- ---- a sample

pub sampled-more : (codes : List (List ℕ)) (values : ℕ → List Bool) (front text timed new : List ℕ) (sample : ℕ) → text ≡ front ++ samples_from codes values 0 sample
    → timed ≡ text ++ line (35 ∷ decimal sample) → new ≡ timed ++ value_lines codes (values sample) → new ≡ front ++ samples_from codes values 0 (sample + 1)
sampled-more codes values front text timed new sample kept time added =
    sample-more codes values front text new sample kept
    (added ∙ ap (λ (all : List ℕ). all ++ value_lines codes (values sample)) time ∙ append_assoc text (line (35 ∷ decimal sample)) (value_lines codes (values sample)))

-- ---- a declaration

pub pieces-added : (text one two three four new code name : List ℕ) → one ≡ text ++ codes "$var wire 1 " → two ≡ one ++ code → three ≡ two ++ codes " " → four ≡ three ++ name
    → new ≡ four ++ codes " $end\n" → new ≡ text ++ line (codes "$var wire 1 " ++ code ++ codes " " ++ name ++ codes " $end")
pieces-added text one two three four new code name first second third fourth last =
    let start = codes "$var wire 1 " in
    let there : new ≡ ((((text ++ start) ++ code) ++ codes " ") ++ name) ++ codes " $end\n" =
    last ∙ ap (λ (t : List ℕ). t ++ codes " $end\n") (fourth ∙ ap (λ (t : List ℕ). t ++ name) (third ∙ ap (λ (t : List ℕ). t ++ codes " ") (second ∙ ap (λ (t : List ℕ). t ++ code) first))) in
    there
    ∙ ap (λ (t : List ℕ). ((t ++ codes " ") ++ name) ++ codes " $end\n") (append_assoc text start code)
    ∙ ap (λ (t : List ℕ). (t ++ name) ++ codes " $end\n") (append_assoc text (start ++ code) (codes " "))
    ∙ ap (λ (t : List ℕ). t ++ codes " $end\n") (append_assoc text (start ++ code ++ codes " ") name)
    ∙ append_assoc text (start ++ code ++ codes " " ++ name) (codes " $end\n")
    ∙ ap (λ (t : List ℕ). text ++ t) (sym (append_assoc (start ++ code ++ codes " " ++ name) (codes " $end") (10 ∷ [])))

-- ---- the declaration of a vector

-- one piece more behind a text
pub one-more : (text old front piece new : List ℕ) → old ≡ text ++ front → new ≡ old ++ piece → new ≡ text ++ (front ++ piece)
one-more text old front piece new kept added = added ∙ ap (λ (all : List ℕ). all ++ piece) kept ∙ append_assoc text front piece

pub vector-added : (text one two three four five six new size code name : List ℕ) → one ≡ text ++ codes "$var wire " → two ≡ one ++ size → three ≡ two ++ codes " " → four ≡ three ++ code
    → five ≡ four ++ codes " " → six ≡ five ++ name → new ≡ six ++ codes " $end\n" → new ≡ text ++ line (codes "$var wire " ++ size ++ codes " " ++ code ++ codes " " ++ name ++ codes " $end")
vector-added text one two three four five six new size code name first second third fourth fifth sixth last =
    let to_size = codes "$var wire " ++ size in
    let to_gap = to_size ++ codes " " in
    let to_code = to_gap ++ code in
    let to_next = to_code ++ codes " " in
    let to_name = to_next ++ name in
    one-more text six to_name (codes " $end\n") new
    (one-more text five to_next name six
    (one-more text four to_code (codes " ") five
    (one-more text three to_gap code four
    (one-more text two to_size (codes " ") three
    (one-more text one (codes "$var wire ") size two first second) third) fourth) fifth) sixth) last
    ∙ ap (λ (rest : List ℕ). text ++ rest) (sym (append_assoc to_name (codes " $end") (10 ∷ [])))
