-- One sample more of a recording that is made.
use Rattle.std.proofs.Common.{◌≡◌, ◌∙◌, sym, ap, ℕ, zero, suc, ◌+◌, Bool, List, [], ◌∷◌, ◌++◌, arith, append_assoc}
use Rattle.std.proofs.lemmas.List.{append-nil}
use Rattle.vcd_writer.specs.Generator.{number_after, number_at, bit_16, request_at, answer_at}
use Rattle.vcd_writer.specs.Lines.{sample_lines, samples_from}
use Rattle.vcd_writer.specs.Made.{definitions, made_codes, made_values}

-- the samples with one more behind them
pub samples-more : (codes : List (List ℕ)) (values : ℕ → List Bool) (first count : ℕ)
    → samples_from codes values first (suc count) ≡ samples_from codes values first count ++ sample_lines codes (first + count) (values (first + count))
samples-more codes values first zero =
    append-nil (sample_lines codes first (values first)) ∙ ap (λ (n : ℕ). sample_lines codes n (values n)) (let same : first ≡ first + 0 = omega arith in same)
samples-more codes values first (suc count) =
    ap (λ (rest : List ℕ). sample_lines codes first (values first) ++ rest) (samples-more codes values (first + 1) count)
    ∙ sym (append_assoc (sample_lines codes first (values first)) (samples_from codes values (first + 1) count) (sample_lines codes (first + 1 + count) (values (first + 1 + count))))
    ∙ ap (λ (n : ℕ). samples_from codes values first (suc count) ++ sample_lines codes n (values n)) (let same : first + 1 + count ≡ first + suc count = omega arith in same)

-- a text with the samples from 0 on, and one more behind it
pub sample-more : (codes : List (List ℕ)) (values : ℕ → List Bool) (front text new : List ℕ) (sample : ℕ) → text ≡ front ++ samples_from codes values 0 sample
    → new ≡ text ++ sample_lines codes sample (values sample) → new ≡ front ++ samples_from codes values 0 (sample + 1)
sample-more codes values front text new sample kept added =
    added ∙ ap (λ (all : List ℕ). all ++ sample_lines codes sample (values sample)) kept
    ∙ append_assoc front (samples_from codes values 0 sample) (sample_lines codes sample (values sample))
    ∙ ap (λ (all : List ℕ). front ++ all)
    (ap (λ (n : ℕ). samples_from codes values 0 sample ++ sample_lines codes n (values n)) (let same : sample ≡ 0 + sample = omega arith in same)
    ∙ sym (samples-more codes values 0 sample) ∙ ap (samples_from codes values 0) (let later : suc sample ≡ sample + 1 = omega arith in later))

-- what is kept after so many samples
abbrev pub Kept : ℕ → ℕ → List ℕ → ℕ → Bool → Type 0
Kept seed sample text number answer = (text ≡ definitions ++ samples_from made_codes (made_values seed) 0 sample) × (number ≡ number_at seed sample) × (answer ≡ answer_at seed sample)

pub one-more : (seed sample old number : ℕ) (text new : List ℕ) (answer request : Bool) → Kept seed sample text old answer
    → number ≡ number_after old → request ≡ bit_16 number → new ≡ text ++ sample_lines made_codes sample (request ∷ answer ∷ [])
    → Kept seed (sample + 1) new number request
one-more seed sample old number text new answer request kept next is added =
    let later : sample + 1 ≡ suc sample = omega arith in
    let numbered : number ≡ number_at seed (suc sample) = next ∙ ap number_after kept.1 in
    let requested : request ≡ request_at seed sample = is ∙ ap bit_16 numbered in
    let lines : sample_lines made_codes sample (request ∷ answer ∷ []) ≡ sample_lines made_codes sample (made_values seed sample) =
    ap (λ (b : Bool). sample_lines made_codes sample (b ∷ answer ∷ [])) requested ∙ ap (λ (b : Bool). sample_lines made_codes sample (request_at seed sample ∷ b ∷ [])) kept.2 in (
      sample-more made_codes (made_values seed) definitions text new sample kept.0 (added ∙ ap (λ (all : List ℕ). text ++ all) lines),
      numbered ∙ ap (number_at seed) (sym later),
      requested ∙ ap (answer_at seed) (sym later),
    )
