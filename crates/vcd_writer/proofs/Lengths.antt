-- How long the text of a made recording is.
use Rattle.std.proofs.Common.{◌≡◌, refl, ℕ, zero, suc, ◌+◌, ◌*◌, ◌^◌, ◌<◌, ◌≤◌, Bool, true, false, [], ◌∷◌, length, arith}
use Rattle.std.specs.Prelude.{decimal}
use Rattle.std.proofs.lemmas.Fmt.{length-decimal-le}
use Rattle.std.proofs.lemmas.List.{length-append}
use Rattle.psl_base.specs.Places.{file_limit}
use Rattle.vcd_reader.specs.Rules.{sample_limit}
use Rattle.vcd_writer.specs.Lines.{line, sample_lines, samples_from, value_lines}
use Rattle.vcd_writer.specs.Generator.{request_at, answer_at}
use Rattle.vcd_writer.specs.Made.{definitions, made_codes, made_text, made_values}

-- the lines of both values
values-length : (request answer : Bool) → length (value_lines made_codes (request ∷ answer ∷ [])) ≡ 6
values-length true true = refl
values-length true false = refl
values-length false true = refl
values-length false false = refl

-- the lines of a sample
sample-length : (sample : ℕ) (request answer : Bool) → sample < 10 ^ 6 → length (sample_lines made_codes sample (request ∷ answer ∷ [])) ≤ 14
sample-length sample request answer small =
    let digits = length-decimal-le 6 sample (omega arith) small (omega (arith, small)) in
    let values = values-length request answer in
    let whole = length-append (line (35 ∷ decimal sample)) (value_lines made_codes (request ∷ answer ∷ [])) in
    let time = length-append (35 ∷ decimal sample) (10 ∷ []) in
    omega (arith, digits, values, whole, time)

-- the lines of so many samples from one on
samples-length : (seed first count : ℕ) → first + count ≤ 10 ^ 6 → length (samples_from made_codes (made_values seed) first count) ≤ count * 14
samples-length seed first zero few = omega arith
samples-length seed first (suc count) few =
    let rest = samples-length seed (first + 1) count (omega (arith, few)) in
    let values = made_values seed first in
    let one = sample-length first (request_at seed first) (answer_at seed first) (omega (arith, few)) in
    let both = length-append (sample_lines made_codes first values) (samples_from made_codes (made_values seed) (first + 1) count) in
    omega (arith, rest, one, both)

-- with samples up to the limit it is no longer than a file may be
pub made_short : (seed samples : ℕ) → samples ≤ sample_limit → length (made_text seed samples) ≤ file_limit
made_short seed samples few =
    let lines = samples-length seed 0 samples (omega (arith, few)) in
    let whole = length-append definitions (samples_from made_codes (made_values seed) 0 samples) in
    omega (arith, lines, whole, few)
