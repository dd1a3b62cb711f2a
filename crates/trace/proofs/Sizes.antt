-- How many bytes the parts of a trace have.
use Rattle.std.proofs.Common.{◌≡◌, ◌∙◌, refl, sym, ap, subst, ℕ, zero, suc, ◌+◌, ◌<◌, ◌≤◌, Bool, false, List, [], ◌∷◌, ◌++◌, length, length-append, Option, None, Some, arith, inl, inr}
use Rattle.std.specs.Prelude.{decimal, nat_le, codes, is_some}
use Rattle.std.proofs.lemmas.Bool.{cases_lt, cond-false, cond-true, le-leb, lt-leb}
use Rattle.std.proofs.lemmas.List.Sums.{sum_by-append}
use Rattle.std.proofs.lemmas.List.FromFn.{length-map-range_with_len, sum_by-map-range_with_len_more}
use Rattle.netlist.specs.Design.{Design}
use Rattle.netlist.specs.Runs.{IsMade}
use Rattle.netlist.specs.declared.run.Run.{Run}
use Rattle.psl_tree.specs.declared.name.Name.{Name}
use Rattle.trace.proofs.ForEver.{sized}
use Rattle.trace.proofs.Growing.{flat-more}
use Rattle.trace.specs.Codes.{code_of, codes_of}
use Rattle.trace.specs.Lengths.{plus, values_size, within}
use Rattle.trace.specs.Printed.{printed}
use Rattle.trace.specs.Trace.{count_of, declaration, declaration_of, declarations, definitions, trace_text, valuation_in}
use Rattle.vcd_writer.proofs.Growing.{samples-more}
use Rattle.vcd_writer.specs.Lines.{digit, line, sample_lines, samples_from, value_lines}

-- ---- numbers within a bound

within-is : (most number : ℕ) → number ≤ most → within most number ≡ Some number
within-is most number low = cond-true (nat_le number most) _ _ (le-leb number most low)

within-none : (most number : ℕ) → most < number → within most number ≡ None
within-none most number high = cond-false (nat_le number most) _ _ (lt-leb number most high)

-- the sum of two numbers within a bound is their sum within it
pub plus-within : (most left right : ℕ) → plus most (within most left) (within most right) ≡ within most (left + right)
plus-within most left right = elim (cases_lt most left) [
  | inl high ↦
      ap (λ (o : Option ℕ). plus most o (within most right)) (within-none most left high) ∙ sym (within-none most (left + right) (omega (arith, high)))
  | inr low ↦ elim (cases_lt most right) [
    | inl high ↦
        ap (λ (o : Option ℕ). plus most o (within most right)) (within-is most left low)
        ∙ ap (plus most (Some left)) (within-none most right high) ∙ sym (within-none most (left + right) (omega (arith, high)))
    | inr small ↦
        ap (λ (o : Option ℕ). plus most o (within most right)) (within-is most left low)
        ∙ ap (plus most (Some left)) (within-is most right small)
  ]
]

pub grown : (most old more : ℕ) (sum extra new : Option ℕ) → sum ≡ within most old → extra ≡ within most more → new ≡ plus most sum extra → new ≡ within most (old + more)
grown most old more sum extra new before there is =
    is ∙ ap (plus most sum) there ∙ ap (λ (o : Option ℕ). plus most o (within most more)) before ∙ plus-within most old more

pub none-from : (found : Option ℕ) → is_some found ≡ false → found ≡ None
none-from None none = refl
none-from (Some number) none = cc

-- what is past a bound stays so
pub past-stays : (most less more : ℕ) → within most less ≡ None → less ≤ more → within most more ≡ None
past-stays most less more none le = elim (cases_lt most less) [
  | inl high ↦ within-none most more (omega (arith, high, le))
  | inr low ↦ absurd (let bad : Some less ≡ None = sym (within-is most less low) ∙ none in cc)
]

pub past-none : (most number : ℕ) → most < number → within most number ≡ None
past-none most number high = within-none most number high

-- ---- declarations

pub declaration-length : (name : List ℕ) (signal : ℕ) → length (declaration_of name signal) ≡ length (code_of signal) + 19 + length (printed name)
declaration-length name signal =
    let start = codes "$var wire 1 " ++ code_of signal in
    let spaced = start ++ codes " " in
    let named = spaced ++ printed name in
    let ended = named ++ codes " $end" in
    omega (arith, length-append ended (10 ∷ []), length-append named (codes " $end"), length-append spaced (printed name), length-append start (codes " "), length-append (codes "$var wire 1 ") (code_of signal))

pub declarations-length : (names : List Name) (signal : ℕ) → length (declarations names (signal + 1)) ≡ length (declarations names signal) + length (declaration names signal)
declarations-length names signal =
    ap (λ (all : List ℕ). length all) (flat-more (declaration names) signal) ∙ length-append (declarations names signal) (declaration names signal)

-- ---- values

pub values-more : (signals : ℕ) → values_size (codes_of (signals + 1)) ≡ values_size (codes_of signals) + (length (code_of signals) + 2)
values-more signals = sum_by-map-range_with_len_more (λ (code : List ℕ). length code + 2) code_of 0 signals signals (omega arith)

value-length : (value : Bool) (code : List ℕ) → length (line (digit value ∷ code)) ≡ length code + 2
value-length value code = length-append (digit value ∷ code) (10 ∷ []) ∙ (let e : suc (length code) + 1 ≡ length code + 2 = omega arith in e)

size-more : (code : List ℕ) (more : List (List ℕ)) → values_size (code ∷ more) ≡ length code + 2 + values_size more
size-more code more = let sum = sum_by-append (λ (c : List ℕ). length c + 2) (code ∷ []) more in omega (arith, sum)

lines-length : (all : List (List ℕ)) (values : List Bool) → length values ≡ length all → length (value_lines all values) ≡ values_size all
lines-length [] [] same = refl
lines-length [] (value ∷ values) same = absurd (omega arith)
lines-length (code ∷ all) [] same = absurd (omega arith)
lines-length (code ∷ all) (value ∷ values) same =
    length-append (line (digit value ∷ code)) (value_lines all values)
    ∙ ap (λ (n : ℕ). n + length (value_lines all values)) (value-length value code)
    ∙ ap (λ (n : ℕ). length code + 2 + n) (lines-length all values (omega arith))
    ∙ sym (size-more code all)

-- ---- samples

abbrev run_samples : Design → Run → ℕ → List ℕ
run_samples design run count = samples_from (codes_of design.signals) (valuation_in run) 0 count

pub time-length : (time : ℕ) → length (line (35 ∷ decimal time)) ≡ length (decimal time) + 2
time-length time = length-append (35 ∷ decimal time) (10 ∷ []) ∙ (let e : suc (length (decimal time)) + 1 ≡ length (decimal time) + 2 = omega arith in e)

sample-length : (design : Design) (run : Run) → IsMade design run → (sample : ℕ)
    → length (sample_lines (codes_of design.signals) sample (valuation_in run sample)) ≡ length (line (35 ∷ decimal sample)) + values_size (codes_of design.signals)
sample-length design run is sample =
    length-append (line (35 ∷ decimal sample)) (value_lines (codes_of design.signals) (valuation_in run sample))
    ∙ ap (λ (n : ℕ). length (line (35 ∷ decimal sample)) + n)
    (lines-length (codes_of design.signals) (valuation_in run sample) (sized design run is sample ∙ sym (length-map-range_with_len code_of 0 design.signals)))

pub samples-length : (design : Design) (run : Run) → IsMade design run → (sample : ℕ)
    → length (run_samples design run (sample + 1)) ≡ length (run_samples design run sample) + (length (line (35 ∷ decimal sample)) + values_size (codes_of design.signals))
samples-length design run is sample =
    let codes = codes_of design.signals in
    let values = valuation_in run in
    ap (λ (n : ℕ). length (run_samples design run n)) (let e : sample + 1 ≡ suc sample = omega arith in e)
    ∙ ap (λ (all : List ℕ). length all) (samples-more codes values 0 sample)
    ∙ length-append (run_samples design run sample) (sample_lines codes (0 + sample) (values (0 + sample)))
    ∙ ap (λ (n : ℕ). length (run_samples design run sample) + length (sample_lines codes n (values n))) (let e : 0 + sample ≡ sample = omega arith in e)
    ∙ ap (λ (n : ℕ). length (run_samples design run sample) + n) (sample-length design run is sample)

-- a part of the samples is no longer than all
pub samples-rise : (design : Design) (run : Run) → IsMade design run → (less more : ℕ) → length (run_samples design run less) ≤ length (run_samples design run (less + more))
samples-rise design run is less zero = subst (λ (n : ℕ). length (run_samples design run less) ≤ length (run_samples design run n)) (let e : less ≡ less + zero = omega arith in e) (omega arith)
samples-rise design run is less (suc more) =
    let rest = samples-rise design run is less more in
    let step = samples-length design run is (less + more) in
    subst (λ (n : ℕ). length (run_samples design run less) ≤ length (run_samples design run n)) (let e : less + more + 1 ≡ less + suc more = omega arith in e) (omega (arith, rest, step))

-- each sample has a byte at least
pub samples-many : (design : Design) (run : Run) → IsMade design run → (count : ℕ) → count ≤ length (run_samples design run count)
samples-many design run is zero = omega arith
samples-many design run is (suc count) =
    let rest = samples-many design run is count in
    let step = samples-length design run is count in
    let time = time-length count in
    subst (λ (n : ℕ). n ≤ length (run_samples design run n)) (let e : count + 1 ≡ suc count = omega arith in e) (omega (arith, rest, step, time))

-- one sample more within a bound
pub sample-within : (design : Design) (run : Run) → IsMade design run → (most sample : ℕ) (sum time values new : Option ℕ) → sum ≡ within most (length (run_samples design run sample))
    → time ≡ within most (length (line (35 ∷ decimal sample))) → values ≡ within most (values_size (codes_of design.signals)) → new ≡ plus most sum (plus most time values)
    → new ≡ within most (length (run_samples design run (sample + 1)))
sample-within design run is most sample sum time values new old timed valued added =
    added
    ∙ ap (plus most sum) (ap (plus most time) valued ∙ ap (λ (o : Option ℕ). plus most o (within most (values_size (codes_of design.signals)))) timed
    ∙ plus-within most (length (line (35 ∷ decimal sample))) (values_size (codes_of design.signals)))
    ∙ ap (λ (o : Option ℕ). plus most o (within most (length (line (35 ∷ decimal sample)) + values_size (codes_of design.signals)))) old
    ∙ plus-within most (length (run_samples design run sample)) (length (line (35 ∷ decimal sample)) + values_size (codes_of design.signals))
    ∙ ap (within most) (sym (samples-length design run is sample))

-- ---- the whole text

pub text-length : (design : Design) (run : Run) (loops : ℕ)
    → length (trace_text design run loops) ≡ length (declarations design.names design.signals) + 21 + length (run_samples design run (count_of run loops))
text-length design run loops =
    length-append (definitions design) (run_samples design run (count_of run loops))
    ∙ ap (λ (n : ℕ). n + length (run_samples design run (count_of run loops))) (length-append (declarations design.names design.signals) (line (codes "$enddefinitions $end")))
