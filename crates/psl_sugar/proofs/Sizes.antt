-- The sizes of rows: each is at least as large as its parts are, and grows with its counts.
use Rattle.std.proofs.Common.{◌≡◌, ℕ, zero, suc, ◌+◌, ◌-◌, ◌/◌, ◌^◌, max, ◌≤◌, ◌<◌, nat_lt, Bool, true, false, ◌&&◌, ◌==◌, if◌then◌else◌, arith, refl, ap, subst, add-one, add-zero, add-suc}
use Rattle.std.proofs.lemmas.Bool.Decides.{nat_tests}
use Rattle.psl_tree.specs.Trees.{Boolean, Sequence, Formula, Empty, One, Concat, Fuse, Either, Both, Star, Clocked, Now, Not, And, Or, Next}
use Rattle.psl_tree.specs.Counts.{boolean_size, sequence_size, formula_size}
use Rattle.psl_sugar.specs.declared.operator.Strength.{Strength}
use Rattle.psl_sugar.specs.declared.operator.Strength.TheVariants as strength
use Rattle.psl_sugar.specs.declared.operator.Quantifier.{Quantifier}
use Rattle.psl_sugar.specs.declared.operator.Quantifier.TheVariants as quantifier
use Rattle.psl_sugar.specs.declared.count.Count.{Count}
use Rattle.psl_sugar.specs.declared.count.Count.TheVariants.{Times, Between, AtLeast}
use Rattle.std.proofs.Math.Nat.{div-eq_of_lt, pow-le-pow_right}
use Rattle.psl_sugar.specs.Booleans.{conjunction_of, disjunction_of, has_bit}
use Rattle.psl_sugar.specs.Comparisons.{side_bit, less_there, less_within}
use Rattle.psl_sugar.specs.declared.operand.Operand.{Operand}
use Rattle.psl_sugar.specs.Counting.{is_zero}
use Rattle.psl_sugar.specs.Sequences.{times, optional, between, at_least, repeated}
use Rattle.psl_sugar.specs.Properties.{until, next, next_steps, next_times, next_event, next_event_times, joined, joined_parts}

pub until_size : (kind : Strength) (left right : Formula) → formula_size left + formula_size right + 1 ≤ formula_size (until kind left right)
until_size strength.Strong left right = omega arith
until_size strength.Weak left right = omega arith

pub sequence_is_some : (part : Sequence) → 1 ≤ sequence_size part
sequence_is_some Empty = omega arith
sequence_is_some (One test) = omega arith
sequence_is_some (Concat left right) = omega arith
sequence_is_some (Fuse left right) = omega arith
sequence_is_some (Either left right) = omega arith
sequence_is_some (Both left right) = omega arith
sequence_is_some (Star part) = omega arith
sequence_is_some (Clocked part clock) = omega arith

-- one copy more stands before the others
pub times_more : (count : ℕ) (part : Sequence) → 1 ≤ count → times (count + 1) part ≡ Concat part (times count part)
times_more zero part some = absurd (omega arith)
times_more (suc count) part some = rw add-one refl

times_step : (count : ℕ) (part : Sequence) → sequence_size (times count part) ≤ sequence_size (times (suc count) part)
times_step zero part = sequence_is_some part
times_step (suc count) part = omega arith

times_grows_by : (more count : ℕ) (part : Sequence) → sequence_size (times count part) ≤ sequence_size (times (count + more) part)
times_grows_by zero count part = rw add-zero (omega arith)
times_grows_by (suc more) count part =
    rw add-suc (omega (arith, times_grows_by more count part, times_step (count + more) part))

pub times_grows : (low high : ℕ) (part : Sequence) → low ≤ high → sequence_size (times low part) ≤ sequence_size (times high part)
times_grows low high part le =
    let P : ℕ → Type 0 = λ n. sequence_size (times low part) ≤ sequence_size (times n part) in
    let whole : low + (high - low) ≡ high = omega arith in
    subst P whole (times_grows_by (high - low) low part)

-- a copy and so many others fit where a larger count fits
pub times_within : (count high : ℕ) (part : Sequence) → 1 ≤ count → count < high → sequence_size part + sequence_size (times count part) + 1 ≤ sequence_size (times high part)
times_within count high part some below =
    let more : sequence_size (times (count + 1) part) ≤ sequence_size (times high part) = times_grows (count + 1) high part (omega arith) in
    let whole : sequence_size (times (count + 1) part) ≡ sequence_size part + sequence_size (times count part) + 1 = ap sequence_size (times_more count part some) in
    omega arith

pub times_holds : (count : ℕ) (part : Sequence) → 1 ≤ count → sequence_size part ≤ sequence_size (times count part)
times_holds count part some = times_grows 1 count part some

-- a choice holds what both of its sides hold
holds_either : (size : ℕ) (test : Bool) (left right : Sequence) → (test ≡ true → size ≤ sequence_size left) → (test ≡ false → size ≤ sequence_size right) → size ≤ sequence_size (if test then left else right)
holds_either size true left right whole other = whole refl
holds_either size false left right whole other = other refl

below_from_test : (low high : ℕ) → nat_lt low high ≡ true → 1 ≤ high - low
below_from_test low high test = grind (arith, nat_tests)

above_from_test : (low high : ℕ) → nat_lt low high ≡ false → high ≤ low
above_from_test low high test = grind (arith, nat_tests)

zero_from_test : (low : ℕ) → (low == 0) ≡ true → low ≡ 0
zero_from_test low test = grind (arith, nat_tests)

some_from_test : (low : ℕ) → (low == 0) ≡ false → 1 ≤ low
some_from_test low test = grind (arith, nat_tests)

between_holds : (low high : ℕ) (part : Sequence) → 1 ≤ low + high → sequence_size part ≤ sequence_size (between low high part)
between_holds low high part some =
    holds_either (sequence_size part) (nat_lt low high) _ _
    (λ below. holds_either (sequence_size part) (low == 0) _ _
    (λ zero_is. let range : 1 ≤ high - low = below_from_test low high below in omega (arith, times_holds high (optional part) (omega arith)))
    (λ some_is. omega (arith, times_holds low part (some_from_test low some_is))))
    (λ above. times_holds low part (let le : high ≤ low = above_from_test low high above in omega arith))

at_least_holds : (low : ℕ) (part : Sequence) → sequence_size part ≤ sequence_size (at_least low part)
at_least_holds low part =
    holds_either (sequence_size part) (low == 0) _ _ (λ zero_is. omega arith) (λ some_is. omega arith)

some_of_two : (low high : ℕ) → (low == 0 && high == 0) ≡ false → 1 ≤ low + high
some_of_two low high test = grind (arith, nat_tests)

-- a repetition is at least as large as what it repeats, if the count is not 0
pub repeated_holds : (count : Count) (part : Sequence) → is_zero count ≡ false → sequence_size part ≤ sequence_size (repeated count part)
repeated_holds (Times count) part some = times_holds count part (some_from_test count some)
repeated_holds (Between low high) part some = between_holds low high part (some_of_two low high some)
repeated_holds (AtLeast low) part some = at_least_holds low part

both_zero : (low high : ℕ) → (low == 0 && high == 0) ≡ true → (low ≡ 0) × (high ≡ 0)
both_zero low high test = grind (arith, nat_tests)

-- a count of 0 is the empty sequence, whatever is repeated
pub repeated_zero : (count : Count) (part : Sequence) → is_zero count ≡ true → repeated count part ≡ Empty
repeated_zero (Times count) part none = rw (zero_from_test count none) refl
repeated_zero (Between low high) part none =
    let both : (low ≡ 0) × (high ≡ 0) = both_zero low high none in rw (both.0, both.1) refl
repeated_zero (AtLeast low) part none = cc

-- so many steps more are so many constructors more
pub next_steps_size : (count : ℕ) (part : Formula) → formula_size (next_steps count part) ≡ formula_size part + count
next_steps_size zero part = omega arith
next_steps_size (suc count) part = omega (arith, next_steps_size count part)

pub next_steps_more : (count : ℕ) (part : Formula) → next_steps (count + 1) part ≡ Next (next_steps count part)
next_steps_more count part = rw add-one refl

next_size : (kind : Strength) (part : Formula) → formula_size part + 1 ≤ formula_size (next kind part)
next_size strength.Strong part = omega arith
next_size strength.Weak part = omega arith

pub next_times_size : (kind : Strength) (count : ℕ) (part : Formula) → formula_size part + count ≤ formula_size (next_times kind count part)
next_times_size strength.Strong count part = omega (arith, next_steps_size count part)
next_times_size strength.Weak count part = omega (arith, next_steps_size count (Not part))

pub next_event_size : (kind : Strength) (test : Boolean) (part : Formula) → formula_size part + boolean_size test + 3 ≤ formula_size (next_event kind test part)
next_event_size kind test part = omega (arith, until_size kind (Not (Now test)) (And (Now test) part))

-- one occurrence more stands before the others
pub next_event_more : (kind : Strength) (test : Boolean) (count : ℕ) (part : Formula) → 1 ≤ count → next_event_times kind test (count + 1) part ≡ next_event kind test (next kind (next_event_times kind test count part))
next_event_more kind test zero part some = absurd (omega arith)
next_event_more kind test (suc count) part some = rw add-one refl

next_event_step : (kind : Strength) (test : Boolean) (count : ℕ) (part : Formula) → formula_size (next_event_times kind test count part) ≤ formula_size (next_event_times kind test (suc count) part)
next_event_step kind test zero part = omega arith
next_event_step kind test (suc count) part =
    let inner : Formula = next_event_times kind test (suc count) part in
    omega (arith, next_size kind inner, next_event_size kind test (next kind inner))

next_event_grows_by : (more count : ℕ) (kind : Strength) (test : Boolean) (part : Formula) → formula_size (next_event_times kind test count part) ≤ formula_size (next_event_times kind test (count + more) part)
next_event_grows_by zero count kind test part = rw add-zero (omega arith)
next_event_grows_by (suc more) count kind test part =
    rw add-suc (omega (arith, next_event_grows_by more count kind test part, next_event_step kind test (count + more) part))

pub next_event_grows : (kind : Strength) (test : Boolean) (low high : ℕ) (part : Formula) → low ≤ high → formula_size (next_event_times kind test low part) ≤ formula_size (next_event_times kind test high part)
next_event_grows kind test low high part le =
    let P : ℕ → Type 0 = λ n. formula_size (next_event_times kind test low part) ≤ formula_size (next_event_times kind test n part) in
    let whole : low + (high - low) ≡ high = omega arith in
    subst P whole (next_event_grows_by (high - low) low kind test part)

-- an occurrence before so many others fits where a larger count fits
pub next_event_within : (kind : Strength) (test : Boolean) (count high : ℕ) (part : Formula) → 1 ≤ count → count < high → formula_size (next_event kind test (next kind (next_event_times kind test count part))) ≤ formula_size (next_event_times kind test high part)
next_event_within kind test count high part some below =
    let more : formula_size (next_event_times kind test (count + 1) part) ≤ formula_size (next_event_times kind test high part) = next_event_grows kind test (count + 1) high part (omega arith) in
    let whole : formula_size (next_event_times kind test (count + 1) part) ≡ formula_size (next_event kind test (next kind (next_event_times kind test count part))) = ap formula_size (next_event_more kind test count part some) in
    omega arith

pub joined_size : (which : Quantifier) (left right : Formula) → formula_size left + formula_size right + 1 ≤ formula_size (joined which left right)
joined_size quantifier.All left right = omega arith
joined_size quantifier.Exists left right = omega arith

-- one part more stands at the right
pub joined_more : (which : Quantifier) (part : ℕ → Formula) (low more : ℕ) → joined_parts which part low (more + 1) ≡ joined which (joined_parts which part low more) (part (low + (more + 1)))
joined_more which part low more = rw add-one refl

joined_grows_by : (which : Quantifier) (part : ℕ → Formula) (low count more : ℕ) → formula_size (joined_parts which part low count) ≤ formula_size (joined_parts which part low (count + more))
joined_grows_by which part low count zero = rw add-zero (omega arith)
joined_grows_by which part low count (suc more) =
    rw add-suc (omega (arith, joined_grows_by which part low count more, joined_size which (joined_parts which part low (count + more)) (part (low + suc (count + more)))))

pub joined_grows : (which : Quantifier) (part : ℕ → Formula) (low count high : ℕ) → count ≤ high → formula_size (joined_parts which part low count) ≤ formula_size (joined_parts which part low high)
joined_grows which part low count high le =
    let P : ℕ → Type 0 = λ n. formula_size (joined_parts which part low count) ≤ formula_size (joined_parts which part low n) in
    let whole : count + (high - count) ≡ high = omega arith in
    subst P whole (joined_grows_by which part low count (high - count))

-- so many parts and one more fit where more parts fit
pub joined_within : (which : Quantifier) (part : ℕ → Formula) (low count high : ℕ) → count < high → formula_size (joined which (joined_parts which part low count) (part (low + (count + 1)))) ≤ formula_size (joined_parts which part low high)
joined_within which part low count high below =
    let more : formula_size (joined_parts which part low (count + 1)) ≤ formula_size (joined_parts which part low high) = joined_grows which part low (count + 1) high (omega arith) in
    let whole : formula_size (joined_parts which part low (count + 1)) ≡ formula_size (joined which (joined_parts which part low count) (part (low + (count + 1)))) = ap formula_size (joined_more which part low count) in
    omega arith

-- an event is part of so many
pub next_event_holds : (kind : Strength) (test : Boolean) (count : ℕ) (part : Formula) → formula_size (next_event kind test part) ≤ formula_size (next_event_times kind test count part)
next_event_holds kind test zero part = omega arith
next_event_holds kind test (suc count) part = next_event_grows kind test 1 (suc count) part (omega arith)

-- where counting from 1 ends
pub next_event_end : (kind : Strength) (test : Boolean) (count done : ℕ) (part : Formula) → 1 ≤ done → count ≤ done → done ≤ max count 1 → next_event_times kind test done part ≡ next_event_times kind test count part
next_event_end kind test zero done part some over within = let one : done ≡ 1 = omega arith in rw one refl
next_event_end kind test (suc count) done part some over within = let same : done ≡ suc count = omega arith in rw same refl

-- the first part is part of all
pub joined_holds : (which : Quantifier) (part : ℕ → Formula) (low more : ℕ) → formula_size (part low) ≤ formula_size (joined_parts which part low more)
joined_holds which part low more = joined_grows which part low 0 more (omega arith)

conjunction_more : (part : ℕ → Boolean) (more : ℕ) → conjunction_of part (more + 1) ≡ And (conjunction_of part more) (part (more + 1))
conjunction_more part more = rw add-one refl

conjunction_grows_by : (part : ℕ → Boolean) (count more : ℕ) → boolean_size (conjunction_of part count) ≤ boolean_size (conjunction_of part (count + more))
conjunction_grows_by part count zero = rw add-zero (omega arith)
conjunction_grows_by part count (suc more) = rw add-suc (omega (arith, conjunction_grows_by part count more))

-- so many parts and one more fit where more parts fit
pub conjunction_within : (part : ℕ → Boolean) (count high : ℕ) → count < high → boolean_size (conjunction_of part count) + boolean_size (part (count + 1)) + 1 ≤ boolean_size (conjunction_of part high)
conjunction_within part count high below =
    let P : ℕ → Type 0 = λ n. boolean_size (conjunction_of part (count + 1)) ≤ boolean_size (conjunction_of part n) in
    let end : (count + 1) + (high - (count + 1)) ≡ high = omega arith in
    let more : boolean_size (conjunction_of part (count + 1)) ≤ boolean_size (conjunction_of part high) = subst P end (conjunction_grows_by part (count + 1) (high - (count + 1))) in
    let whole : boolean_size (conjunction_of part (count + 1)) ≡ boolean_size (conjunction_of part count) + boolean_size (part (count + 1)) + 1 = ap boolean_size (conjunction_more part count) in
    omega arith

disjunction_more : (part : ℕ → Boolean) (more : ℕ) → disjunction_of part (more + 1) ≡ Or (disjunction_of part more) (part (more + 1))
disjunction_more part more = rw add-one refl

disjunction_grows_by : (part : ℕ → Boolean) (count more : ℕ) → boolean_size (disjunction_of part count) ≤ boolean_size (disjunction_of part (count + more))
disjunction_grows_by part count zero = rw add-zero (omega arith)
disjunction_grows_by part count (suc more) = rw add-suc (omega (arith, disjunction_grows_by part count more))

-- the same of disjunctions
pub disjunction_within : (part : ℕ → Boolean) (count high : ℕ) → count < high → boolean_size (disjunction_of part count) + boolean_size (part (count + 1)) + 1 ≤ boolean_size (disjunction_of part high)
disjunction_within part count high below =
    let P : ℕ → Type 0 = λ n. boolean_size (disjunction_of part (count + 1)) ≤ boolean_size (disjunction_of part n) in
    let end : (count + 1) + (high - (count + 1)) ≡ high = omega arith in
    let more : boolean_size (disjunction_of part (count + 1)) ≤ boolean_size (disjunction_of part high) = subst P end (disjunction_grows_by part (count + 1) (high - (count + 1))) in
    let whole : boolean_size (disjunction_of part (count + 1)) ≡ boolean_size (disjunction_of part count) + boolean_size (part (count + 1)) + 1 = ap boolean_size (disjunction_more part count) in
    omega arith

less_grows_by : (left right : Operand) (places more : ℕ) → boolean_size (less_within left right places) ≤ boolean_size (less_within left right (places + more))
less_grows_by left right places zero = rw add-zero (omega arith)
less_grows_by left right places (suc more) = rw add-suc (omega (arith, less_grows_by left right places more))

-- so many bits and one more fit where more bits fit
pub less_fits : (left right : Operand) (places high : ℕ) → places < high →
    boolean_size (less_there (side_bit left places) (side_bit right places) (less_within left right places)) ≤ boolean_size (less_within left right high)
less_fits left right places high below =
    let P : ℕ → Type 0 = λ n. boolean_size (less_within left right (suc places)) ≤ boolean_size (less_within left right n) in
    let end : suc places + (high - suc places) ≡ high = omega arith in
    subst P end (less_grows_by left right (suc places) (high - suc places))

-- a number of 64 bits has no bit past them
pub no_bit : (value place : ℕ) → value < 2 ^ 64 → 64 ≤ place → has_bit value place ≡ false
no_bit value place fits past =
    let power : 2 ^ 64 ≤ 2 ^ place = pow-le-pow_right (omega arith) past in
    let none : value / 2 ^ place ≡ 0 = div-eq_of_lt (omega arith) in
    rw none refl
