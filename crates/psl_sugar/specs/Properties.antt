-- Properties that stand for others (IEEE 1850, clause 6.2 and Annex B). Each equation is a row of the
-- table, for a strong or a weak operator.
use Rattle.std.specs.Prelude.{ℕ, zero, suc, ◌+◌, ◌-◌}
use Rattle.psl_tree.specs.Trees.{Boolean, Sequence, Formula, Concat, Now, Strong, Not, And, Next, Until, Suffix, Abort, SyncAbort, Clocked}
use Rattle.psl_tree.specs.Sugar.{disjunction, implication, eventually, always, next_strong, next_weak}
use Rattle.psl_sugar.specs.Sequences.{any_letter, any_letters}
use Rattle.psl_sugar.specs.declared.abort.AbortOperator.{AbortOperator}
use Rattle.psl_sugar.specs.declared.abort.AbortOperator.TheVariants as aborts
use Rattle.psl_sugar.specs.declared.suffix.SuffixOperator.{SuffixOperator}
use Rattle.psl_sugar.specs.declared.suffix.SuffixOperator.TheVariants as suffixes
use Rattle.psl_sugar.specs.declared.until.UntilOperator.{UntilOperator}
use Rattle.psl_sugar.specs.declared.until.UntilOperator.TheVariants as untils
use Rattle.psl_sugar.specs.declared.operator.Strength.{Strength}
use Rattle.psl_sugar.specs.declared.operator.Strength.TheVariants as strength
use Rattle.psl_sugar.specs.declared.operator.Quantifier.{Quantifier}
use Rattle.psl_sugar.specs.declared.operator.Quantifier.TheVariants as quantifier

-- f <-> g: (f -> g) && (g -> f)
abbrev pub iff : Formula → Formula → Formula
iff left right = And (implication left right) (implication right left)

-- f W g: (f U g) || G f
abbrev pub weak_until : Formula → Formula → Formula
weak_until left right = disjunction (Until left right) (always left)

-- never f: G not f
abbrev pub never : Formula → Formula
never part = always (Not part)

-- never r: G not (r!)
abbrev pub never_sequence : Sequence → Formula
never_sequence sequence = never (Strong sequence)

-- eventually! r: F (r!)
abbrev pub eventually_sequence : Sequence → Formula
eventually_sequence sequence = eventually (Strong sequence)

-- f until! g, f until g: f U g, f W g
abbrev pub until : Strength → Formula → Formula → Formula
until strength.Strong left right = Until left right
until strength.Weak left right = weak_until left right

-- f until!_ g, f until_ g: f U (f && g), f W (f && g)
abbrev pub until_overlapping : Strength → Formula → Formula → Formula
until_overlapping kind left right = until kind left (And left right)

-- f before! g, f before g: (not g) U (f && not g), (not g) W (f && not g)
abbrev pub before : Strength → Formula → Formula → Formula
before kind left right = until kind (Not right) (And left (Not right))

-- f before!_ g, f before_ g: (not g) U f, (not g) W f
abbrev pub before_overlapping : Strength → Formula → Formula → Formula
before_overlapping kind left right = until kind (Not right) left

-- an operator that is strong or weak: a row for each
abbrev pub until_row : UntilOperator → Strength → Formula → Formula → Formula
until_row untils.Until kind left right = until kind left right
until_row untils.UntilOverlap kind left right = until_overlapping kind left right
until_row untils.Before kind left right = before kind left right
until_row untils.BeforeOverlap kind left right = before_overlapping kind left right

-- next! f, next f
abbrev pub next : Strength → Formula → Formula
next strength.Strong part = next_strong part
next strength.Weak part = next_weak part

-- next![1](f): X! f; next![k](f) for k > 1: X! next![k-1](f). A count of 0, which no text has, is f
abbrev pub next_steps : ℕ → Formula → Formula
next_steps zero part = part
next_steps (suc more) part = Next (next_steps more part)

-- next![k](f); next[k](f): not next![k](not f)
abbrev pub next_times : Strength → ℕ → Formula → Formula
next_times strength.Strong count part = next_steps count part
next_times strength.Weak count part = Not (next_steps count (Not part))

-- next_event!(b)(f), next_event(b)(f): (not b) U (b && f), (not b) W (b && f)
abbrev pub next_event : Strength → Boolean → Formula → Formula
next_event kind test part = until kind (Not (Now test)) (And (Now test) part)

-- next_event!(b)[k](f), k > 1: next_event!(b)(next! next_event!(b)[k-1](f)), and weak alike; a count
-- of 1 is the form without a count, and so is 0, which no text has
abbrev pub next_event_times : Strength → Boolean → ℕ → Formula → Formula
next_event_times kind test zero part = next_event kind test part
next_event_times kind test (suc zero) part = next_event kind test part
next_event_times kind test (suc (suc more)) part = next_event kind test (next kind (next_event_times kind test (suc more) part))

-- the conjunction or the disjunction of two
abbrev pub joined : Quantifier → Formula → Formula → Formula
joined quantifier.All left right = And left right
joined quantifier.Exists left right = disjunction left right

-- the conjunction or the disjunction, from the left, of part low and so many parts after it
abbrev pub joined_parts : Quantifier → (ℕ → Formula) → ℕ → ℕ → Formula
joined_parts which part low zero = part low
joined_parts which part low (suc more) = joined which (joined_parts which part low more) (part (low + suc more))

-- next_a![i:j](f), next_e![i:j](f): conjunction, disjunction of next![n](f), n from i to j; and weak alike
abbrev pub next_range : Quantifier → Strength → ℕ → ℕ → Formula → Formula
next_range which kind low high part = joined_parts which (λ count. next_times kind count part) low (high - low)

-- next_event_a!(b)[i:j](f), next_event_e!(b)[i:j](f): conjunction, disjunction of next_event!(b)[n](f),
-- n from i to j; and weak alike
abbrev pub next_event_range : Quantifier → Strength → Boolean → ℕ → ℕ → Formula → Formula
next_event_range which kind test low high part = joined_parts which (λ count. next_event_times kind test count part) low (high - low)

-- r |=> f: {r ; true} |-> f
abbrev pub suffix_next : Sequence → Formula → Formula
suffix_next sequence part = Suffix (Concat sequence any_letter) part

-- a suffix implication: a row for each
abbrev pub suffix_row : SuffixOperator → Sequence → Formula → Formula
suffix_row suffixes.Overlapping sequence part = Suffix sequence part
suffix_row suffixes.Next sequence part = suffix_next sequence part

-- an abort: a row for each
abbrev pub abort_row : AbortOperator → Formula → Boolean → Formula
abort_row aborts.Asynchronous part test = Abort part test
abort_row aborts.Synchronous part test = SyncAbort part test

-- cover r: {[*];r}!
abbrev pub covered : Sequence → Formula
covered sequence = Strong (Concat any_letters sequence)

-- cover r@d: ({[*];r}!)@d
abbrev pub covered_at : Sequence → Boolean → Formula
covered_at sequence clock = Clocked (covered sequence) clock
