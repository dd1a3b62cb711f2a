-- What each atom of the operands has, each atom of a property made of them has.
use Rattle.std.proofs.Common.{ℕ, zero, suc, ◌+◌, ◌-◌}
use Rattle.psl_tree.specs.Sugar.{eventually, always}
use Rattle.psl_sugar.specs.Properties.{never, never_sequence, eventually_sequence, until, until_overlapping, before, before_overlapping, next, next_steps, next_times, next_event, next_event_times, joined, joined_parts, next_range, next_event_range, covered, covered_at}
use Rattle.psl_sugar.specs.declared.operator.Quantifier.{Quantifier}
use Rattle.psl_sugar.specs.declared.operator.Quantifier.TheVariants as quantifier
use Rattle.psl_sugar.specs.declared.operator.Strength.{Strength}
use Rattle.psl_sugar.specs.declared.operator.Strength.TheVariants as strength
use Rattle.psl_tree.specs.Atoms.{AtomsOfBoolean, AtomsOfSequence, AtomsOfFormula}
use Rattle.psl_tree.specs.Trees.{Boolean, Sequence, Formula, And, Not, Now}
use Rattle.psl_tree.specs.declared.atom.Atom.{Atom}

module _ (P : Atom → Type 0) where
  pub eventually-has : (part : Formula) → AtomsOfFormula P part → AtomsOfFormula P (eventually part)
  eventually-has part h = (tt, h)

  pub always-has : (part : Formula) → AtomsOfFormula P part → AtomsOfFormula P (always part)
  always-has part h = (tt, h)

  pub never-has : (part : Formula) → AtomsOfFormula P part → AtomsOfFormula P (never part)
  never-has part h = (tt, h)

  pub never-sequence-has : (part : Sequence) → AtomsOfSequence P part → AtomsOfFormula P (never_sequence part)
  never-sequence-has part h = (tt, h)

  pub eventually-sequence-has : (part : Sequence) → AtomsOfSequence P part → AtomsOfFormula P (eventually_sequence part)
  eventually-sequence-has part h = (tt, h)

  pub until-has : (kind : Strength) (left right : Formula) → AtomsOfFormula P left → AtomsOfFormula P right → AtomsOfFormula P (until kind left right)
  until-has strength.Strong left right h k = (h, k)
  until-has strength.Weak left right h k = ((h, k), (tt, h))

  pub until-overlapping-has : (kind : Strength) (left right : Formula) → AtomsOfFormula P left → AtomsOfFormula P right → AtomsOfFormula P (until_overlapping kind left right)
  until-overlapping-has kind left right h k = until-has kind left (And left right) h (h, k)

  pub before-has : (kind : Strength) (left right : Formula) → AtomsOfFormula P left → AtomsOfFormula P right → AtomsOfFormula P (before kind left right)
  before-has kind left right h k = until-has kind (Not right) (And left (Not right)) k (h, k)

  pub before-overlapping-has : (kind : Strength) (left right : Formula) → AtomsOfFormula P left → AtomsOfFormula P right → AtomsOfFormula P (before_overlapping kind left right)
  before-overlapping-has kind left right h k = until-has kind (Not right) left k h

  pub next-has : (kind : Strength) (part : Formula) → AtomsOfFormula P part → AtomsOfFormula P (next kind part)
  next-has strength.Strong part h = h
  next-has strength.Weak part h = h

  steps-has : (count : ℕ) (part : Formula) → AtomsOfFormula P part → AtomsOfFormula P (next_steps count part)
  steps-has zero part h = h
  steps-has (suc more) part h = steps-has more part h

  pub next-times-has : (kind : Strength) (count : ℕ) (part : Formula) → AtomsOfFormula P part → AtomsOfFormula P (next_times kind count part)
  next-times-has strength.Strong count part h = steps-has count part h
  next-times-has strength.Weak count part h = steps-has count (Not part) h

  pub event-has : (kind : Strength) (test : Boolean) (part : Formula) → AtomsOfBoolean P test → AtomsOfFormula P part → AtomsOfFormula P (next_event kind test part)
  event-has kind test part h k = until-has kind (Not (Now test)) (And (Now test) part) h (h, k)

  pub event-times-has : (kind : Strength) (test : Boolean) (count : ℕ) (part : Formula) → AtomsOfBoolean P test → AtomsOfFormula P part → AtomsOfFormula P (next_event_times kind test count part)
  event-times-has kind test zero part h k = event-has kind test part h k
  event-times-has kind test (suc zero) part h k = event-has kind test part h k
  event-times-has kind test (suc (suc more)) part h k =
      event-has kind test (next kind (next_event_times kind test (suc more) part)) h
      (next-has kind (next_event_times kind test (suc more) part) (event-times-has kind test (suc more) part h k))

  joined-has : (which : Quantifier) (left right : Formula) → AtomsOfFormula P left → AtomsOfFormula P right → AtomsOfFormula P (joined which left right)
  joined-has quantifier.All left right h k = (h, k)
  joined-has quantifier.Exists left right h k = (h, k)

  parts-have : (which : Quantifier) (part : ℕ → Formula) (low : ℕ) → ((count : ℕ) → AtomsOfFormula P (part count)) → (more : ℕ) → AtomsOfFormula P (joined_parts which part low more)
  parts-have which part low each zero = each low
  parts-have which part low each (suc more) =
      joined-has which (joined_parts which part low more) (part (low + suc more)) (parts-have which part low each more) (each (low + suc more))

  pub range-has : (which : Quantifier) (kind : Strength) (low high : ℕ) (part : Formula) → AtomsOfFormula P part → AtomsOfFormula P (next_range which kind low high part)
  range-has which kind low high part h =
      parts-have which (λ (count : ℕ). next_times kind count part) low (λ (count : ℕ). next-times-has kind count part h) (high - low)

  pub event-range-has : (which : Quantifier) (kind : Strength) (test : Boolean) (low high : ℕ) (part : Formula) → AtomsOfBoolean P test → AtomsOfFormula P part
      → AtomsOfFormula P (next_event_range which kind test low high part)
  event-range-has which kind test low high part h k =
      parts-have which (λ (count : ℕ). next_event_times kind test count part) low (λ (count : ℕ). event-times-has kind test count part h k) (high - low)

  pub covered-has : (sequence : Sequence) → AtomsOfSequence P sequence → AtomsOfFormula P (covered sequence)
  covered-has sequence h = (tt, h)

  pub covered-at-has : (sequence : Sequence) (clock : Boolean) → AtomsOfSequence P sequence → AtomsOfBoolean P clock → AtomsOfFormula P (covered_at sequence clock)
  covered-at-has sequence clock h k = ((tt, h), k)
