-- What each atom of the operands has, each atom of a sequence made of them has.
use Rattle.std.proofs.Common.{ℕ, zero, suc, ◌-◌, ◌==◌, Bool, true, false, nat_lt}
use Rattle.std.specs.Prelude.{if◌then◌else◌}
use Rattle.psl_sugar.specs.Sequences.{any_letter, any_letters, plus, times, optional, between, at_least, repeated, goto, goto_repeated, occurrences, both_of_any_length, within}
use Rattle.psl_sugar.specs.declared.count.Count.{Count}
use Rattle.psl_sugar.specs.declared.count.Count.TheVariants.{Times, Between, AtLeast}
use Rattle.psl_tree.specs.Atoms.{AtomsOfBoolean, AtomsOfSequence}
use Rattle.psl_tree.specs.Trees.{Boolean, Sequence, Concat, Star}
use Rattle.psl_tree.specs.declared.atom.Atom.{Atom}

module _ (P : Atom → Type 0) where
  pub letter-has : AtomsOfSequence P any_letter
  letter-has = tt

  pub letters-has : AtomsOfSequence P any_letters
  letters-has = tt

  pub plus-has : (part : Sequence) → AtomsOfSequence P part → AtomsOfSequence P (plus part)
  plus-has part h = (h, h)

  times-has : (count : ℕ) (part : Sequence) → AtomsOfSequence P part → AtomsOfSequence P (times count part)
  times-has zero part h = tt
  times-has (suc zero) part h = h
  times-has (suc (suc more)) part h = (h, times-has (suc more) part h)

  optional-has : (part : Sequence) → AtomsOfSequence P part → AtomsOfSequence P (optional part)
  optional-has part h = (tt, h)

  one-of : (test : Bool) (first second : Sequence) → AtomsOfSequence P first → AtomsOfSequence P second → AtomsOfSequence P (if test then first else second)
  one-of true first second h k = h
  one-of false first second h k = k

  between-has : (low high : ℕ) (part : Sequence) → AtomsOfSequence P part → AtomsOfSequence P (between low high part)
  between-has low high part h =
      one-of (nat_lt low high) (if low == 0 then times high (optional part) else Concat (times low part) (times (high - low) (optional part))) (times low part)
      (one-of (low == 0) (times high (optional part)) (Concat (times low part) (times (high - low) (optional part)))
      (times-has high (optional part) (optional-has part h))
      (times-has low part h, times-has (high - low) (optional part) (optional-has part h)))
      (times-has low part h)

  at-least-has : (low : ℕ) (part : Sequence) → AtomsOfSequence P part → AtomsOfSequence P (at_least low part)
  at-least-has low part h = one-of (low == 0) (Star part) (Concat (times low part) (Star part)) h (times-has low part h, h)

  pub repeated-has : (count : Count) (part : Sequence) → AtomsOfSequence P part → AtomsOfSequence P (repeated count part)
  repeated-has (Times count) part h = times-has count part h
  repeated-has (Between low high) part h = between-has low high part h
  repeated-has (AtLeast low) part h = at-least-has low part h

  pub goto-has : (test : Boolean) → AtomsOfBoolean P test → AtomsOfSequence P (goto test)
  goto-has test h = (h, h)

  pub goto-repeated-has : (count : Count) (test : Boolean) → AtomsOfBoolean P test → AtomsOfSequence P (goto_repeated count test)
  goto-repeated-has count test h = repeated-has count (goto test) (goto-has test h)

  pub occurrences-has : (count : Count) (test : Boolean) → AtomsOfBoolean P test → AtomsOfSequence P (occurrences count test)
  occurrences-has count test h = (goto-repeated-has count test h, h)

  pub any-length-has : (left right : Sequence) → AtomsOfSequence P left → AtomsOfSequence P right → AtomsOfSequence P (both_of_any_length left right)
  any-length-has left right h k = ((h, (k, tt)), ((h, tt), k))

  pub within-has : (left right : Sequence) → AtomsOfSequence P left → AtomsOfSequence P right → AtomsOfSequence P (within left right)
  within-has left right h k = (((tt, h), tt), k)
