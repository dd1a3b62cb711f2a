-- The kernel's trees as plain data. A contract reaches them by `boolean_of`, `sequence_of` and
-- `formula_of`: two trees of the program are equal where these are.
use Rattle.std.specs.Prelude.{Bool as Truth}
use Rattle.psl_tree.specs.declared.atom.Atom.{Atom}
use Rattle.psl_tree.specs.declared.boolean.Bool as bools
use Rattle.psl_tree.specs.declared.sere.Sere as seres
use Rattle.psl_tree.specs.declared.fl.Fl as fls

-- a Boolean expression over atoms (IEEE 1850, clause 5)
pub data Boolean : Type 0 where
  Const : Truth → Boolean
  Test : Atom → Boolean
  Not : Boolean → Boolean
  And : Boolean → Boolean → Boolean
  Or : Boolean → Boolean → Boolean

-- a sequence (IEEE 1850, clause 6.1)
pub data Sequence : Type 0 where
  Empty : Sequence
  One : Boolean → Sequence
  Concat : Sequence → Sequence → Sequence
  Fuse : Sequence → Sequence → Sequence
  Either : Sequence → Sequence → Sequence
  Both : Sequence → Sequence → Sequence
  Star : Sequence → Sequence
  Clocked : Sequence → Boolean → Sequence

-- a formula of the kernel (IEEE 1850, clause 6.2)
pub data Formula : Type 0 where
  Now : Boolean → Formula
  NowStrong : Boolean → Formula
  Weak : Sequence → Formula
  Strong : Sequence → Formula
  Not : Formula → Formula
  And : Formula → Formula → Formula
  Next : Formula → Formula
  Until : Formula → Formula → Formula
  Suffix : Sequence → Formula → Formula
  Abort : Formula → Boolean → Formula
  SyncAbort : Formula → Boolean → Formula
  Clocked : Formula → Boolean → Formula

-- the Boolean that a tree of the program stands for
abbrev pub boolean_of : bools.Bool → Boolean
boolean_of (bools.Const value) = Const value
boolean_of (bools.Test atom) = Test atom
boolean_of (bools.Not' _ part) = Not (boolean_of part)
boolean_of (bools.And' _ left _ right) = And (boolean_of left) (boolean_of right)
boolean_of (bools.Or' _ left _ right) = Or (boolean_of left) (boolean_of right)

-- the sequence that a tree of the program stands for
abbrev pub sequence_of : seres.Sere → Sequence
sequence_of seres.Empty = Empty
sequence_of (seres.One test) = One (boolean_of test)
sequence_of (seres.Concat' _ left _ right) = Concat (sequence_of left) (sequence_of right)
sequence_of (seres.Fuse' _ left _ right) = Fuse (sequence_of left) (sequence_of right)
sequence_of (seres.Either' _ left _ right) = Either (sequence_of left) (sequence_of right)
sequence_of (seres.Both' _ left _ right) = Both (sequence_of left) (sequence_of right)
sequence_of (seres.Star' _ part) = Star (sequence_of part)
sequence_of (seres.Clocked' _ part clock) = Clocked (sequence_of part) (boolean_of clock)

-- the formula that a tree of the program stands for
abbrev pub formula_of : fls.Fl → Formula
formula_of (fls.Now test) = Now (boolean_of test)
formula_of (fls.NowStrong test) = NowStrong (boolean_of test)
formula_of (fls.Weak sequence) = Weak (sequence_of sequence)
formula_of (fls.Strong sequence) = Strong (sequence_of sequence)
formula_of (fls.Not' _ part) = Not (formula_of part)
formula_of (fls.And' _ left _ right) = And (formula_of left) (formula_of right)
formula_of (fls.Next' _ part) = Next (formula_of part)
formula_of (fls.Until' _ left _ right) = Until (formula_of left) (formula_of right)
formula_of (fls.Suffix' sequence _ part) = Suffix (sequence_of sequence) (formula_of part)
formula_of (fls.Abort' _ part test) = Abort (formula_of part) (boolean_of test)
formula_of (fls.SyncAbort' _ part test) = SyncAbort (formula_of part) (boolean_of test)
formula_of (fls.Clocked' _ part clock) = Clocked (formula_of part) (boolean_of clock)
