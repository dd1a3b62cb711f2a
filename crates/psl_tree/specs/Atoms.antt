-- What each atom of a tree has.
use Rattle.psl_tree.specs.Trees.{Boolean, Sequence, Formula}
use Rattle.psl_tree.specs.Trees.{Const, Test, Not, And, Or, Empty, One, Concat, Fuse, Either, Both, Star, Clocked, Now, NowStrong, Weak, Strong, Next, Until, Suffix, Abort, SyncAbort}
use Rattle.psl_tree.specs.declared.atom.Atom.{Atom}

-- each atom of the Boolean has P
abbrev pub AtomsOfBoolean : (Atom → Type 0) → Boolean → Type 0
AtomsOfBoolean P (Const _) = Unit {0}
AtomsOfBoolean P (Test atom) = P atom
AtomsOfBoolean P (Not part) = AtomsOfBoolean P part
AtomsOfBoolean P (And left right) = AtomsOfBoolean P left × AtomsOfBoolean P right
AtomsOfBoolean P (Or left right) = AtomsOfBoolean P left × AtomsOfBoolean P right

-- each atom of the sequence has P, those of its clocks too
abbrev pub AtomsOfSequence : (Atom → Type 0) → Sequence → Type 0
AtomsOfSequence P Empty = Unit {0}
AtomsOfSequence P (One test) = AtomsOfBoolean P test
AtomsOfSequence P (Concat left right) = AtomsOfSequence P left × AtomsOfSequence P right
AtomsOfSequence P (Fuse left right) = AtomsOfSequence P left × AtomsOfSequence P right
AtomsOfSequence P (Either left right) = AtomsOfSequence P left × AtomsOfSequence P right
AtomsOfSequence P (Both left right) = AtomsOfSequence P left × AtomsOfSequence P right
AtomsOfSequence P (Star part) = AtomsOfSequence P part
AtomsOfSequence P (Clocked part clock) = AtomsOfSequence P part × AtomsOfBoolean P clock

-- each atom of the formula has P, those of its sequences and clocks too
abbrev pub AtomsOfFormula : (Atom → Type 0) → Formula → Type 0
AtomsOfFormula P (Now test) = AtomsOfBoolean P test
AtomsOfFormula P (NowStrong test) = AtomsOfBoolean P test
AtomsOfFormula P (Weak sequence) = AtomsOfSequence P sequence
AtomsOfFormula P (Strong sequence) = AtomsOfSequence P sequence
AtomsOfFormula P (Not part) = AtomsOfFormula P part
AtomsOfFormula P (And left right) = AtomsOfFormula P left × AtomsOfFormula P right
AtomsOfFormula P (Next part) = AtomsOfFormula P part
AtomsOfFormula P (Until left right) = AtomsOfFormula P left × AtomsOfFormula P right
AtomsOfFormula P (Suffix sequence part) = AtomsOfSequence P sequence × AtomsOfFormula P part
AtomsOfFormula P (Abort part test) = AtomsOfFormula P part × AtomsOfBoolean P test
AtomsOfFormula P (SyncAbort part test) = AtomsOfFormula P part × AtomsOfBoolean P test
AtomsOfFormula P (Clocked part clock) = AtomsOfFormula P part × AtomsOfBoolean P clock
