-- Trees without clocks.
use Rattle.psl_tree.specs.Trees.{Sequence, Formula}
use Rattle.psl_tree.specs.Trees.{Not, And, Empty, One, Concat, Fuse, Either, Both, Star, Clocked, Now, NowStrong, Weak, Strong, Next, Until, Suffix, Abort, SyncAbort}

-- no clock stands in the sequence
abbrev pub HasNoClock : Sequence → Type 0
HasNoClock Empty = Unit {0}
HasNoClock (One _) = Unit {0}
HasNoClock (Concat left right) = HasNoClock left × HasNoClock right
HasNoClock (Fuse left right) = HasNoClock left × HasNoClock right
HasNoClock (Either left right) = HasNoClock left × HasNoClock right
HasNoClock (Both left right) = HasNoClock left × HasNoClock right
HasNoClock (Star part) = HasNoClock part
HasNoClock (Clocked _ _) = ⊥

-- no clock and no synchronous abort stands in the formula
abbrev pub IsPlain : Formula → Type 0
IsPlain (Now _) = Unit {0}
IsPlain (NowStrong _) = Unit {0}
IsPlain (Weak sequence) = HasNoClock sequence
IsPlain (Strong sequence) = HasNoClock sequence
IsPlain (Not part) = IsPlain part
IsPlain (And left right) = IsPlain left × IsPlain right
IsPlain (Next part) = IsPlain part
IsPlain (Until left right) = IsPlain left × IsPlain right
IsPlain (Suffix sequence part) = HasNoClock sequence × IsPlain part
IsPlain (Abort part _) = IsPlain part
IsPlain (SyncAbort _ _) = ⊥
IsPlain (Clocked _ _) = ⊥
