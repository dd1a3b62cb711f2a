-- Which formulas have small sequences alone.
use Rattle.std.specs.Prelude.{◌≤◌}
use Rattle.psl_tree.specs.declared.counts.TheConstants.{MOST_STATES}
use Rattle.psl_tree.specs.Counts.{states_of}
use Rattle.psl_tree.specs.Trees.{Formula, Now, NowStrong, Weak, Strong, Not, And, Next, Until, Suffix, Abort, SyncAbort, Clocked}

-- each sequence of the formula counts at most as many states as a sequence may
abbrev pub HasSmallSequences : Formula → Type 0
HasSmallSequences (Now _) = Unit {0}
HasSmallSequences (NowStrong _) = Unit {0}
HasSmallSequences (Weak sequence) = states_of sequence ≤ MOST_STATES
HasSmallSequences (Strong sequence) = states_of sequence ≤ MOST_STATES
HasSmallSequences (Not part) = HasSmallSequences part
HasSmallSequences (And left right) = HasSmallSequences left × HasSmallSequences right
HasSmallSequences (Next part) = HasSmallSequences part
HasSmallSequences (Until left right) = HasSmallSequences left × HasSmallSequences right
HasSmallSequences (Suffix sequence part) = (states_of sequence ≤ MOST_STATES) × HasSmallSequences part
HasSmallSequences (Abort part _) = HasSmallSequences part
HasSmallSequences (SyncAbort part _) = HasSmallSequences part
HasSmallSequences (Clocked part _) = HasSmallSequences part
