-- Which formulas have a sequence that is too large, and which limit a formula passes first.
use Rattle.std.specs.Prelude.{◌⊎◌, ◌<◌}
use Rattle.psl_tree.specs.declared.counts.TheConstants.{MOST_OBLIGATIONS, MOST_STATES}
use Rattle.psl_tree.specs.declared.limit.Limit.{Limit}
use Rattle.psl_tree.specs.declared.limit.Limit.TheVariants as limits
use Rattle.psl_tree.specs.declared.limit.LimitFault.{LimitFault}
use Rattle.psl_tree.specs.declared.limit.LimitFault.TheVariants.{TooLarge, NoMemory}
use Rattle.psl_tree.specs.Counts.{obligations_of, states_of}
use Rattle.psl_tree.specs.Trees.{Sequence, Formula, Now, NowStrong, Weak, Strong, Not, And, Next, Until, Suffix, Abort, SyncAbort, Clocked}

-- some sequence of the formula has P
abbrev pub SomeSequence : (Sequence → Type 0) → Formula → Type 0
SomeSequence P (Now _) = ⊥
SomeSequence P (NowStrong _) = ⊥
SomeSequence P (Weak sequence) = P sequence
SomeSequence P (Strong sequence) = P sequence
SomeSequence P (Not part) = SomeSequence P part
SomeSequence P (And left right) = SomeSequence P left ⊎ SomeSequence P right
SomeSequence P (Next part) = SomeSequence P part
SomeSequence P (Until left right) = SomeSequence P left ⊎ SomeSequence P right
SomeSequence P (Suffix sequence part) = P sequence ⊎ SomeSequence P part
SomeSequence P (Abort part _) = SomeSequence P part
SomeSequence P (SyncAbort part _) = SomeSequence P part
SomeSequence P (Clocked part _) = SomeSequence P part

-- some sequence of the formula counts more states than a sequence may
abbrev pub HasLargeSequence : Formula → Type 0
HasLargeSequence formula = SomeSequence (λ sequence. MOST_STATES < states_of sequence) formula

-- the limit of automata that the formula passes first
abbrev pub PassesFirst : Formula → Limit → Type 0
PassesFirst formula limits.Sere = HasLargeSequence formula
PassesFirst formula limits.Automaton = (HasLargeSequence formula → ⊥) × (MOST_OBLIGATIONS < obligations_of formula)
PassesFirst formula limits.Unroll = ⊥
PassesFirst formula limits.Formula = ⊥

-- such a limit, or want of memory
abbrev pub MayPass : Formula → LimitFault → Type 0
MayPass formula (TooLarge limit) = PassesFirst formula limit
MayPass formula NoMemory = Unit {0}
