-- The rewriting of clocks: a formula under a clock, or under none, as a formula without clocks that
-- the same words satisfy (IEEE 1850, Annex B, the clock rewriting rules).
use Rattle.std.specs.Prelude.{Option, None, Some}
use Rattle.psl_tree.specs.Trees.{Boolean, Sequence, Formula}
use Rattle.psl_tree.specs.Trees.{Not, And, Empty, One, Concat, Fuse, Either, Both, Star, Clocked, Now, NowStrong, Weak, Strong, Next, Until, Suffix, Abort, SyncAbort}

-- no tick yet: the negation of the clock
abbrev pub no_tick : Boolean → Formula
no_tick clock = Now (Not clock)

-- a tick on which a Boolean holds
abbrev pub tick_with : Boolean → Boolean → Formula
tick_with clock test = Now (And clock test)

-- a tick now, and a formula
abbrev pub at_tick : Boolean → Formula → Formula
at_tick clock part = And (Now clock) part

-- b in a sequence: letters without a tick, and then a tick on which b holds
abbrev pub one_at_tick : Boolean → Boolean → Sequence
one_at_tick clock test = Concat (Star (One (Not clock))) (One (And clock test))

-- b: it is not so that the first tick comes without b
abbrev pub now_at_tick : Boolean → Boolean → Formula
now_at_tick clock test = Not (Until (no_tick clock) (tick_with clock (Not test)))

-- b!: the first tick comes, with b
abbrev pub now_strong_at_tick : Boolean → Boolean → Formula
now_strong_at_tick clock test = Until (no_tick clock) (tick_with clock test)

-- the first tick comes, and there the formula
abbrev pub first_tick : Boolean → Formula → Formula
first_tick clock part = Until (no_tick clock) (at_tick clock part)

-- X! f: the first tick comes, and after it another, and there f
abbrev pub next_at_tick : Boolean → Formula → Formula
next_at_tick clock part = first_tick clock (Next (first_tick clock part))

-- f U g: a tick with g comes, and f at each tick before
abbrev pub until_at_tick : Boolean → Formula → Formula → Formula
until_at_tick clock left right = Until (Not (at_tick clock (Not left))) (at_tick clock right)

-- a sequence under a clock, or under none, without clocks
abbrev pub plain_sequence : Sequence → Option Boolean → Sequence
plain_sequence (One test) None = One test
plain_sequence (One test) (Some clock) = one_at_tick clock test
plain_sequence Empty _ = Empty
plain_sequence (Concat left right) clock = Concat (plain_sequence left clock) (plain_sequence right clock)
plain_sequence (Fuse left right) clock = Fuse (plain_sequence left clock) (plain_sequence right clock)
plain_sequence (Either left right) clock = Either (plain_sequence left clock) (plain_sequence right clock)
plain_sequence (Both left right) clock = Both (plain_sequence left clock) (plain_sequence right clock)
plain_sequence (Star part) clock = Star (plain_sequence part clock)
plain_sequence (Clocked part inner) _ = plain_sequence part (Some inner)

-- a formula under a clock, or under none, without clocks and synchronous aborts
abbrev pub plain : Formula → Option Boolean → Formula
plain (Now test) None = Now test
plain (Now test) (Some clock) = now_at_tick clock test
plain (NowStrong test) None = NowStrong test
plain (NowStrong test) (Some clock) = now_strong_at_tick clock test
plain (Weak sequence) clock = Weak (plain_sequence sequence clock)
plain (Strong sequence) clock = Strong (plain_sequence sequence clock)
plain (Not part) clock = Not (plain part clock)
plain (And left right) clock = And (plain left clock) (plain right clock)
plain (Next part) None = Next (plain part None)
plain (Next part) (Some clock) = next_at_tick clock (plain part (Some clock))
plain (Until left right) None = Until (plain left None) (plain right None)
plain (Until left right) (Some clock) = until_at_tick clock (plain left (Some clock)) (plain right (Some clock))
plain (Suffix sequence part) clock = Suffix (plain_sequence sequence clock) (plain part clock)
plain (Abort part test) clock = Abort (plain part clock) test
plain (SyncAbort part test) None = Abort (plain part None) test
plain (SyncAbort part test) (Some clock) = Abort (plain part (Some clock)) (And clock test)
plain (Clocked part inner) _ = plain part (Some inner)
