-- Forms that stand for others (IEEE 1850, clause 6.2 and Annex B, the syntactic sugar of the
-- Foundation Language). Each clause is a row of the table.
use Rattle.std.specs.Prelude.{true}
use Rattle.psl_tree.specs.Trees.{Formula, Const, Now, Not, And, Next, Until}

-- f || g: not (not f and not g)
abbrev pub disjunction : Formula → Formula → Formula
disjunction left right = Not (And (Not left) (Not right))

-- f -> g: not f, or g
abbrev pub implication : Formula → Formula → Formula
implication left right = disjunction (Not left) right

-- F f: true U f
abbrev pub eventually : Formula → Formula
eventually part = Until (Now (Const true)) part

-- G f: not F not f
abbrev pub always : Formula → Formula
always part = Not (eventually (Not part))

-- next! f: X! f
abbrev pub next_strong : Formula → Formula
next_strong part = Next part

-- next f: not X! not f
abbrev pub next_weak : Formula → Formula
next_weak part = Not (Next (Not part))
