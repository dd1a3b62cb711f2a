-- Sequences that stand for others (IEEE 1850, clause 6.1). Each equation is a row of the table.
use Rattle.std.specs.Prelude.{ℕ, zero, suc, ◌-◌, ◌==◌, nat_lt, true, if◌then◌else◌}
use Rattle.psl_tree.specs.Trees.{Boolean, Sequence, Const, Not, Empty, One, Concat, Fuse, Either, Both, Star}
use Rattle.psl_sugar.specs.declared.sequence_operators.SequenceOperator.{SequenceOperator}
use Rattle.psl_sugar.specs.declared.sequence_operators.SequenceOperator.TheVariants as operators
use Rattle.psl_sugar.specs.declared.count.Count.{Count}
use Rattle.psl_sugar.specs.declared.count.Count.TheVariants.{Times, Between, AtLeast}

-- a letter of which nothing is asked; a repetition alone, as [*k] or [+], repeats it
abbrev pub any_letter : Sequence
any_letter = One (Const true)

-- [*]: any number of letters
abbrev pub any_letters : Sequence
any_letters = Star any_letter

-- r[+]: r ; r[*]
abbrev pub plus : Sequence → Sequence
plus part = Concat part (Star part)

-- r[*0]: Empty; r[*1]: r; r[*k] for k > 1: r ; r[*k-1]
abbrev pub times : ℕ → Sequence → Sequence
times zero part = Empty
times (suc zero) part = part
times (suc (suc more)) part = Concat part (times (suc more) part)

-- {Empty | r}
abbrev pub optional : Sequence → Sequence
optional part = Either Empty part

-- r[*i:j], i < j: r[*i] ; {Empty | r}[*j-i] for i > 0, {Empty | r}[*j] for i = 0; r[*i:i]: r[*i], as
-- is a range whose second number is lower, which no text has
abbrev pub between : ℕ → ℕ → Sequence → Sequence
between low high part =
    if nat_lt low high
    then (if low == 0 then times high (optional part) else Concat (times low part) (times (high - low) (optional part)))
    else times low part

-- r[*i:inf]: r[*i] ; r[*] for i > 0, r[*] for i = 0
abbrev pub at_least : ℕ → Sequence → Sequence
at_least low part = if low == 0 then Star part else Concat (times low part) (Star part)

-- r[*count]
abbrev pub repeated : Count → Sequence → Sequence
repeated (Times count) part = times count part
repeated (Between low high) part = between low high part
repeated (AtLeast low) part = at_least low part

-- (!b)[*]
abbrev pub absence : Boolean → Sequence
absence test = Star (One (Not test))

-- b[->]: {(!b)[*] ; b}
abbrev pub goto : Boolean → Sequence
goto test = Concat (absence test) (One test)

-- b[->count]: b[->] so often
abbrev pub goto_repeated : Count → Boolean → Sequence
goto_repeated count test = repeated count (goto test)

-- b[=count]: b[->count] ; (!b)[*]
abbrev pub occurrences : Count → Boolean → Sequence
occurrences count test = Concat (goto_repeated count test) (absence test)

-- r1 & r2: {r1 && {r2 ; [*]}} | {{r1 ; [*]} && r2}
abbrev pub both_of_any_length : Sequence → Sequence → Sequence
both_of_any_length left right = Either (Both left (Concat right any_letters)) (Both (Concat left any_letters) right)

-- r1 within r2: {[*] ; r1 ; [*]} && r2
abbrev pub within : Sequence → Sequence → Sequence
within left right = Both (Concat (Concat any_letters left) any_letters) right

-- an operator between sequences: a row for each
abbrev pub sequence_row : SequenceOperator → Sequence → Sequence → Sequence
sequence_row operators.Concatenation left right = Concat left right
sequence_row operators.Fusion left right = Fuse left right
sequence_row operators.Alternative left right = Either left right
sequence_row operators.SameLength left right = Both left right
sequence_row operators.AnyLength left right = both_of_any_length left right
sequence_row operators.Within left right = within left right
