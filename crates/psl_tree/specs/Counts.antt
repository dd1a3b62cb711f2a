-- The sizes of trees: their constructors, the states of a sequence's automaton and the obligations
-- of a formula's.
use Rattle.std.specs.Prelude.{ℕ, ◌+◌, ◌*◌, ◌-◌, ◌^◌, min}
use Rattle.psl_tree.specs.Trees.{Boolean, Sequence, Formula}
use Rattle.psl_tree.specs.Trees.{Const, Test, Not, And, Or, Empty, One, Concat, Fuse, Either, Both, Star, Clocked, Now, NowStrong, Weak, Strong, Next, Until, Suffix, Abort, SyncAbort}

-- a count as the program shows it: it stays at 2^64 - 1 once it is there
abbrev pub shown : ℕ → ℕ
shown count = min count (2 ^ 64 - 1)

-- how many constructors a Boolean has
abbrev pub boolean_size : Boolean → ℕ
boolean_size (Const _) = 1
boolean_size (Test _) = 1
boolean_size (Not part) = boolean_size part + 1
boolean_size (And left right) = boolean_size left + boolean_size right + 1
boolean_size (Or left right) = boolean_size left + boolean_size right + 1

-- how many constructors a sequence has, those of its Booleans among them
abbrev pub sequence_size : Sequence → ℕ
sequence_size Empty = 1
sequence_size (One test) = boolean_size test + 1
sequence_size (Concat left right) = sequence_size left + sequence_size right + 1
sequence_size (Fuse left right) = sequence_size left + sequence_size right + 1
sequence_size (Either left right) = sequence_size left + sequence_size right + 1
sequence_size (Both left right) = sequence_size left + sequence_size right + 1
sequence_size (Star part) = sequence_size part + 1
sequence_size (Clocked part clock) = sequence_size part + boolean_size clock + 1

-- how many constructors a formula has, those of its sequences and Booleans among them
abbrev pub formula_size : Formula → ℕ
formula_size (Now test) = boolean_size test + 1
formula_size (NowStrong test) = boolean_size test + 1
formula_size (Weak sequence) = sequence_size sequence + 1
formula_size (Strong sequence) = sequence_size sequence + 1
formula_size (Not part) = formula_size part + 1
formula_size (And left right) = formula_size left + formula_size right + 1
formula_size (Next part) = formula_size part + 1
formula_size (Until left right) = formula_size left + formula_size right + 1
formula_size (Suffix sequence part) = sequence_size sequence + formula_size part + 1
formula_size (Abort part test) = formula_size part + boolean_size test + 1
formula_size (SyncAbort part test) = formula_size part + boolean_size test + 1
formula_size (Clocked part clock) = formula_size part + boolean_size clock + 1

-- at most how many states a sequence's automaton has
abbrev pub states_of : Sequence → ℕ
states_of Empty = 1
states_of (One _) = 2
states_of (Concat left right) = states_of left + states_of right
states_of (Fuse left right) = states_of left + states_of right
states_of (Either left right) = states_of left + states_of right
states_of (Both left right) = states_of left * states_of right
states_of (Star part) = states_of part + 1
states_of (Clocked part _) = states_of part

-- at most how many obligations a formula's automaton has
abbrev pub obligations_of : Formula → ℕ
obligations_of (Now _) = 1
obligations_of (NowStrong _) = 1
obligations_of (Weak sequence) = states_of sequence + 1
obligations_of (Strong sequence) = states_of sequence + 1
obligations_of (Not part) = obligations_of part + 1
obligations_of (And left right) = obligations_of left + obligations_of right + 1
obligations_of (Next part) = obligations_of part + 1
obligations_of (Until left right) = obligations_of left + obligations_of right + 1
obligations_of (Suffix sequence part) = states_of sequence + obligations_of part + 1
obligations_of (Abort part _) = obligations_of part * 2 + 1
obligations_of (SyncAbort part _) = obligations_of part * 2 + 1
obligations_of (Clocked part _) = obligations_of part + 1
