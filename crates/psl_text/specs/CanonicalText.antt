-- The canonical text of formulas over names of signals. Each clause is a row of the table. It is for
-- reading: nothing is said of parsing it.
use Rattle.std.specs.Prelude.{true, false, ℕ, nat_lt, if◌then◌else◌, List, [], ◌++◌, Option, None, Some, codes, decimal}
use Rattle.psl_tree.specs.Names.{indices, index_of, first_name}
use Rattle.psl_tree.specs.Trees.{Boolean, Sequence, Formula}
use Rattle.psl_tree.specs.Trees.{Const, Test, Not, And, Or, Empty, One, Concat, Fuse, Either, Both, Star, Clocked, Now, NowStrong, Weak, Strong, Next, Until, Suffix, Abort, SyncAbort}
use Rattle.psl_tree.specs.declared.atom.Atom.{Atom}
use Rattle.psl_tree.specs.declared.atom.Edge.{Edge}
use Rattle.psl_tree.specs.declared.atom.Edge.TheVariants.{Value, Rise, Fall}
use Rattle.psl_tree.specs.declared.name.Name.{Name}

-- what stands before a bit
abbrev pub edge_word : Edge → List ℕ
edge_word Value = []
edge_word Rise = codes "posedge "
edge_word Fall = codes "negedge "

-- the index of a bit in brackets, where the name is wider than one bit
abbrev pub index_part : Name → ℕ → List ℕ
index_part name bit = if nat_lt 1 (indices name) then codes "[" ++ decimal (index_of name bit) ++ codes "]" else []

-- a bit of a name
abbrev pub bit_text : Option Name → ℕ → List ℕ
bit_text None _ = []
bit_text (Some name) bit = name.text ++ index_part name bit

-- an atom, by the first name of its signal
abbrev pub atom_text : List Name → Atom → List ℕ
atom_text names atom = edge_word atom.edge ++ bit_text (first_name names atom.signal) atom.bit

abbrev pub boolean_text : List Name → Boolean → List ℕ
boolean_text names (Const true) = codes "true"
boolean_text names (Const false) = codes "false"
boolean_text names (Test atom) = atom_text names atom
boolean_text names (Not part) = codes "!(" ++ boolean_text names part ++ codes ")"
boolean_text names (And left right) = codes "(" ++ boolean_text names left ++ codes ") && (" ++ boolean_text names right ++ codes ")"
boolean_text names (Or left right) = codes "(" ++ boolean_text names left ++ codes ") || (" ++ boolean_text names right ++ codes ")"

abbrev pub sequence_text : List Name → Sequence → List ℕ
sequence_text names Empty = codes "[*0]"
sequence_text names (One test) = boolean_text names test
sequence_text names (Concat left right) = codes "{" ++ sequence_text names left ++ codes "};{" ++ sequence_text names right ++ codes "}"
sequence_text names (Fuse left right) = codes "{" ++ sequence_text names left ++ codes "}:{" ++ sequence_text names right ++ codes "}"
sequence_text names (Either left right) = codes "{" ++ sequence_text names left ++ codes "}|{" ++ sequence_text names right ++ codes "}"
sequence_text names (Both left right) = codes "{" ++ sequence_text names left ++ codes "}&&{" ++ sequence_text names right ++ codes "}"
sequence_text names (Star part) = codes "{" ++ sequence_text names part ++ codes "}[*]"
sequence_text names (Clocked part clock) = codes "{" ++ sequence_text names part ++ codes "}@(" ++ boolean_text names clock ++ codes ")"

abbrev pub formula_text : List Name → Formula → List ℕ
formula_text names (Now test) = boolean_text names test
formula_text names (NowStrong test) = codes "(" ++ boolean_text names test ++ codes ")!"
formula_text names (Weak sequence) = codes "{" ++ sequence_text names sequence ++ codes "}"
formula_text names (Strong sequence) = codes "{" ++ sequence_text names sequence ++ codes "}!"
formula_text names (Not part) = codes "!(" ++ formula_text names part ++ codes ")"
formula_text names (And left right) = codes "(" ++ formula_text names left ++ codes ") && (" ++ formula_text names right ++ codes ")"
formula_text names (Next part) = codes "X! (" ++ formula_text names part ++ codes ")"
formula_text names (Until left right) = codes "(" ++ formula_text names left ++ codes ") U (" ++ formula_text names right ++ codes ")"
formula_text names (Suffix sequence part) = codes "{" ++ sequence_text names sequence ++ codes "} |-> (" ++ formula_text names part ++ codes ")"
formula_text names (Abort part test) = codes "(" ++ formula_text names part ++ codes ") async_abort (" ++ boolean_text names test ++ codes ")"
formula_text names (SyncAbort part test) = codes "(" ++ formula_text names part ++ codes ") sync_abort (" ++ boolean_text names test ++ codes ")"
formula_text names (Clocked part clock) = codes "(" ++ formula_text names part ++ codes ") @ (" ++ boolean_text names clock ++ codes ")"
