-- The atoms that formulas test.
use Rattle.std.specs.Prelude.{List, [], ◌∷◌, ◌++◌}
use Rattle.std.specs.List.{flat_map}
use Rattle.psl_tree.specs.Trees.{Boolean, Sequence, Formula, formula_of}
use Rattle.psl_tree.specs.Trees.{Const, Test, Not, And, Or, Empty, One, Concat, Fuse, Either, Both, Star, Clocked, Now, NowStrong, Weak, Strong, Next, Until, Suffix, Abort, SyncAbort}
use Rattle.psl_tree.specs.declared.atom.Atom.{Atom}
use Rattle.psl_tree.specs.declared.directive.Directive.{Directive}

-- the atoms of a Boolean, from left to right
abbrev pub atoms_in_boolean : Boolean → List Atom
atoms_in_boolean (Const _) = []
atoms_in_boolean (Test atom) = atom ∷ []
atoms_in_boolean (Not part) = atoms_in_boolean part
atoms_in_boolean (And left right) = atoms_in_boolean left ++ atoms_in_boolean right
atoms_in_boolean (Or left right) = atoms_in_boolean left ++ atoms_in_boolean right

-- the atoms of a sequence, from left to right, those of its clocks too
abbrev pub atoms_in_sequence : Sequence → List Atom
atoms_in_sequence Empty = []
atoms_in_sequence (One test) = atoms_in_boolean test
atoms_in_sequence (Concat left right) = atoms_in_sequence left ++ atoms_in_sequence right
atoms_in_sequence (Fuse left right) = atoms_in_sequence left ++ atoms_in_sequence right
atoms_in_sequence (Either left right) = atoms_in_sequence left ++ atoms_in_sequence right
atoms_in_sequence (Both left right) = atoms_in_sequence left ++ atoms_in_sequence right
atoms_in_sequence (Star part) = atoms_in_sequence part
atoms_in_sequence (Clocked part clock) = atoms_in_sequence part ++ atoms_in_boolean clock

-- the atoms of a formula, from left to right, those of its sequences and clocks too
abbrev pub atoms_in : Formula → List Atom
atoms_in (Now test) = atoms_in_boolean test
atoms_in (NowStrong test) = atoms_in_boolean test
atoms_in (Weak sequence) = atoms_in_sequence sequence
atoms_in (Strong sequence) = atoms_in_sequence sequence
atoms_in (Not part) = atoms_in part
atoms_in (And left right) = atoms_in left ++ atoms_in right
atoms_in (Next part) = atoms_in part
atoms_in (Until left right) = atoms_in left ++ atoms_in right
atoms_in (Suffix sequence part) = atoms_in_sequence sequence ++ atoms_in part
atoms_in (Abort part test) = atoms_in part ++ atoms_in_boolean test
atoms_in (SyncAbort part test) = atoms_in part ++ atoms_in_boolean test
atoms_in (Clocked part clock) = atoms_in part ++ atoms_in_boolean clock

-- the atoms that the formulas of directives test
abbrev pub atoms_tested : List Directive → List Atom
atoms_tested directives = flat_map (λ directive. atoms_in (formula_of directive.formula)) directives
