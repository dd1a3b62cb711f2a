-- What each atom that an automaton tests has.
use Rattle.std.specs.Prelude.{Bool as Truth, IsTrue, List, [], ◌∷◌}
use Rattle.std.specs.List.{list_any}
use Rattle.psl_tree.specs.Atoms.{AtomsOfBoolean, AtomsOfFormula}
use Rattle.psl_tree.specs.Holds.{is_same_atom}
use Rattle.psl_tree.specs.Trees.{Formula}
use Rattle.psl_tree.specs.declared.atom.Atom.{Atom}
use Rattle.alternating_theory.specs.Obligations.{Obligation, Automaton}
use Rattle.alternating_theory.specs.Positive.{Positive, Const, Holds, Owed, And, Or}

-- each atom of the combination has P
abbrev pub AtomsOfPositive : (Atom → Type 0) → Positive → Type 0
AtomsOfPositive P (Const _) = Unit {0}
AtomsOfPositive P (Holds test) = AtomsOfBoolean P test
AtomsOfPositive P (Owed _) = Unit {0}
AtomsOfPositive P (And left right) = AtomsOfPositive P left × AtomsOfPositive P right
AtomsOfPositive P (Or left right) = AtomsOfPositive P left × AtomsOfPositive P right

-- each atom of the obligations has P
abbrev pub AtomsOfObligations : (Atom → Type 0) → List Obligation → Type 0
AtomsOfObligations P [] = Unit {0}
AtomsOfObligations P (obligation ∷ obligations) = AtomsOfPositive P obligation.delta × AtomsOfObligations P obligations

-- a test that all atoms of the formula pass is passed by all atoms of the automaton
abbrev pub KeepsAtoms : Automaton → Formula → Type 0
KeepsAtoms automaton formula =
    (test : Atom → Truth) → AtomsOfFormula (λ atom. IsTrue (test atom)) formula → AtomsOfObligations (λ atom. IsTrue (test atom)) automaton.obligations

-- the atom is the same as one of these
abbrev pub is_among : List Atom → Atom → Truth
is_among atoms atom = list_any (λ other. is_same_atom atom other) atoms
