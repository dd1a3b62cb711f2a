-- What holds of the atoms of all obligations holds of those of each.
use Rattle.std.proofs.Common.{ℕ, zero, suc, ◌<◌, List, [], ◌∷◌, length, arith}
use Rattle.psl_tree.specs.declared.atom.Atom.{Atom}
use Rattle.alternating_theory.specs.Atoms.{AtomsOfObligations, AtomsOfPositive}
use Rattle.alternating_theory.specs.Obligations.{Obligation, obligation_at}

pub atoms-of : (P : Atom → Type 0) (obligations : List Obligation) → AtomsOfObligations P obligations
    → (q : ℕ) → q < length obligations → AtomsOfPositive P (obligation_at obligations q).delta
atoms-of P [] all q low = absurd (omega arith)
atoms-of P (obligation ∷ obligations) all zero low = all.0
atoms-of P (obligation ∷ obligations) all (suc q) low = atoms-of P obligations all.1 q (omega arith)
