-- Clauses as one list of numbers. Different clauses have different lists.
use Rattle.std.specs.Prelude.{ℤ, pos, List, [], ◌∷◌, ◌++◌, length}

-- of each clause how many literals it has, and then these
abbrev pub text_of : List (List ℤ) → List ℤ
text_of [] = []
text_of (clause ∷ clauses) = pos (length clause) ∷ clause ++ text_of clauses
