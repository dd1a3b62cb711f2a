-- Numbers as lists of bits, the lowest first, and their comparison as a term.
use Rattle.std.specs.Prelude.{ℕ, zero, suc, ◌+◌, ◌*◌, ◌/◌, ◌%◌, ◌==◌, ℤ, Bool as Truth, cond, List, [], ◌∷◌}
use Rattle.gates_theory.specs.Terms.{Term, Literal, Negation, Conjunction}
use Rattle.run_terms.specs.Booleans.{either}

-- the number that bits stand for
abbrev pub number_of : List Truth → ℕ
number_of [] = 0
number_of (bit ∷ bits) = cond bit 1 0 + 2 * number_of bits

-- so many bits of a number
abbrev pub bits_of_number : ℕ → ℕ → List Truth
bits_of_number zero number = []
bits_of_number (suc width) number = (number % 2 == 1) ∷ bits_of_number width (number / 2)

-- a number is at most another one, or is less where `strict` is true: the term that is handed on says of the bits so far
-- that it is not so
abbrev pub at_most : Term → List ℤ → List ℤ → Term
at_most strict (first ∷ firsts) (second ∷ seconds) =
    at_most (either (Conjunction strict (Negation (Conjunction (Negation (Literal first)) (Literal second))))
    (Conjunction (Literal first) (Negation (Literal second)))) firsts seconds
at_most strict _ _ = Negation strict
