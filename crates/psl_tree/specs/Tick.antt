-- Ticks of a clock: of a list of letters, and at a place of a trace (IEEE 1850, Annex B, clocked
-- satisfaction).
use Rattle.std.specs.Prelude.{◌≡◌, ℕ, ◌<◌, List, [], ◌∷◌, ◌++◌, IsTrue}
use Rattle.psl_tree.specs.Trace.{Trace, holds_at}
use Rattle.psl_tree.specs.Holds.{holds}
use Rattle.psl_tree.specs.Trees.{Boolean, Not}
use Rattle.psl_tree.specs.declared.letter.Letter.{Letter}

-- the Boolean holds on each letter
abbrev pub EachHolds : Boolean → List Letter → Type 0
EachHolds _ [] = Unit {0}
EachHolds test (x ∷ xs) = IsTrue (holds x test) × EachHolds test xs

-- the list is a tick of the clock: it is not empty, its last letter holds the clock, and every
-- earlier letter holds the negation of the clock; and a Boolean holds on its last letter
abbrev pub IsTickWith : Boolean → Boolean → List Letter → Type 0
IsTickWith clock test all =
    (earlier : List Letter) × (last : Letter) × (all ≡ earlier ++ last ∷ []) × EachHolds (Not clock) earlier × IsTrue (holds last clock) × IsTrue (holds last test)

-- the letters up to and with this place are a tick of the clock
abbrev pub IsTick : Trace → Boolean → ℕ → Type 0
IsTick trace clock j = IsTrue (holds_at trace j clock) × ((i : ℕ) → i < j → IsTrue (holds_at trace i (Not clock)))
