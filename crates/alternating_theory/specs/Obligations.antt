-- Obligations, automata of them, and their values on finite words.
use Rattle.std.specs.Prelude.{Bool as Truth, false, ℕ, zero, suc, ◌-◌, ◌≡◌, List, [], ◌∷◌, IsTrue}
use Rattle.psl_tree.specs.Followed.{Past, Nothing, Tops, Bottoms}
use Rattle.psl_tree.specs.declared.letter.Letter.{Letter}
use Rattle.alternating_theory.specs.Positive.{Positive, Const, met, owes}

-- what can be owed at a place: `delta` is what it asks of the letter there and of the next place,
-- `accepting` whether it may be owed for ever, and `end`, `top` and `bottom` are its values where the
-- word has ended, on Top for ever and on Bottom for ever
pub record Obligation : Type 0 where
  pub delta : Positive
  pub accepting : Truth
  pub end : Truth
  pub top : Truth
  pub bottom : Truth

-- obligations in order, from 0, and the number of the one that is owed at the first place
pub record Automaton : Type 0 where
  pub start : ℕ
  pub obligations : List Obligation

-- the obligation that is never met
abbrev pub never : Obligation
never = record { delta = Const false; accepting = false; end = false; top = false; bottom = false }

-- the obligation of this number; past the end the one that is never met
abbrev pub obligation_at : List Obligation → ℕ → Obligation
obligation_at [] _ = never
obligation_at (obligation ∷ _) zero = obligation
obligation_at (_ ∷ obligations) (suc number) = obligation_at obligations number

-- the obligation of each number, where numbers count on from an offset
abbrev pub numbered : ℕ → List Obligation → ℕ → Obligation
numbered offset obligations number = obligation_at obligations (number - offset)

-- an obligation's value past the last letter, where nothing, Top or Bottom follows for ever
abbrev pub value_past : Past → Obligation → Truth
value_past Nothing obligation = obligation.end
value_past Tops obligation = obligation.top
value_past Bottoms obligation = obligation.bottom

-- an obligation's value at the first of some letters: the letter there meets its delta with the
-- values at the next place
abbrev pub value_of : (ℕ → Obligation) → Past → Obligation → List Letter → Truth
value_of look past obligation [] = value_past past obligation
value_of look past obligation (letter ∷ letters) = met obligation.delta letter (λ number. value_of look past (look number) letters)

-- the automaton's value on letters and what follows them: that of its start
abbrev pub value_on : Automaton → Past → List Letter → Truth
value_on automaton past letters =
    value_of (obligation_at automaton.obligations) past (obligation_at automaton.obligations automaton.start) letters

-- the obligation of this number is the start, or owed by the delta of one that is reached
pub data IsReached (automaton : Automaton) : ℕ → Type 0 where
  begun : {number : ℕ} → number ≡ automaton.start → IsReached automaton number
  owed : {number : ℕ} (by : ℕ) → IsReached automaton by → IsTrue (owes (obligation_at automaton.obligations by).delta number) → IsReached automaton number
