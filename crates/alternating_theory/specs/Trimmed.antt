-- Trimming: only what is reached from the start stays, in order, and the start is last.
use Rattle.std.specs.Prelude.{Bool as Truth, false, ◌&&◌, ◌||◌, ◌==◌, if◌then◌else◌, ℕ, zero, suc, ◌+◌, List, [], ◌∷◌, ◌++◌, length, map}
use Rattle.alternating_theory.specs.Obligations.{Obligation, Automaton, obligation_at}
use Rattle.alternating_theory.specs.Positive.{owes, renumbered}

-- a number below the bound passes the test
abbrev pub some_below : ℕ → (ℕ → Truth) → Truth
some_below zero test = false
some_below (suc bound) test = test bound || some_below bound test

-- the obligation of this number is reached from the start over at most so many deltas
abbrev pub reached_within : ℕ → List Obligation → ℕ → ℕ → Truth
reached_within zero obligations start number = start == number
reached_within (suc rounds) obligations start number =
    reached_within rounds obligations start number
    || some_below (length obligations) (λ by. reached_within rounds obligations start by && owes (obligation_at obligations by).delta number)

-- it is reached from the start: where it is, so many deltas as obligations suffice
abbrev pub is_reached : List Obligation → ℕ → ℕ → Truth
is_reached obligations start number = reached_within (length obligations) obligations start number

-- how many numbers below the bound pass the test
abbrev pub count_below : ℕ → (ℕ → Truth) → ℕ
count_below zero test = 0
count_below (suc bound) test = (if test zero then 1 else 0) + count_below bound (λ number. test (suc number))

-- the obligations whose numbers pass the test
abbrev pub kept : (ℕ → Truth) → List Obligation → List Obligation
kept test [] = []
kept test (obligation ∷ obligations) = (if test zero then obligation ∷ [] else []) ++ kept (λ number. test (suc number)) obligations

-- an obligation that owes other numbers
abbrev pub renumbered_obligation : (ℕ → ℕ) → Obligation → Obligation
renumbered_obligation new obligation = record {
  delta = renumbered new obligation.delta;
  accepting = obligation.accepting;
  end = obligation.end;
  top = obligation.top;
  bottom = obligation.bottom;
}

-- the obligations that are reached from the start; each gets as number how many of those before it
-- are reached
abbrev pub trimmed : List Obligation → ℕ → Automaton
trimmed obligations start = record {
  start = count_below start (is_reached obligations start);
  obligations = map (λ obligation. renumbered_obligation (λ number. count_below number (is_reached obligations start)) obligation)
      (kept (is_reached obligations start) obligations);
}
