-- What an obligation asks where it is owed, as a literal that is made behind other nodes.
use Rattle.std.specs.Prelude.{ℕ, zero, suc, ◌==◌, ℤ, neg_ℤ, cond, ◌||◌, List, [], ◌∷◌, ◌++◌, fold, length, Option, None, Some}
use Rattle.std.specs.List.{range_with_len}
use Rattle.alternating_theory.specs.Obligations.{Automaton, obligation_at}
use Rattle.gates_letters.specs.Booleans.{joined}
use Rattle.gates_letters.specs.Combinations.{combination_by}
use Rattle.gates_nodes.specs.declared.node.Node.{Node}
use Rattle.gates_nodes.specs.Folding.{Built, conjoined, either}
use Rattle.gates_nodes.specs.Nodes.{no, yes}
use Rattle.bounded.specs.Places.{number_at, owed_at}

-- a digit is 1 and another one is 0, or this is so of those before, which a literal says, and not the other way round
-- here
abbrev pub not_less : ℤ → ℤ → ℤ → List Node → Built
not_less exceeded first second nodes =
    conjoined 0 (either 0 nodes first (neg_ℤ second)).nodes exceeded (either 0 nodes first (neg_ℤ second)).output

abbrev pub digit_exceeds : ℤ → ℤ → ℤ → List Node → Built
digit_exceeds exceeded first second nodes =
    joined (either 0) (λ others. conjoined 0 others first (neg_ℤ second)) (not_less exceeded first second) nodes

-- a number is greater than another one, digit by digit from the lowest ones on; where they are equal, a literal says so
abbrev pub exceeds : ℤ → List ℤ → List ℤ → List Node → Built
exceeds equal (first ∷ firsts) (second ∷ seconds) nodes =
    exceeds (digit_exceeds equal first second nodes).output firsts seconds
    (digit_exceeds equal first second nodes).nodes
exceeds equal _ _ nodes = record { nodes = nodes; output = equal }

-- numbers fall from the last place on, and nowhere else have to
abbrev pub falls : ℕ → ℕ → ℤ
falls valuations place = cond (place == valuations) (yes 0) (no 0)

-- the literal, unless something is exceeded
abbrev pub unless_exceeded : ℤ → Built → Built
unless_exceeded literal exceeded = conjoined 0 exceeded.nodes literal (neg_ℤ exceeded.output)

-- The next place owes an obligation that serves one of a place: one of both is accepting, or the number of the next
-- one is at most that of the one before, and less where numbers fall.
abbrev pub served : Automaton → ℕ → ℕ → ℕ → ℕ → ℕ → List Node → Built
served automaton valuations before place number other nodes =
    cond
    ((obligation_at automaton.obligations number).accepting || (obligation_at automaton.obligations other).accepting)
    (record { nodes = nodes; output = owed_at automaton before (suc place) other })
    (unless_exceeded (owed_at automaton before (suc place) other)
    (exceeds (falls valuations place) (number_at automaton before (suc place) other)
    (number_at automaton before place number) nodes))

-- the literals of the frame before a place, if there is one, where each frame has some
abbrev pub literals_before : (ℕ → List ℤ) → ℕ → Option (List ℤ)
literals_before frames zero = None
literals_before frames (suc place) = Some (frames place)

-- what an obligation asks at a place
abbrev pub obligation_built : Automaton → (ℕ → List ℤ) → ℕ → ℕ → ℕ → ℕ → List Node → Built
obligation_built automaton frames valuations before place number nodes =
    combination_by 0 (literals_before frames place) (frames place) (served automaton valuations before place number)
    (obligation_at automaton.obligations number).delta nodes

-- nodes, and clauses over them
pub record Asked : Type 0 where
  pub nodes : List Node
  pub clauses : List (List ℤ)

-- a clause more that takes a literal that is made
abbrev pub with_clause : Asked → ℤ → Built → Asked
with_clause now literal built =
    record { nodes = built.nodes; clauses = now.clauses ++ (neg_ℤ literal ∷ built.output ∷ []) ∷ [] }

-- an obligation asks it where it is owed
abbrev pub with_obligation : Automaton → (ℕ → List ℤ) → ℕ → ℕ → ℕ → Asked → ℕ → Asked
with_obligation automaton frames valuations before place now number =
    with_clause now (owed_at automaton before place number)
    (obligation_built automaton frames valuations before place number now.nodes)

-- so do all obligations at a place, and at all places
abbrev pub with_place : Automaton → (ℕ → List ℤ) → ℕ → ℕ → Asked → ℕ → Asked
with_place automaton frames valuations before now place =
    fold (with_obligation automaton frames valuations before place) now
    (range_with_len 0 (length automaton.obligations))

abbrev pub with_places : Automaton → (ℕ → List ℤ) → ℕ → ℕ → List Node → Asked
with_places automaton frames valuations before nodes =
    fold (with_place automaton frames valuations before) (record { nodes = nodes; clauses = [] })
    (range_with_len 0 (suc valuations))
