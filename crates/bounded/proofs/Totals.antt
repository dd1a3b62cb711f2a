-- How many variables and words a search has at the least, so that a part is too large only where the whole is.
use Rattle.std.proofs.Common.{ℕ, suc, ◌+◌, ◌*◌, ◌<◌, ◌≤◌, ℤ, List, [], ◌∷◌, ◌++◌, inr, arith}
use Rattle.std.specs.List.{flat_map, range_with_len}
use Rattle.alternating_theory.specs.Obligations.{Automaton}
use Rattle.clauses.specs.declared.flat.TheConstants.{MOST_WORDS}
use Rattle.clauses.specs.Literals.{clause_words}
use Rattle.gates_covers.specs.Greedy.{covers_of}
use Rattle.gates_nodes.specs.Clauses as nodes
use Rattle.gates_nodes.specs.Nodes.{variables_of, yes}
use Rattle.gates_theory.specs.Sizes.{IsTooLarge}
use Rattle.gates_theory.proofs.Sizes.{words-append}
use Rattle.netlist.specs.Design.{Design}
use Rattle.bounded.specs.Places.{place_bits}
use Rattle.bounded.specs.Searches.{asked_clauses, asked_of, before_places, closing_clauses, first_clauses, placed_nodes, search_clauses, search_variables}
use Rattle.bounded.proofs.Cones.{Premises}
use Rattle.bounded.proofs.Frames.{start-few}
use Rattle.bounded.proofs.Within.{more}

module _ (d : Design) (a : Automaton) (on : Premises d a) (n : ℕ) where
  pub placed-few : variables_of 0 (placed_nodes d a n) ≤ search_variables d a n
  placed-few = more d a on n

  pub begins-few : before_places d a n + (suc (suc n) * place_bits a + n) ≤ search_variables d a n
  begins-few = let one = start-few d a on n in let two = more d a on n in omega (arith, one, two)

  pub frames-few : before_places d a n ≤ search_variables d a n
  frames-few = let one = begins-few in omega (arith, one)

  pub valuations-few : n < search_variables d a n
  valuations-few = let one = begins-few in omega (arith, one)

  pub words-few : clause_words (asked_clauses d a n) ≤ clause_words (search_clauses d a n)
  words-few =
      let front = nodes.asked_clauses (covers_of d.tables) 0 1 (asked_of d a n).nodes (flat_map (λ (clause : List ℤ). clause) (asked_clauses d a n)) in
      omega (arith, words-append ((yes 0 ∷ []) ∷ front) (asked_clauses d a n))

  -- where a part of the clauses has too many words
  pub front-large : MOST_WORDS < clause_words (first_clauses a n (before_places d a n)) → IsTooLarge (search_variables d a n) (search_clauses d a n)
  front-large large =
      let rest = flat_map (closing_clauses d a n (before_places d a n)) (range_with_len 0 n) ++ (asked_of d a n).clauses in
      let one = words-append (first_clauses a n (before_places d a n)) rest in
      let two = words-few in
      inr (omega (arith, one, two, large))
