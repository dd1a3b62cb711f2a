-- What adding to a list does that may not grow too large, and what asking obligations does.
use Rattle.std.specs.Prelude.{◌≡◌, ℕ, suc, ◌+◌, ◌<◌, ℤ, List, [], ◌++◌, slice_index_or, Result, IfErr, OnOk}
use Rattle.std.specs.List.{flat_map, range_with_len}
use Rattle.alternating_theory.specs.Obligations.{Automaton}
use Rattle.clauses.specs.declared.flat.CnfFault.{CnfFault}
use Rattle.clauses.specs.declared.flat.TheConstants.{MOST_VARIABLES, MOST_WORDS}
use Rattle.clauses.specs.Literals.{clause_words}
use Rattle.gates_builder.specs.Adding.{Making, with_nodes}
use Rattle.gates_frames.specs.Frames.{literal_at}
use Rattle.gates_nodes.specs.declared.node.Node.{Node}
use Rattle.gates_nodes.specs.Nodes.{variables_of}
use Rattle.gates_theory.specs.Sizes.{IsTooLarge}
use Rattle.bounded.specs.Obligations.{Asked}
use Rattle.bounded.specs.Places.{begins_at, block}
use Rattle.bounded.specs.Searches.{first_clauses, same_places, same_under}

-- Others were put behind some; or together they would be larger than they may be, where a size is counted of them.
pub record Appends {X : Type 0} (size : List X → ℕ) (most : ℕ) (old new more : List X) (result : Result (Unit {0}) CnfFault) : Type 0 where
  pub ok : OnOk result (new ≡ old ++ more)
  pub large : IfErr result (λ fault. fault ≡ CnfFault.TooLarge → most < size (old ++ more))

-- clauses were
abbrev pub Puts : List (List ℤ) → List (List ℤ) → List (List ℤ) → Result (Unit {0}) CnfFault → Type 0
Puts old new more result = Appends clause_words MOST_WORDS old new more result

-- nodes were
pub record Frees (old new : Making) (more : List Node) (result : Result (Unit {0}) CnfFault) : Type 0 where
  pub kept : OnOk result (new ≡ with_nodes old new.nodes)
  pub adds : Appends (variables_of old.given) MOST_VARIABLES old.nodes new.nodes more result

-- obligations were asked behind nodes and clauses, or what is asked is too large
pub record Asks (old new : Making) (after : List (List ℤ)) (asked : Asked) (result : Result (Unit {0}) CnfFault) : Type 0 where
  pub making : OnOk result (new ≡ with_nodes old asked.nodes)
  pub clauses : OnOk result (after ≡ asked.clauses)
  pub large : IfErr result (λ fault. fault ≡ CnfFault.TooLarge → IsTooLarge (variables_of 0 asked.nodes) asked.clauses)

-- the bits of places, where a place has so many and a run so many valuations
abbrev pub nodes_of_places : ℕ → ℕ → List Node
nodes_of_places size valuations =
    flat_map (λ place. block (suc valuations + place) size) (range_with_len 0 (suc (suc valuations)))
    ++ block (suc valuations + suc (suc valuations)) valuations

-- the literals of the frame at a place
abbrev pub frame_in : List (List ℤ) → ℕ → List ℤ
frame_in frames place = slice_index_or frames place []

-- what closes a loop that begins at a place, where these signals are free
abbrev pub closed_in : Automaton → List (List ℤ) → List ℕ → ℕ → ℕ → ℕ → List (List ℤ)
closed_in automaton frames signals valuations before place =
    flat_map (λ signal. same_under (begins_at automaton valuations before place)
    (literal_at 0 (frame_in frames place) signal) (literal_at 0 (frame_in frames valuations) signal)) signals
    ++ same_places automaton valuations before place

-- how a run begins, and what closes its loop wherever it begins
abbrev pub fronts_in : Automaton → List (List ℤ) → List ℕ → ℕ → ℕ → List (List ℤ)
fronts_in automaton frames signals valuations before =
    first_clauses automaton valuations before
    ++ flat_map (closed_in automaton frames signals valuations before) (range_with_len 0 valuations)
