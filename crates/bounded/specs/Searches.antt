-- The search for a run of so many valuations whose word an automaton accepts, as clauses over frames (Biere, Cimatti,
-- Clarke and Zhu, Symbolic model checking without BDDs). There is a frame for each valuation of the run, and one for
-- that with which the loop begins once more. Only what feeds the automaton's atoms and the latches is built.
use Rattle.std.specs.Prelude.{ℕ, suc, ℤ, neg_ℤ, true, List, [], ◌∷◌, ◌++◌, map}
use Rattle.std.specs.List.{filter, flat_map, range_with_len}
use Rattle.alternating_theory.specs.Obligations.{Automaton}
use Rattle.gates_cone.specs.Cones.{with_latches}
use Rattle.gates_cone.specs.Fed.{cone_in}
use Rattle.gates_covers.specs.Greedy.{covers_of}
use Rattle.gates_frames.specs.Frames.{Cone, Frame, frame_at, literal_at}
use Rattle.gates_nodes.specs.declared.node.Node.{Node}
use Rattle.gates_nodes.specs.Clauses.{formula}
use Rattle.gates_nodes.specs.Nodes.{variables_of}
use Rattle.gates_order.specs.Depths.{order_of}
use Rattle.netlist.specs.Design.{Design, free_of}
use Rattle.bounded.specs.Obligations.{Asked, with_places}
use Rattle.bounded.specs.Places.{begins_at, bit_at, owed_at, place_bits, place_nodes}
use Rattle.bounded.specs.Tested.{signals_of}

-- what feeds the automaton's atoms and the latches
abbrev pub search_cone : Design → Automaton → Cone
search_cone design automaton = cone_in design (with_latches design (signals_of automaton))

-- the frame of a place, and its literals
unfoldable pub search_frame : Design → Automaton → ℕ → Frame
search_frame design automaton place =
    frame_at (covers_of design.tables) 0 design (order_of design.tables) (search_cone design automaton) true [] place

abbrev pub literals_of : Design → Automaton → ℕ → List ℤ
literals_of design automaton place = (search_frame design automaton place).literals

-- how many variables there are before the bits of places
abbrev pub before_places : Design → Automaton → ℕ → ℕ
before_places design automaton valuations = variables_of 0 (search_frame design automaton valuations).nodes

-- the nodes of all frames, and then the bits of places
abbrev pub placed_nodes : Design → Automaton → ℕ → List Node
placed_nodes design automaton valuations =
    (search_frame design automaton valuations).nodes ++ place_nodes automaton valuations

-- what obligations ask, behind these
unfoldable pub asked_of : Design → Automaton → ℕ → Asked
asked_of design automaton valuations =
    with_places automaton (literals_of design automaton) valuations (before_places design automaton valuations)
    (placed_nodes design automaton valuations)

-- two literals have one value where a third one is true
abbrev pub same_under : ℤ → ℤ → ℤ → List (List ℤ)
same_under guard first second =
    (neg_ℤ guard ∷ neg_ℤ first ∷ second ∷ []) ∷ (neg_ℤ guard ∷ first ∷ neg_ℤ second ∷ []) ∷ []

-- the inputs and the outputs of latches that are in the cone
abbrev pub free_in : Design → Automaton → List ℕ
free_in design automaton = filter (search_cone design automaton) (free_of design)

-- where the loop begins at a place, the last frame has the values of this one
abbrev pub same_frames : Design → Automaton → ℕ → ℕ → ℕ → List (List ℤ)
same_frames design automaton valuations before place =
    flat_map (λ signal. same_under (begins_at automaton valuations before place)
    (literal_at 0 (literals_of design automaton place) signal)
    (literal_at 0 (literals_of design automaton valuations) signal)) (free_in design automaton)

-- and what comes behind the last place has the bits of what comes behind this one
abbrev pub same_places : Automaton → ℕ → ℕ → ℕ → List (List ℤ)
same_places automaton valuations before place =
    flat_map (λ bit. same_under (begins_at automaton valuations before place)
    (bit_at automaton before (suc place) bit) (bit_at automaton before (suc valuations) bit))
    (range_with_len 0 (place_bits automaton))

abbrev pub closing_clauses : Design → Automaton → ℕ → ℕ → ℕ → List (List ℤ)
closing_clauses design automaton valuations before place =
    same_frames design automaton valuations before place ++ same_places automaton valuations before place

-- the start is owed at the first place, and the loop begins somewhere
abbrev pub first_clauses : Automaton → ℕ → ℕ → List (List ℤ)
first_clauses automaton valuations before =
    (owed_at automaton before 0 automaton.start ∷ [])
    ∷ map (begins_at automaton valuations before) (range_with_len 0 valuations) ∷ []

-- the clauses beside those of nodes
abbrev pub asked_clauses : Design → Automaton → ℕ → List (List ℤ)
asked_clauses design automaton valuations =
    first_clauses automaton valuations (before_places design automaton valuations)
    ++ flat_map (closing_clauses design automaton valuations (before_places design automaton valuations))
    (range_with_len 0 valuations)
    ++ (asked_of design automaton valuations).clauses

-- the clauses of the search, and how many variables they have
abbrev pub search_clauses : Design → Automaton → ℕ → List (List ℤ)
search_clauses design automaton valuations =
    formula (covers_of design.tables) 0 (asked_of design automaton valuations).nodes
    (asked_clauses design automaton valuations)

abbrev pub search_variables : Design → Automaton → ℕ → ℕ
search_variables design automaton valuations = variables_of 0 (asked_of design automaton valuations).nodes
