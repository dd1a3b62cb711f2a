-- The obligations of each form of formula, from those of its parts. A part has a start, which no
-- obligation owes, and further obligations, whose numbers count on from an offset.
pub use Rattle.psl_tree.specs.Clockless.{IsPlain as HasNoClock}
use Rattle.std.specs.Prelude.{Bool as Truth, true, false, not, ◌&&◌, ◌||◌, if◌then◌else◌, ℕ, ◌+◌, List, [], ◌∷◌, ◌++◌, length, map}
use Rattle.psl_tree.specs.Trees as trees
use Rattle.psl_tree.specs.Trees.{Boolean, Sequence, Formula, Now, NowStrong, Weak, Strong, Next, Until, Suffix, Abort, SyncAbort, Clocked}
use Rattle.psl_tree.specs.SequenceAutomata as nfa
use Rattle.psl_tree.specs.SequenceAutomata.{Edge, State, state_at}
use Rattle.psl_tree.specs.SequenceConstruction.{nfa_of}
use Rattle.alternating_theory.specs.Going.{goes_on, entry}
use Rattle.alternating_theory.specs.Obligations.{Obligation}
use Rattle.alternating_theory.specs.Positive.{Positive, Const, Holds, Owed, And, Or, renumbered, opposite}

-- an automaton in the making
pub record Part : Type 0 where
  pub start : Obligation
  pub rest : List Obligation

-- b and b!: the letter holds the Boolean; they differ where there is no letter
abbrev pub now_part : Truth → Boolean → Part
now_part end test = record { start = record { delta = Holds test; accepting = false; end = end; top = true; bottom = false }; rest = [] }

-- the dual of an obligation: each of its values is negated, and Top and Bottom change places
abbrev pub opposite_obligation : Obligation → Obligation
opposite_obligation part = record {
  delta = opposite part.delta;
  accepting = not part.accepting;
  end = not part.end;
  top = not part.bottom;
  bottom = not part.top;
}

abbrev pub not_part : Part → Part
not_part part = record { start = opposite_obligation part.start; rest = map opposite_obligation part.rest }

abbrev pub and_part : Part → Part → Part
and_part left right = record {
  start = record {
    delta = And left.start.delta right.start.delta;
    accepting = false;
    end = left.start.end && right.start.end;
    top = left.start.top && right.start.top;
    bottom = left.start.bottom && right.start.bottom;
  };
  rest = left.rest ++ right.rest;
}

-- an obligation that must have a letter, where the word may have ended for the part
abbrev pub with_letter : Obligation → Obligation
with_letter part = record { delta = part.delta; accepting = false; end = false; top = part.top; bottom = part.bottom }

-- X! f: f is owed at the next place, which must be there
abbrev pub next_part : ℕ → Part → Part
next_part offset part = record {
  start = record {
    delta = Owed (offset + length part.rest);
    accepting = false;
    end = false;
    top = part.start.top;
    bottom = part.start.bottom;
  };
  rest = part.rest ++ with_letter part.start ∷ [];
}

-- f U g: g, or f and the same again at the next place
abbrev pub until_obligation : ℕ → Obligation → Obligation → Obligation
until_obligation number left right = record {
  delta = Or right.delta (And left.delta (Owed number));
  accepting = false;
  end = false;
  top = right.top;
  bottom = right.bottom;
}

abbrev pub until_part : ℕ → Part → Part → Part
until_part offset left right = record {
  start = until_obligation (offset + (length left.rest + length right.rest)) left.start right.start;
  rest = (left.rest ++ right.rest)
      ++ until_obligation (offset + (length left.rest + length right.rest)) left.start right.start ∷ [];
}

-- a copy of an obligation that may be cut: where the Boolean holds, it is met if it is met by Top for
-- ever; the word must not end before
abbrev pub cut_obligation : (ℕ → ℕ) → Boolean → Obligation → Obligation
cut_obligation new test part = record {
  delta = Or (And (Holds test) (Const part.top)) (renumbered new part.delta);
  accepting = part.accepting;
  end = false;
  top = part.top;
  bottom = part.bottom;
}

-- f async_abort b: f, or f in the copies that may be cut
abbrev pub abort_part : Boolean → Part → Part
abort_part test part = record {
  start = record {
    delta = Or part.start.delta (cut_obligation (λ number. number + length part.rest) test part.start).delta;
    accepting = false;
    end = part.start.end;
    top = part.start.top;
    bottom = part.start.bottom;
  };
  rest = part.rest ++ map (λ obligation. cut_obligation (λ number. number + length part.rest) test obligation) part.rest;
}

-- an edge is taken, or what stands for the others is met: its label holds, and it leads to a final
-- state or to one that is owed next; it is left out where no final state is reached from there
abbrev pub taken_edge : List State → ℕ → Edge → Positive → Positive
taken_edge states offset edge others =
    if (state_at states edge.target).is_final then Or (Holds edge.label) others
    else (if goes_on states (state_at states edge.target).edges then Or (And (Holds edge.label) (Owed (offset + edge.target))) others else others)

-- some edge is taken
abbrev pub taken : List State → ℕ → List Edge → Positive
taken states offset [] = Const false
taken states offset (edge ∷ edges) = taken_edge states offset edge (taken states offset edges)

-- a prefix of what follows is read over these edges; `end` where nothing follows
abbrev pub prefix_obligation : List State → ℕ → Truth → List Edge → Obligation
prefix_obligation states offset end edges = record {
  delta = taken states offset edges;
  accepting = end;
  end = end;
  top = goes_on states edges;
  bottom = false;
}

-- r! with end false, and r with end true
abbrev pub prefix_part : ℕ → Truth → nfa.Automaton → Part
prefix_part offset end automaton = record {
  start = prefix_obligation automaton.states offset end (entry automaton);
  rest = map (λ state. prefix_obligation automaton.states offset end state.edges) automaton.states;
}

-- where the dual letter takes the edge, the state that it leads to is owed next, if it goes on
abbrev pub going_edge : List State → ℕ → Edge → Positive → Positive
going_edge states offset edge others =
    if goes_on states (state_at states edge.target).edges then And (Or (Holds (trees.Not edge.label)) (Owed (offset + edge.target))) others
    else others

-- so it is of each edge
abbrev pub going : List State → ℕ → List Edge → Positive
going states offset [] = Const true
going states offset (edge ∷ edges) = going_edge states offset edge (going states offset edges)

-- the dual letter does not take the edge, if it leads to a final state
abbrev pub quiet_edge : List State → Edge → Positive → Positive
quiet_edge states edge others =
    if (state_at states edge.target).is_final then And (Holds (trees.Not edge.label)) others else others

-- so it is of each edge
abbrev pub quiet : List State → List Edge → Positive
quiet states [] = Const true
quiet states (edge ∷ edges) = quiet_edge states edge (quiet states edges)

-- each prefix that is read over these edges is followed by what the part asks, from its last letter on
abbrev pub suffix_obligation : List State → ℕ → Truth → Obligation → List Edge → Obligation
suffix_obligation states offset accepting part edges = record {
  delta = And (going states offset edges) (Or (quiet states edges) part.delta);
  accepting = accepting;
  end = true;
  top = true;
  bottom = not (goes_on states edges) || part.bottom;
}

-- r |-> f
abbrev pub suffix_part : ℕ → nfa.Automaton → Part → Part
suffix_part offset automaton part = record {
  start = suffix_obligation automaton.states (offset + length part.rest) false part.start (entry automaton);
  rest = part.rest ++ map (λ state. suffix_obligation automaton.states (offset + length part.rest) true part.start state.edges) automaton.states;
}

-- the part of a formula without clocks, with obligations from an offset on
abbrev pub part_of : ℕ → Formula → Part
part_of offset (Now test) = now_part true test
part_of offset (NowStrong test) = now_part false test
part_of offset (Weak sequence) = prefix_part offset true (nfa_of sequence)
part_of offset (Strong sequence) = prefix_part offset false (nfa_of sequence)
part_of offset (trees.Not part) = not_part (part_of offset part)
part_of offset (trees.And left right) = and_part (part_of offset left) (part_of (offset + length (part_of offset left).rest) right)
part_of offset (Next part) = next_part offset (part_of offset part)
part_of offset (Until left right) = until_part offset (part_of offset left) (part_of (offset + length (part_of offset left).rest) right)
part_of offset (Suffix sequence part) = suffix_part offset (nfa_of sequence) (part_of offset part)
part_of offset (Abort part test) = abort_part test (part_of offset part)
part_of offset (SyncAbort part test) = abort_part test (part_of offset part)
part_of offset (Clocked part _) = part_of offset part
