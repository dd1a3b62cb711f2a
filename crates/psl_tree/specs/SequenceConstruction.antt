-- The automaton of each form of sequence, from those of its parts. A part has a start, which has no
-- number, and states whose numbers count on from an offset. No edge leads back to a start.
pub use Rattle.psl_tree.specs.Clockless.{HasNoClock}
use Rattle.std.specs.Prelude.{ℕ, zero, suc, ◌+◌, ◌*◌, Bool as Truth, true, false, ◌&&◌, ◌||◌, if◌then◌else◌, Option, None, Some, List, [], ◌∷◌, ◌++◌, length, map}
use Rattle.psl_tree.specs.Trees.{Boolean, And, Or, Sequence, Empty, One, Concat, Fuse, Either, Both, Star, Clocked}
use Rattle.psl_tree.specs.SequenceAutomata.{Edge, State, Automaton}

-- a state in the making. Beside its edges it keeps the Boolean that says on which letters one letter
-- alone leads from it to an end; none where no letter does
pub record Draft : Type 0 where
  pub is_final : Truth
  pub edges : List Edge
  pub ending : Option Boolean

-- the draft of this number; one with no edge, where no list ends, past the end
abbrev pub draft_at : List Draft → ℕ → Draft
draft_at [] _ = record { is_final = false; edges = []; ending = None }
draft_at (draft ∷ _) zero = draft
draft_at (_ ∷ drafts) (suc number) = draft_at drafts number

-- the state of a draft
abbrev pub shown : Draft → State
shown draft = record { is_final = draft.is_final; edges = draft.edges }

-- an automaton in the making
pub record Part : Type 0 where
  pub start : Draft
  pub states : List Draft

-- where either of two Booleans holds, of those that there are
abbrev pub either_of : Option Boolean → Option Boolean → Option Boolean
either_of None second = second
either_of (Some first) None = Some first
either_of (Some first) (Some second) = Some (Or first second)

-- where both of two Booleans hold; none where one of them is not there
abbrev pub both_of : Option Boolean → Option Boolean → Option Boolean
both_of None _ = None
both_of (Some _) None = None
both_of (Some first) (Some second) = Some (And first second)

-- a state that goes on as the next one does where it is final
abbrev pub joined : Draft → Draft → Draft
joined next draft = record {
  is_final = draft.is_final && next.is_final;
  edges = draft.edges ++ (if draft.is_final then next.edges else []);
  ending = either_of (if next.is_final then draft.ending else None) (if draft.is_final then next.ending else None);
}

-- an edge where another Boolean holds too
abbrev pub narrowed : Boolean → Edge → Edge
narrowed label edge = record { label = And label edge.label; target = edge.target }

-- edges where another Boolean holds too; none where there is no such Boolean
abbrev pub narrowed_by : Option Boolean → List Edge → List Edge
narrowed_by None _ = []
narrowed_by (Some label) edges = map (λ edge. narrowed label edge) edges

-- a state that goes on as the next one does, on a letter that also leads from it to an end
abbrev pub fused : Draft → Draft → Draft
fused next draft = record {
  is_final = false;
  edges = draft.edges ++ narrowed_by draft.ending next.edges;
  ending = both_of draft.ending next.ending;
}

-- the edges of two states taken together: the states of the numbers i and j have number
-- offset + i * width + j
abbrev pub edge_pair : ℕ → ℕ → Edge → Edge → Edge
edge_pair offset width first second = record {
  label = And first.label second.label;
  target = offset + first.target * width + second.target;
}

abbrev pub edge_pairs : ℕ → ℕ → List Edge → List Edge → List Edge
edge_pairs _ _ [] _ = []
edge_pairs offset width (first ∷ firsts) seconds =
    map (λ second. edge_pair offset width first second) seconds ++ edge_pairs offset width firsts seconds

abbrev pub state_pair : ℕ → ℕ → Draft → Draft → Draft
state_pair offset width first second = record {
  is_final = first.is_final && second.is_final;
  edges = edge_pairs offset width first.edges second.edges;
  ending = both_of first.ending second.ending;
}

abbrev pub state_pairs : ℕ → ℕ → List Draft → List Draft → List Draft
state_pairs _ _ [] _ = []
state_pairs offset width (first ∷ firsts) seconds =
    map (λ second. state_pair offset width first second) seconds ++ state_pairs offset width firsts seconds

-- the part of [*0]
abbrev pub empty_part : Part
empty_part = record { start = record { is_final = true; edges = []; ending = None }; states = [] }

-- the part of a Boolean: one state, at the offset
abbrev pub one_part : ℕ → Boolean → Part
one_part offset label = record {
  start = record { is_final = false; edges = record { label = label; target = offset } ∷ []; ending = Some label };
  states = record { is_final = true; edges = []; ending = None } ∷ [];
}

abbrev pub concat_part : Part → Part → Part
concat_part left right = record {
  start = joined right.start left.start;
  states = map (λ state. joined right.start state) left.states ++ right.states;
}

abbrev pub fuse_part : Part → Part → Part
fuse_part left right = record {
  start = fused right.start left.start;
  states = map (λ state. fused right.start state) left.states ++ right.states;
}

abbrev pub either_part : Part → Part → Part
either_part left right = record {
  start = record {
    is_final = left.start.is_final || right.start.is_final;
    edges = left.start.edges ++ right.start.edges;
    ending = either_of left.start.ending right.start.ending;
  };
  states = left.states ++ right.states;
}

-- here the states of both parts count from 0
abbrev pub both_part : ℕ → Part → Part → Part
both_part offset left right = record {
  start = state_pair offset (length right.states) left.start right.start;
  states = state_pairs offset (length right.states) left.states right.states;
}

-- the start of a repetition: a list may end there
abbrev pub again : Draft → Draft
again start = record { is_final = true; edges = start.edges; ending = start.ending }

abbrev pub star_part : Part → Part
star_part part = record {
  start = again part.start;
  states = map (λ state. joined (again part.start) state) part.states;
}

-- the sequence is a repetition
abbrev pub is_repetition : Sequence → Truth
is_repetition (Star _) = true
is_repetition _ = false

-- the part of a sequence without clocks, with states from an offset on
abbrev pub part_of : ℕ → Sequence → Part
part_of _ Empty = empty_part
part_of offset (One label) = one_part offset label
part_of offset (Concat left right) =
    concat_part (part_of offset left) (part_of (offset + length (part_of offset left).states) right)
part_of offset (Fuse left right) =
    fuse_part (part_of offset left) (part_of (offset + length (part_of offset left).states) right)
part_of offset (Either left right) =
    either_part (part_of offset left) (part_of (offset + length (part_of offset left).states) right)
part_of offset (Both left right) = both_part offset (part_of 0 left) (part_of 0 right)
part_of offset (Star part) = if is_repetition part then part_of offset part else star_part (part_of offset part)
part_of offset (Clocked part _) = part_of offset part

-- the automaton of a part from 0 on: its start is the last state
abbrev pub finished : Part → Automaton
finished part = record { initial = length part.states ∷ []; states = map (λ state. shown state) part.states ++ shown part.start ∷ [] }

-- the automaton of a sequence without clocks
abbrev pub nfa_of : Sequence → Automaton
nfa_of sequence = finished (part_of 0 sequence)
