-- What the public calls show of an automaton.
use Rattle.std.proofs.Common.{◌≡◌, ◌↔◌, ℕ, zero, suc, ◌≤◌, ◌<◌, List, [], ◌∷◌, ◌++◌, map, length, get_or, All, refl, ap, sym, subst, ◌∙◌, arith}
use Rattle.std.specs.Prelude.{None}
use Rattle.std.specs.List.{AllByRecursion}
use Rattle.std.proofs.lemmas.List.{length-map, map-append}
use Rattle.std.proofs.lemmas.List.Elements.{All-from_recursion, recursion_from_All}
use Rattle.psl_tree.specs.Tight.{Tight}
use Rattle.psl_tree.specs.Trees.{Sequence}
use Rattle.psl_tree.specs.declared.letter.Letter.{Letter}
use Rattle.psl_tree.specs.SequenceAutomata.{Edge, State, Automaton, state_at, Accepts, LeadsWithin, IsSound}
use Rattle.psl_tree.specs.Clockless.{HasNoClock}
use Rattle.psl_tree.specs.SequenceConstruction.{part_of, shown, finished, nfa_of}
use Rattle.sere_nfa.specs.Views.{edges_of, state_of, states_of_code, draft_of, drafts_of, part_of_code}
use Rattle.sere_nfa.specs.declared.edge.NfaEdge.{NfaEdge}
use Rattle.sere_nfa.specs.declared.part.Part as code_part
use Rattle.sere_nfa.specs.declared.state.State as code_state
use Rattle.psl_tree.proofs.SequenceAutomata.{finished-accepts, finished-sound}
use Rattle.sere_nfa.proofs.Built.{built-means}

-- the program's state of a number
pub shown-state : (states : List code_state.State) (i : ℕ) (d : code_state.State) → i < length states → state_of (get_or states i d) ≡ state_at (states_of_code states) i
shown-state [] i d h = absurd (omega arith)
shown-state (s ∷ states) zero d h = refl
shown-state (s ∷ states) (suc i) d h = shown-state states i d (omega arith)

below-recursion : (low high : ℕ) (edges : List NfaEdge) → AllByRecursion (λ (edge : Edge). (low ≤ edge.target) × (edge.target < high)) (edges_of edges)
    → AllByRecursion (λ (edge : NfaEdge). edge.target < high) edges
below-recursion low high [] w = tt
below-recursion low high (e ∷ edges) w = (w.0.1, below-recursion low high edges w.1)

pub edges-below : (low high : ℕ) (edges : List NfaEdge) → LeadsWithin low high (edges_of edges) → All (λ edge. edge.target < high) edges
edges-below low high edges w = All-from_recursion (λ edge. edge.target < high) edges
    (below-recursion low high edges (recursion_from_All (λ (edge : Edge). (low ≤ edge.target) × (edge.target < high)) (edges_of edges) w))

-- the automaton that is made of a part
abbrev pub IsFinished : code_part.Part → List ℕ → List code_state.State → Type 0
IsFinished part initial states = (initial ≡ length part.states.items ∷ []) × (states ≡ part.states.items ++ part.start ∷ [])

shown-drafts : (states : List code_state.State) → map (λ state. shown state) (drafts_of states) ≡ states_of_code states
shown-drafts [] = refl
shown-drafts (s ∷ states) = ap (λ (l : List State). state_of s ∷ l) (shown-drafts states)

same-automaton : (part : code_part.Part) (initial : List ℕ) (states : List code_state.State) → IsFinished part initial states
    → finished (part_of_code part) ≡ record { initial = initial; states = states_of_code states }
same-automaton part initial states f =
    let first : length (drafts_of part.states.items) ∷ [] ≡ initial = ap (λ n. n ∷ []) (length-map part.states.items draft_of) ∙ sym f.0 in
    let rest : map (λ state. shown state) (drafts_of part.states.items) ++ state_of part.start ∷ [] ≡ states_of_code states =
    ap (λ (l : List State). l ++ state_of part.start ∷ []) (shown-drafts part.states.items)
    ∙ sym (ap (λ (l : List code_state.State). map state_of l) f.1 ∙ map-append state_of part.states.items (part.start ∷ [])) in
    cc

pub made-sound : (r : Sequence) (part : code_part.Part) (initial : List ℕ) (states : List code_state.State) → HasNoClock r → part_of_code part ≡ part_of 0 r
    → IsFinished part initial states → IsSound (record { initial = initial; states = states_of_code states })
made-sound r part initial states h e f =
    subst (λ (a : Automaton). IsSound a) (same-automaton part initial states f) (finished-sound (part_of_code part) r (built-means 0 r part h e))

pub made-accepts : (r : Sequence) (part : code_part.Part) (initial : List ℕ) (states : List code_state.State) → HasNoClock r → part_of_code part ≡ part_of 0 r
    → IsFinished part initial states → (letters : List Letter) → Accepts (record { initial = initial; states = states_of_code states }) letters ↔ Tight None r letters
made-accepts r part initial states h e f letters =
    subst (λ (a : Automaton). Accepts a letters ↔ Tight None r letters) (same-automaton part initial states f)
    (finished-accepts (part_of_code part) r (built-means 0 r part h e) letters)

pub made-built : (r : Sequence) (part : code_part.Part) (initial : List ℕ) (states : List code_state.State) → part_of_code part ≡ part_of 0 r
    → IsFinished part initial states → record { initial = initial; states = states_of_code states } ≡ nfa_of r
made-built r part initial states e f = sym (same-automaton part initial states f) ∙ ap finished e
