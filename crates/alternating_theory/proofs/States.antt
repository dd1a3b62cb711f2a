-- The states of a sequence's automaton: which are in use, and from which a path leads on.
use Rattle.std.proofs.Common.{◌≡◌, inl, inr, refl, ap, subst, ℕ, zero, suc, ◌≤◌, ◌<◌, List, [], ◌∷◌, ◌++◌, length, arith}
use Rattle.std.specs.Prelude.{IsTrue}
use Rattle.std.proofs.lemmas.Bool.{cases_lt}
use Rattle.std.proofs.lemmas.List.Elements.{recursion_from_All}
use Rattle.psl_tree.specs.Clockless.{HasNoClock}
use Rattle.psl_tree.specs.Followed.{Tops, followed}
use Rattle.psl_tree.specs.Trace.{Trace, first, is_place}
use Rattle.psl_tree.proofs.Choice.{from-exists, exists-map}
use Rattle.psl_tree.specs.Trees.{Sequence}
use Rattle.psl_tree.specs.declared.letter.Letter.{Letter}
use Rattle.psl_tree.specs.declared.letter.Letter.TheVariants.{Bottom}
use Rattle.psl_tree.specs.SequenceAutomata.{Edge, State, state_at, no_state, AcceptsFrom}
use Rattle.psl_tree.specs.SequenceConstruction as sequences
use Rattle.psl_tree.specs.SequenceConstruction.{nfa_of}
use Rattle.psl_tree.proofs.SequenceAutomata.{finished-sound}
use Rattle.psl_tree.proofs.SequenceMeans.{part-means}
use Rattle.psl_tree.proofs.SequenceSteps.{StepTo, take-step}
use Rattle.alternating_theory.proofs.Cells.{start_of, To, Reads}
use Rattle.alternating_theory.specs.Going.{goes_on, entry}
use Rattle.alternating_theory.proofs.Edges.{LeadBelow, on-goes, step-below, step-bottom}
use Rattle.alternating_theory.proofs.Reading.{goes-reads, on-accepts, accepts-on}

edges-nil : (es : List Edge) → es ++ [] ≡ es
edges-nil [] = refl
edges-nil (e ∷ es) = ap (λ (l : List Edge). e ∷ l) (edges-nil es)

-- the edges of the initial state
pub entry-is : (r : Sequence) → entry (nfa_of r) ≡ (state_at (nfa_of r).states (start_of r)).edges
entry-is r = edges-nil (state_at (nfa_of r).states (start_of r)).edges

pub start-below : (r : Sequence) → HasNoClock r → start_of r < length (nfa_of r).states
start-below r h = (recursion_from_All (λ (k : ℕ). k < length (nfa_of r).states) (start_of r ∷ []) (finished-sound (sequences.part_of 0 r) r (part-means 0 r h)).initial_below).0

past-states : (ss : List State) (q : ℕ) → length ss ≤ q → state_at ss q ≡ no_state
past-states [] q h = refl
past-states (s ∷ ss) zero h = absurd (omega arith)
past-states (s ∷ ss) (suc q) h = past-states ss q (omega arith)

-- steps are of states that there are
pub from-below : (ss : List State) (q : ℕ) (x : Letter) (t : ℕ) → To ss q x t → q < length ss
from-below ss q x t s = elim (cases_lt q (length ss)) [
  | inl h ↦ h
  | inr h ↦ absurd (subst (λ (k : State). StepTo k.edges x t) (past-states ss q h) s)
]

module _ (states : List State) (below : (q : ℕ) → LeadBelow (length states) (state_at states q).edges) where
  pub to-below : (q : ℕ) (x : Letter) (t : ℕ) → To states q x t → t < length states
  to-below q x t s =
      let u = take-step (state_at states q).edges x (λ k. (k < length states) × (k ≡ t)) (step-below (length states) (state_at states q).edges x (λ k. k ≡ t) (below q) s) in
      subst (λ (k : ℕ). k < length states) u.2.1 u.2.0

  -- an edge leads on to an end
  abbrev pub Live : ℕ → Type 0
  Live q = IsTrue (goes_on states (state_at states q).edges)

  pub live : (q : ℕ) (y : Letter) (ys : List Letter) → AcceptsFrom states q (y ∷ ys) → Live q
  live q y ys h = on-goes states below (state_at states q).edges (y ∷ ys) h

  pub reads-live : (w : Trace) (q : ℕ) → IsTrue (is_place w 0) → Reads states w q → Live q
  reads-live w q p r = from-exists (goes_on states (state_at states q).edges) r
      (λ i h. on-goes states below (state_at states q).edges (first (suc i) w) (accepts-on states q i w p h))

  pub live-tops : (q : ℕ) → Live q → Reads states (followed [] Tops) q
  live-tops q h = exists-map (λ i u. on-accepts states q (first (suc i) (followed [] Tops)) u.1) (goes-reads states below (state_at states q).edges h)

  pub none-bottom : (q : ℕ) (x : Letter) (t : ℕ) → x ≡ Bottom → To states q x t → ⊥
  none-bottom q x t e s = step-bottom (state_at states q).edges (λ k. k ≡ t) (subst (λ (y : Letter). To states q y t) e s)
