-- Loops over the edges of a state, from the last to the first, and over the states.
use Rattle.std.proofs.Common.{◌≡◌, ◌∙◌, ℕ, zero, suc, ◌+◌, ◌-◌, ◌<◌, Bool as Truth, true, false, List, [], ◌∷◌, ◌++◌, map, length, get_or, drop, take, refl, ap, sym, append_assoc, arith}
use Rattle.std.specs.Prelude.{◌↔◌, ◌||◌, IsTrue}
use Rattle.std.proofs.lemmas.List.{drop_more, map_push}
use Rattle.psl_tree.specs.SequenceAutomata.{Automaton, IsSound, ReachesEnd}
use Rattle.alternating_theory.specs.Going.{is_alive, goes_on}
use Rattle.alternating_theory.specs.Obligations.{Obligation}
use Rattle.alternating_theory.proofs.Aborts.{same-test}
use Rattle.alternating_theory.proofs.Sequences.{within-below}
use Rattle.alternating_theory.proofs.Edges.{LeadBelow, alive-reaches, reaches-alive}
use Rattle.alternating.specs.Pending.{pending_of, pendings_of}
use Rattle.alternating.specs.Views.{obligation_of}
use Rattle.alternating.specs.declared.obligation.Obligation as code_obligation
use Rattle.alternating.specs.declared.pending.Pending as code_pending
use Rattle.psl_tree.specs.SequenceAutomata.{State, state_at}
use Rattle.sere_nfa.specs.Views.{edge_of, edges_of}
use Rattle.sere_nfa.specs.declared.edge.NfaEdge.{NfaEdge}

-- a mark of a state
pub mark-at : (f : State → Truth) (states : List State) (marks : List Truth) (i : ℕ) (d : Truth) → marks ≡ map f states → i < length states
    → get_or marks i d ≡ f (state_at states i)
mark-at f states marks i d e h = ap (λ (l : List Truth). get_or l i d) e ∙ mapped states i h
  where
    mapped : (states : List State) (i : ℕ) → i < length states → get_or (map f states) i d ≡ f (state_at states i)
    mapped [] i h = absurd (omega arith)
    mapped (s ∷ states) zero h = refl
    mapped (s ∷ states) (suc i) h = mapped states i (omega arith)

-- one edge more before those that were looked at
pub edge-before : (edges : List NfaEdge) (done : ℕ) (d : NfaEdge) → done < length edges
    → edges_of (drop (length edges - (done + 1)) edges) ≡ edge_of (get_or edges (length edges - 1 - done) d) ∷ edges_of (drop (length edges - done) edges)
edge-before edges done d h =
    let first : length edges - (done + 1) ≡ length edges - 1 - done = omega arith in
    let next : length edges - 1 - done + 1 ≡ length edges - done = omega arith in
    ap (λ n. edges_of (drop n edges)) first
    ∙ ap (λ (l : List NfaEdge). edges_of l) (drop_more edges (length edges - 1 - done) d (omega arith))
    ∙ ap (λ n. edge_of (get_or edges (length edges - 1 - done) d) ∷ edges_of (drop n edges)) next

-- one state more
pub state-more : {Y : Type 0} (f : State → Y) (states : List State) (i : ℕ) → i < length states
    → map f (take (i + 1) states) ≡ map f (take i states) ++ f (state_at states i) ∷ []
state-more f [] i h = absurd (omega arith)
state-more f (s ∷ states) zero h = refl
state-more f (s ∷ states) (suc i) h =
    let e : suc i + 1 ≡ suc (i + 1) = omega arith in rw e (ap (λ l. f s ∷ l) (state-more f states i (omega arith)))

-- old members, and one more for one state more
pub row-more : {Y : Type 0} (f : State → Y) (states : List State) (i : ℕ) → i < length states → (old new : List Y) (y : Y)
    → old ≡ map f (take i states) → new ≡ old ++ y ∷ [] → y ≡ f (state_at states i) → new ≡ map f (take (i + 1) states)
row-more f states i h old new y e g k =
    g ∙ ap (λ l. l ++ y ∷ []) e ∙ ap (λ z. map f (take i states) ++ z ∷ []) k ∙ sym (state-more f states i h)

-- old obligations, and one more for one state more
pub obligation-more : (f : State → Obligation) (states : List State) (i : ℕ) → i < length states → (front : List Obligation)
    (old new : List code_pending.Pending) (p : code_pending.Pending) (o : code_obligation.Obligation)
    → pendings_of old ≡ front ++ map f (take i states) → new ≡ old ++ p ∷ [] → pending_of p ≡ obligation_of o → obligation_of o ≡ f (state_at states i)
    → pendings_of new ≡ front ++ map f (take (i + 1) states)
obligation-more f states i h front old new p o e g s k =
    ap (λ (l : List code_pending.Pending). map pending_of l) g
    ∙ map_push pending_of old p
    ∙ ap (λ (l : List Obligation). l ++ pending_of p ∷ []) e
    ∙ append_assoc front (map f (take i states)) (pending_of p ∷ [])
    ∙ ap (λ (p : Obligation). front ++ (map f (take i states) ++ p ∷ [])) (s ∙ k)
    ∙ ap (λ (l : List Obligation). front ++ l) (sym (state-more f states i h))

module _ (a : Automaton) (sound : IsSound a) where
  below : (q : ℕ) → LeadBelow (length a.states) (state_at a.states q).edges
  below q = within-below (length a.states) (state_at a.states q).edges (sound.targets_below q)

  -- a mark that is exact is the test
  alive-is : (q : ℕ) (b : Truth) → IsTrue b ↔ ReachesEnd a.states q → b ≡ is_alive a.states q
  alive-is q b e = same-test b (is_alive a.states q) (λ h. reaches-alive a.states below q (e.0 h)) (λ h. e.1 (alive-reaches a.states below q h))

  goes-more : (edges : List NfaEdge) (i : ℕ) (e : NfaEdge) → i < length edges → e ≡ get_or edges i e → (b : Truth) → IsTrue b ↔ ReachesEnd a.states e.target
      → goes_on a.states (edges_of (drop i edges)) ≡ (b || goes_on a.states (edges_of (drop (i + 1) edges)))
  goes-more edges i e h is b f =
      ap (λ (l : List NfaEdge). goes_on a.states (edges_of l)) (drop_more edges i e h)
      ∙ ap (λ (g : NfaEdge). is_alive a.states g.target || goes_on a.states (edges_of (drop (i + 1) edges))) (sym is)
      ∙ ap (λ (t : Truth). t || goes_on a.states (edges_of (drop (i + 1) edges))) (sym (alive-is e.target b f))

  pub goes-found : (edges : List NfaEdge) (i : ℕ) (e : NfaEdge) → i < length edges → e ≡ get_or edges i e → (b : Truth) → IsTrue b ↔ ReachesEnd a.states e.target
      → b ≡ true → true ≡ goes_on a.states (edges_of (drop i edges))
  goes-found edges i e h is b f t =
      sym (goes-more edges i e h is b f ∙ ap (λ (s : Truth). s || goes_on a.states (edges_of (drop (i + 1) edges))) t)

  pub goes-missed : (edges : List NfaEdge) (i : ℕ) (e : NfaEdge) → i < length edges → e ≡ get_or edges i e → (b : Truth) → IsTrue b ↔ ReachesEnd a.states e.target
      → b ≡ false → goes_on a.states (edges_of (drop (i + 1) edges)) ≡ goes_on a.states (edges_of (drop i edges))
  goes-missed edges i e h is b f t =
      sym (goes-more edges i e h is b f ∙ ap (λ (s : Truth). s || goes_on a.states (edges_of (drop (i + 1) edges))) t)
