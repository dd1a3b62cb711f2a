-- Pairs of states: the lists that both accept.
use Rattle.std.proofs.Common.{◌≡◌, ◌↔◌, inl, inr, ℕ, ◌+◌, ◌*◌, ◌<◌, List, [], ◌∷◌, map, IsTrue, sym, subst}
use Rattle.psl_tree.specs.Holds.{holds}
use Rattle.psl_tree.specs.declared.letter.Letter.{Letter}
use Rattle.psl_tree.specs.SequenceAutomata.{Edge, Steps}
use Rattle.psl_tree.specs.SequenceConstruction.{Draft, edge_pair, edge_pairs, state_pair}
use Rattle.psl_tree.proofs.SequenceEndings.{both-true, true-both, and-holds, both-holds, Tells}
use Rattle.psl_tree.proofs.SequenceSteps.{From, Within, IsClosed, Steps-map, Steps-map_within, take-step, Steps-append, Steps-append_left, Steps-append_right}

-- a step along a pair of edges is a step along each
row-steps : (o m : ℕ) (e : Edge) (fs : List Edge) (x : Letter) (P : ℕ → Type 0)
    → Steps (map (λ second. edge_pair o m e second) fs) x P ↔ (IsTrue (holds x e.label) × Steps fs x (λ j. P (o + e.target * m + j)))
row-steps o m e fs x P = (there fs, λ h. back fs h.0 h.1) where
  there : (fs : List Edge) → Steps (map (λ second. edge_pair o m e second) fs) x P → IsTrue (holds x e.label) × Steps fs x (λ j. P (o + e.target * m + j))
  there [] s = absurd s
  there (f ∷ fs) (inl h) = let k = (and-holds x e.label f.label).0 h.0 in (k.0, inl (k.1, h.1))
  there (f ∷ fs) (inr s) = let k = there fs s in (k.0, inr k.1)

  back : (fs : List Edge) → IsTrue (holds x e.label) → Steps fs x (λ j. P (o + e.target * m + j)) → Steps (map (λ second. edge_pair o m e second) fs) x P
  back [] l s = absurd s
  back (f ∷ fs) l (inl h) = inl ((and-holds x e.label f.label).1 (l, h.0), h.1)
  back (f ∷ fs) l (inr s) = inr (back fs l s)

pub pair-steps : (o m : ℕ) (es fs : List Edge) (x : Letter) (P : ℕ → Type 0)
    → Steps (edge_pairs o m es fs) x P ↔ Steps es x (λ i. Steps fs x (λ j. P (o + i * m + j)))
pair-steps o m es fs x P = (there es, back es) where
  row : Edge → List Edge
  row e = map (λ second. edge_pair o m e second) fs

  Both : ℕ → Type 0
  Both i = Steps fs x (λ j. P (o + i * m + j))

  there : (es : List Edge) → Steps (edge_pairs o m es fs) x P → Steps es x Both
  there [] s = s
  there (e ∷ es) s = elim (Steps-append (row e) (edge_pairs o m es fs) x P s) as (λ _. Steps (e ∷ es) x Both) [
    | inl h ↦ inl ((row-steps o m e fs x P).0 h)
    | inr h ↦ inr (there es h)
  ]

  back : (es : List Edge) → Steps es x Both → Steps (edge_pairs o m es fs) x P
  back [] s = s
  back (e ∷ es) (inl h) = Steps-append_left (row e) (edge_pairs o m es fs) x P ((row-steps o m e fs x P).1 h)
  back (e ∷ es) (inr s) = Steps-append_right (row e) (edge_pairs o m es fs) x P (back es s)

pub pair-accepts : (o n m : ℕ) (look look' look2 : ℕ → Draft) → IsClosed 0 n look → IsClosed 0 m look'
    → ((i j : ℕ) → i < n → j < m → look2 (o + i * m + j) ≡ state_pair o m (look i) (look' j))
    → (s t : Draft) → Within 0 n s.edges → Within 0 m t.edges → (xs : List Letter)
    → From look2 (state_pair o m s t) xs ↔ (From look s xs × From look' t xs)
pair-accepts o n m look look' look2 closed closed' same s t w w' xs = (there s t w w' xs, λ h. back s t w w' xs h.0 h.1) where
  there : (s t : Draft) → Within 0 n s.edges → Within 0 m t.edges → (xs : List Letter) → From look2 (state_pair o m s t) xs → From look s xs × From look' t xs
  there s t w w' [] f = both-true s.is_final t.is_final f
  there s t w w' (x ∷ xs) f =
      let P : ℕ → Type 0 = λ i. From look (look i) xs in
      let Q : ℕ → Type 0 = λ j. From look' (look' j) xs in
      let K : ℕ → Type 0 = λ q. From look2 (look2 q) xs in
      let met = (pair-steps o m s.edges t.edges x K).0 f in
      let each : Steps s.edges x (λ i. Steps t.edges x (λ j. P i × Q j)) =
      Steps-map_within 0 n s.edges x (λ i. Steps t.edges x (λ j. K (o + i * m + j))) (λ i. Steps t.edges x (λ j. P i × Q j)) w
      (λ i l h g. Steps-map_within 0 m t.edges x (λ j. K (o + i * m + j)) (λ j. P i × Q j) w'
      (λ j l' h' k. there (look i) (look' j) (closed i l h) (closed' j l' h') xs (subst (λ (u : Draft). From look2 u xs) (same i j h h') k)) g) met in (
        Steps-map s.edges x (λ i. Steps t.edges x (λ j. P i × Q j)) P (λ i g. (take-step t.edges x (λ j. P i × Q j) g).2.0) each,
        let a = take-step s.edges x (λ i. Steps t.edges x (λ j. P i × Q j)) each in
            Steps-map t.edges x (λ j. P a.0 × Q j) Q (λ j g. g.1) a.2,
      )

  back : (s t : Draft) → Within 0 n s.edges → Within 0 m t.edges → (xs : List Letter) → From look s xs → From look' t xs → From look2 (state_pair o m s t) xs
  back s t w w' [] f g = true-both s.is_final t.is_final f g
  back s t w w' (x ∷ xs) f g =
      let P : ℕ → Type 0 = λ i. From look (look i) xs in
      let Q : ℕ → Type 0 = λ j. From look' (look' j) xs in
      let K : ℕ → Type 0 = λ q. From look2 (look2 q) xs in
      (pair-steps o m s.edges t.edges x K).1
      (Steps-map_within 0 n s.edges x P (λ i. Steps t.edges x (λ j. K (o + i * m + j))) w
      (λ i l h p. Steps-map_within 0 m t.edges x Q (λ j. K (o + i * m + j)) w'
      (λ j l' h' q. subst (λ (u : Draft). From look2 u xs) (sym (same i j h h')) (back (look i) (look' j) (closed i l h) (closed' j l' h') xs p q)) g) f)

-- what a pair keeps is so
pub pair-tells : (o n m : ℕ) (look look' look2 : ℕ → Draft) → IsClosed 0 n look → IsClosed 0 m look'
    → ((i j : ℕ) → i < n → j < m → look2 (o + i * m + j) ≡ state_pair o m (look i) (look' j))
    → (s t : Draft) → Within 0 n s.edges → Within 0 m t.edges → Tells look s → Tells look' t → Tells look2 (state_pair o m s t)
pair-tells o n m look look' look2 closed closed' same s t w w' tells tells' x =
    let a = pair-accepts o n m look look' look2 closed closed' same s t w w' (x ∷ []) in
    let both = both-holds x s.ending t.ending in (
      λ h. let b = both.0 h in a.1 ((tells x).0 b.0, (tells' x).0 b.1),
      λ f. let b = a.0 f in both.1 ((tells x).1 b.0, (tells' x).1 b.1),
    )
