-- States that go on as another does on a letter that also leads to a final state: fusion.
use Rattle.std.proofs.Common.{◌≡◌, ◌⊎◌, ◌↔◌, inl, inr, ℕ, ◌≤◌, ◌<◌, Option, None, Some, List, [], ◌∷◌, ◌++◌, map, IsTrue, refl, ap, sym, subst}
use Rattle.psl_tree.specs.Holds.{holds}
use Rattle.psl_tree.specs.Trees.{Boolean}
use Rattle.psl_tree.specs.declared.letter.Letter.{Letter}
use Rattle.psl_tree.specs.SequenceAutomata.{Edge, Steps}
use Rattle.psl_tree.specs.SequenceConstruction.{Draft, both_of, narrowed, narrowed_by, fused}
use Rattle.psl_tree.proofs.SequenceEndings.{and-holds, both-holds, HoldsSome, Tells}
use Rattle.psl_tree.proofs.SequenceSteps.{never, From, Within, IsClosed, Steps-map, Steps-map_within, take-step, make-step, Steps-append, Steps-append_left, Steps-append_right}

narrowed-steps : (label : Boolean) (es : List Edge) (x : Letter) (P : ℕ → Type 0)
    → Steps (map (λ edge. narrowed label edge) es) x P ↔ (IsTrue (holds x label) × Steps es x P)
narrowed-steps label es x P = (there es, λ h. back es h.0 h.1) where
  there : (es : List Edge) → Steps (map (λ edge. narrowed label edge) es) x P → IsTrue (holds x label) × Steps es x P
  there [] s = absurd s
  there (e ∷ es) (inl h) = let k = (and-holds x label e.label).0 h.0 in (k.0, inl (k.1, h.1))
  there (e ∷ es) (inr s) = let k = there es s in (k.0, inr k.1)

  back : (es : List Edge) → IsTrue (holds x label) → Steps es x P → Steps (map (λ edge. narrowed label edge) es) x P
  back [] l s = absurd s
  back (e ∷ es) l (inl h) = inl ((and-holds x label e.label).1 (l, h.0), h.1)
  back (e ∷ es) l (inr s) = inr (back es l s)

narrowed_by-steps : (found : Option Boolean) (es : List Edge) (x : Letter) (P : ℕ → Type 0)
    → Steps (narrowed_by found es) x P ↔ (HoldsSome x found × Steps es x P)
narrowed_by-steps None es x P = (λ s. absurd s, λ s. s.0)
narrowed_by-steps (Some label) es x P = narrowed-steps label es x P

-- the letter is the last of a list from this state and the first of one from the next, or that comes later
abbrev pub FuseCut : (ℕ → Draft) → (List Letter → Type 0) → Draft → List Letter → Type 0
FuseCut look B s [] = ⊥
FuseCut look B s (x ∷ xs) = (Steps s.edges x (λ q. IsTrue (look q).is_final) × B (x ∷ xs)) ⊎ Steps s.edges x (λ q. FuseCut look B (look q) xs)

-- the list as u l v, where u l is a list from this state and l v one of B
abbrev pub FuseSplit : (ℕ → Draft) → (List Letter → Type 0) → Draft → List Letter → Type 0
FuseSplit look B s all = (u : List Letter) × (l : Letter) × (v : List Letter) × (all ≡ u ++ l ∷ v) × From look s (u ++ l ∷ []) × B (l ∷ v)

fuse-of : (look : ℕ → Draft) (B : List Letter → Type 0) (s : Draft) (u : List Letter) (l : Letter) (v : List Letter)
    → From look s (u ++ l ∷ []) → B (l ∷ v) → FuseCut look B s (u ++ l ∷ v)
fuse-of look B s [] l v f b = inl (f, b)
fuse-of look B s (x ∷ u) l v f b = inr (Steps-map s.edges x (λ q. From look (look q) (u ++ l ∷ [])) (λ q. FuseCut look B (look q) (u ++ l ∷ v)) (λ q g. fuse-of look B (look q) u l v g b) f)

fuse-split-of : (look : ℕ → Draft) (B : List Letter → Type 0) (s : Draft) (xs : List Letter) → FuseCut look B s xs → FuseSplit look B s xs
fuse-split-of look B s [] c = absurd c
fuse-split-of look B s (x ∷ xs) (inl c) = ([], x, xs, refl, c.0, c.1)
fuse-split-of look B s (x ∷ xs) (inr c) =
    let t = take-step s.edges x (λ q. FuseCut look B (look q) xs) c in
    let r = fuse-split-of look B (look t.0) xs t.2 in
    (x ∷ r.0, r.1, r.2, ap (λ (l : List Letter). x ∷ l) r.3, make-step s.edges x t.0 (λ q. From look (look q) (r.0 ++ r.1 ∷ [])) t.1 r.4, r.5)

fused-cut : (low high : ℕ) (look look' : ℕ → Draft) (next : Draft) → IsClosed low high look
    → ((q : ℕ) → low ≤ q → q < high → Tells look (look q))
    → ((q : ℕ) → low ≤ q → q < high → look' q ≡ fused next (look q))
    → (s : Draft) → Within low high s.edges → Tells look s → (xs : List Letter) → From look' (fused next s) xs ↔ FuseCut look (From look' next) s xs
fused-cut low high look look' next closed told same s w tells xs = (there s w tells xs, back s w tells xs) where
  B : List Letter → Type 0
  B = From look' next

  there : (s : Draft) → Within low high s.edges → Tells look s → (xs : List Letter) → From look' (fused next s) xs → FuseCut look B s xs
  there s w t [] f = never f
  there s w t (x ∷ xs) f =
      let K : ℕ → Type 0 = λ q. From look' (look' q) xs in
      elim (Steps-append s.edges (narrowed_by s.ending next.edges) x K f) as (λ _. FuseCut look B s (x ∷ xs)) [
        | inl h ↦ inr (Steps-map_within low high s.edges x K (λ q. FuseCut look B (look q) xs) w
            (λ q l h g. there (look q) (closed q l h) (told q l h) xs (subst (λ (d : Draft). From look' d xs) (same q l h) g)) h)
        | inr h ↦ let n = (narrowed_by-steps s.ending next.edges x K).0 h in inl ((t x).0 n.0, n.1)
      ]

  back : (s : Draft) → Within low high s.edges → Tells look s → (xs : List Letter) → FuseCut look B s xs → From look' (fused next s) xs
  back s w t [] c = absurd c
  back s w t (x ∷ xs) (inl c) =
      let K : ℕ → Type 0 = λ q. From look' (look' q) xs in
      Steps-append_right s.edges (narrowed_by s.ending next.edges) x K ((narrowed_by-steps s.ending next.edges x K).1 ((t x).1 c.0, c.1))
  back s w t (x ∷ xs) (inr c) =
      let K : ℕ → Type 0 = λ q. From look' (look' q) xs in
      Steps-append_left s.edges (narrowed_by s.ending next.edges) x K
      (Steps-map_within low high s.edges x (λ q. FuseCut look B (look q) xs) K w
      (λ q l h g. subst (λ (d : Draft). From look' d xs) (sym (same q l h)) (back (look q) (closed q l h) (told q l h) xs g)) c)

-- fusion, with the second part's lists given under its own numbering
pub fused-splits : (low high : ℕ) (look look' : ℕ → Draft) (next : Draft) (B : List Letter → Type 0) → IsClosed low high look
    → ((q : ℕ) → low ≤ q → q < high → Tells look (look q))
    → ((q : ℕ) → low ≤ q → q < high → look' q ≡ fused next (look q))
    → ((xs : List Letter) → From look' next xs ↔ B xs)
    → (s : Draft) → Within low high s.edges → Tells look s → (xs : List Letter) → From look' (fused next s) xs ↔ FuseSplit look B s xs
fused-splits low high look look' next B closed told same means s w tells xs =
    let j = fused-cut low high look look' next closed told same s w tells xs in (
      λ f. let r = fuse-split-of look (From look' next) s xs (j.0 f) in (r.0, r.1, r.2, r.3, r.4, (means (r.1 ∷ r.2)).0 r.5),
      λ r. j.1 (subst (λ (l : List Letter). FuseCut look (From look' next) s l) (sym r.3)
          (fuse-of look (From look' next) s r.0 r.1 r.2 r.4 ((means (r.1 ∷ r.2)).1 r.5))),
    )

-- what a state that was fused keeps is so
pub fused-tells : (low high : ℕ) (look look' : ℕ → Draft) (next : Draft) → IsClosed low high look
    → ((q : ℕ) → low ≤ q → q < high → Tells look (look q))
    → ((q : ℕ) → low ≤ q → q < high → look' q ≡ fused next (look q)) → Tells look' next
    → (s : Draft) → Within low high s.edges → Tells look s → Tells look' (fused next s)
fused-tells low high look look' next closed told same told-next s w tells x =
    let cut = fused-cut low high look look' next closed told same s w tells (x ∷ []) in
    let both = both-holds x s.ending next.ending in (
      λ h. let b = both.0 h in cut.1 (inl ((tells x).0 b.0, (told-next x).0 b.1)),
      λ f. elim (cut.0 f) as (λ _. HoldsSome x (both_of s.ending next.ending)) [
        | inl k ↦ both.1 ((tells x).1 k.0, (told-next x).1 k.1)
        | inr k ↦ absurd (take-step s.edges x (λ q. ⊥) k).2
      ],
    )
