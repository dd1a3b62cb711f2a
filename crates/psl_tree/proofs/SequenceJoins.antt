-- States that go on as another does where they are final: concatenation and repetition.
use Rattle.std.proofs.Common.{◌≡◌, ◌⊎◌, ◌↔◌, inl, inr, ℕ, ◌≤◌, ◌<◌, Bool as Truth, true, false, if◌then◌else◌, None, List, [], ◌∷◌, ◌++◌, IsTrue, refl, ap, sym, subst}
use Rattle.psl_tree.specs.declared.letter.Letter.{Letter}
use Rattle.psl_tree.specs.Tight.{Repeats, no_part, one_more}
use Rattle.psl_tree.specs.SequenceAutomata.{Edge, Steps}
use Rattle.psl_tree.specs.SequenceConstruction.{Draft, joined, again}
use Rattle.psl_tree.proofs.SequenceEndings.{both-true, true-both, HoldsSome, either-holds, if-holds, Tells}
use Rattle.psl_tree.proofs.SequenceSteps.{never, From, Within, IsClosed, Steps-map, Steps-map_within, take-step, make-step, Steps-append, Steps-append_left, Steps-append_right}

-- the list is cut here, where a list may end, or later
abbrev pub Cut : (ℕ → Draft) → (List Letter → Type 0) → Draft → List Letter → Type 0
Cut look B s [] = IsTrue s.is_final × B []
Cut look B s (x ∷ xs) = (IsTrue s.is_final × B (x ∷ xs)) ⊎ Steps s.edges x (λ q. Cut look B (look q) xs)

pub cut-of : (look : ℕ → Draft) (B : List Letter → Type 0) (s : Draft) (u v : List Letter) → From look s u → B v → Cut look B s (u ++ v)
cut-of look B s [] [] f b = (f, b)
cut-of look B s [] (y ∷ v) f b = inl (f, b)
cut-of look B s (x ∷ u) v f b = inr (Steps-map s.edges x (λ q. From look (look q) u) (λ q. Cut look B (look q) (u ++ v)) (λ q g. cut-of look B (look q) u v g b) f)

-- the list as a list from this state and a list of B
abbrev pub Split : (ℕ → Draft) → (List Letter → Type 0) → Draft → List Letter → Type 0
Split look B s all = (u v : List Letter) × (all ≡ u ++ v) × From look s u × B v

pub split-of : (look : ℕ → Draft) (B : List Letter → Type 0) (s : Draft) (xs : List Letter) → Cut look B s xs → Split look B s xs
split-of look B s [] c = ([], [], refl, c.0, c.1)
split-of look B s (x ∷ xs) (inl c) = ([], x ∷ xs, refl, c.0, c.1)
split-of look B s (x ∷ xs) (inr c) =
    let t = take-step s.edges x (λ q. Cut look B (look q) xs) c in
    let r = split-of look B (look t.0) xs t.2 in
    (x ∷ r.0, r.1, ap (λ (l : List Letter). x ∷ l) r.2, make-step s.edges x t.0 (λ q. From look (look q) r.0) t.1 r.3, r.4)

pub cut-splits : (look : ℕ → Draft) (B : List Letter → Type 0) (s : Draft) (xs : List Letter) → Cut look B s xs ↔ Split look B s xs
cut-splits look B s xs = (split-of look B s xs, λ c. subst (λ (l : List Letter). Cut look B s l) (sym c.2) (cut-of look B s c.0 c.1 c.3 c.4))

-- a step along the edges that a final state has gained
gained : (b : Truth) (es : List Edge) (x : Letter) (P : ℕ → Type 0) → Steps (if b then es else []) x P → IsTrue b × Steps es x P
gained true es x P s = (refl, s)
gained false es x P s = absurd s

gain : (b : Truth) (es : List Edge) (x : Letter) (P : ℕ → Type 0) → IsTrue b → Steps es x P → Steps (if b then es else []) x P
gain true es x P h s = s
gain false es x P h s = absurd (never h)

-- from a state that was joined, the list is cut into one from the old state and one from the next
pub joined-cut : (low high : ℕ) (look look' : ℕ → Draft) (next : Draft) → IsClosed low high look
    → ((q : ℕ) → low ≤ q → q < high → look' q ≡ joined next (look q))
    → (s : Draft) → Within low high s.edges → (xs : List Letter) → From look' (joined next s) xs ↔ Cut look (From look' next) s xs
joined-cut low high look look' next closed same s w xs = (there s w xs, back s w xs) where
  there : (s : Draft) → Within low high s.edges → (xs : List Letter) → From look' (joined next s) xs → Cut look (From look' next) s xs
  there s w [] f = both-true s.is_final next.is_final f
  there s w (x ∷ xs) f =
      let K : ℕ → Type 0 = λ q. From look' (look' q) xs in
      elim (Steps-append s.edges (if s.is_final then next.edges else []) x K f) as (λ _. Cut look (From look' next) s (x ∷ xs)) [
        | inl h ↦ inr (Steps-map_within low high s.edges x K (λ q. Cut look (From look' next) (look q) xs) w
            (λ q l h g. there (look q) (closed q l h) xs (subst (λ (t : Draft). From look' t xs) (same q l h) g)) h)
        | inr h ↦ inl (gained s.is_final next.edges x K h)
      ]

  back : (s : Draft) → Within low high s.edges → (xs : List Letter) → Cut look (From look' next) s xs → From look' (joined next s) xs
  back s w [] c = true-both s.is_final next.is_final c.0 c.1
  back s w (x ∷ xs) (inl c) = let K : ℕ → Type 0 = λ q. From look' (look' q) xs in
      Steps-append_right s.edges (if s.is_final then next.edges else []) x K (gain s.is_final next.edges x K c.0 c.1)
  back s w (x ∷ xs) (inr c) = let K : ℕ → Type 0 = λ q. From look' (look' q) xs in
      Steps-append_left s.edges (if s.is_final then next.edges else []) x K
      (Steps-map_within low high s.edges x (λ q. Cut look (From look' next) (look q) xs) K w
      (λ q l h g. subst (λ (t : Draft). From look' t xs) (sym (same q l h)) (back (look q) (closed q l h) xs g)) c)

-- concatenation, with the second part's lists given under its own numbering
pub joined-splits : (low high : ℕ) (look look' : ℕ → Draft) (next : Draft) (B : List Letter → Type 0) → IsClosed low high look
    → ((q : ℕ) → low ≤ q → q < high → look' q ≡ joined next (look q))
    → ((xs : List Letter) → From look' next xs ↔ B xs)
    → (s : Draft) → Within low high s.edges → (xs : List Letter) → From look' (joined next s) xs ↔ Split look B s xs
joined-splits low high look look' next B closed same means s w xs =
    let j = joined-cut low high look look' next closed same s w xs in
    let c = cut-splits look (From look' next) s xs in (
      λ f. let r = c.0 (j.0 f) in (r.0, r.1, r.2, r.3, (means r.1).0 r.4),
      λ r. j.1 (c.1 (r.0, r.1, r.2, r.3, (means r.1).1 r.4)),
    )

-- repetition
pub again-repeats : (low high : ℕ) (look look' : ℕ → Draft) (start : Draft) → IsClosed low high look → Within low high start.edges
    → ((q : ℕ) → low ≤ q → q < high → look' q ≡ joined (again start) (look q))
    → (xs : List Letter) → From look' (again start) xs ↔ Repeats (From look start) xs
again-repeats low high look look' start closed w0 same xs = (there-start xs, back xs) where
  R : List Letter → Type 0
  R = Repeats (From look start)

  more : (x : Letter) (xs : List Letter) → Steps start.edges x (λ q. Cut look R (look q) xs) → R (x ∷ xs)
  more x xs c =
      let t = take-step start.edges x (λ q. Cut look R (look q) xs) c in
      let r = split-of look R (look t.0) xs t.2 in
      one_more x r.0 r.1 (ap (λ (l : List Letter). x ∷ l) r.2) (make-step start.edges x t.0 (λ q. From look (look q) r.0) t.1 r.3) r.4

  there : (s : Draft) → Within low high s.edges → (xs : List Letter) → From look' (joined (again start) s) xs → Cut look R s xs
  there s w [] f = ((both-true s.is_final true f).0, no_part refl)
  there s w (x ∷ xs) f =
      let K : ℕ → Type 0 = λ q. From look' (look' q) xs in
      let goes : (q : ℕ) → low ≤ q → q < high → K q → Cut look R (look q) xs =
      λ q l h g. there (look q) (closed q l h) xs (subst (λ (t : Draft). From look' t xs) (same q l h) g) in
      elim (Steps-append s.edges (if s.is_final then start.edges else []) x K f) as (λ _. Cut look R s (x ∷ xs)) [
        | inl h ↦ inr (Steps-map_within low high s.edges x K (λ q. Cut look R (look q) xs) w goes h)
        | inr h ↦ let g = gained s.is_final start.edges x K h in
            inl (g.0, more x xs (Steps-map_within low high start.edges x K (λ q. Cut look R (look q) xs) w0 goes g.1))
      ]

  there-start : (xs : List Letter) → From look' (again start) xs → R xs
  there-start [] f = no_part refl
  there-start (x ∷ xs) f = more x xs (Steps-map_within low high start.edges x (λ q. From look' (look' q) xs) (λ q. Cut look R (look q) xs) w0
      (λ q l h g. there (look q) (closed q l h) xs (subst (λ (t : Draft). From look' t xs) (same q l h) g)) f)

  back : (xs : List Letter) → R xs → From look' (again start) xs
  back xs (no_part e) = subst (λ (l : List Letter). From look' (again start) l) (sym e) refl
  back xs (one_more x part rest e p r) = subst (λ (l : List Letter). From look' (again start) l) (sym e)
      (Steps-map_within low high start.edges x (λ q. From look (look q) part) (λ q. From look' (look' q) (part ++ rest)) w0
      (λ q l h g. subst (λ (t : Draft). From look' t (part ++ rest)) (sym (same q l h))
      ((joined-cut low high look look' (again start) closed same (look q) (closed q l h) (part ++ rest)).1
      (cut-of look (From look' (again start)) (look q) part rest g (back rest r)))) p)

-- what a state that was joined keeps is so
pub joined-tells : (low high : ℕ) (look look' : ℕ → Draft) (next : Draft) → IsClosed low high look
    → ((q : ℕ) → low ≤ q → q < high → look' q ≡ joined next (look q)) → Tells look' next
    → (s : Draft) → Within low high s.edges → Tells look s → Tells look' (joined next s)
joined-tells low high look look' next closed same told s w tells x =
    let cut = joined-cut low high look look' next closed same s w (x ∷ []) in
    let either = either-holds x (if next.is_final then s.ending else None) (if s.is_final then next.ending else None) in
    let own = if-holds x next.is_final s.ending in
    let later = if-holds x s.is_final next.ending in
    let There : Type 0 = Cut look (From look' next) s (x ∷ []) in (
      λ h. cut.1 (elim (either.0 h) as (λ _. There) [
        | inl k ↦ let o = own.0 k in inr (Steps-map s.edges x (λ q. IsTrue (look q).is_final) (λ q. Cut look (From look' next) (look q) []) (λ q f. (f, o.0)) ((tells x).0 o.1))
        | inr k ↦ let o = later.0 k in inl (o.0, (told x).0 o.1)
      ]),
      λ f. elim (cut.0 f) as (λ _. HoldsSome x (joined next s).ending) [
        | inl k ↦ either.1 (inr (later.1 (k.0, (told x).1 k.1)))
        | inr k ↦
            let last = (take-step s.edges x (λ q. Cut look (From look' next) (look q) []) k).2.1 in
            let step = Steps-map s.edges x (λ q. Cut look (From look' next) (look q) []) (λ q. IsTrue (look q).is_final) (λ q c. c.0) k in
            either.1 (inl (own.1 (last, (tells x).1 step)))
      ],
    )

-- so is what the start of a repetition keeps
pub again-tells : (low high : ℕ) (look look' : ℕ → Draft) (start : Draft)
    → ((q : ℕ) → low ≤ q → q < high → look' q ≡ joined (again start) (look q))
    → Within low high start.edges → Tells look start → Tells look' (again start)
again-tells low high look look' start same w tells x = (
  λ h. Steps-map_within low high start.edges x (λ q. IsTrue (look q).is_final) (λ q. IsTrue (look' q).is_final) w
      (λ q l h f. subst (λ (t : Draft). IsTrue t.is_final) (sym (same q l h)) (true-both (look q).is_final true f refl)) ((tells x).0 h),
  λ f. (tells x).1 (Steps-map_within low high start.edges x (λ q. IsTrue (look' q).is_final) (λ q. IsTrue (look q).is_final) w
      (λ q l h f. (both-true (look q).is_final true (subst (λ (t : Draft). IsTrue t.is_final) (same q l h) f)).0) f),
)
