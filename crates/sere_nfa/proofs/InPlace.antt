-- A list whose members are changed in place, one after the other.
use Rattle.std.proofs.Common.{◌≡◌, ℕ, zero, suc, ◌+◌, ◌<◌, List, [], ◌∷◌, length, map, get_or, set, refl, ap, ◌∙◌, arith, add-one}

module _ {X Y : Type 0} (view : X → Y) (change : Y → Y) where
  -- the members below the index were changed, as the view shows them, and the others are as before
  abbrev pub ChangedBelow : List X → List X → ℕ → Type 0
  ChangedBelow [] [] i = Unit {0}
  ChangedBelow [] (n ∷ ns) i = ⊥
  ChangedBelow (o ∷ os) [] i = ⊥
  ChangedBelow (o ∷ os) (n ∷ ns) zero = (n ≡ o) × ChangedBelow os ns zero
  ChangedBelow (o ∷ os) (n ∷ ns) (suc i) = (view n ≡ change (view o)) × ChangedBelow os ns i

  pub changed-none : (xs : List X) → ChangedBelow xs xs 0
  changed-none [] = tt
  changed-none (x ∷ xs) = (refl, changed-none xs)

  changed-suc : (old now : List X) (i : ℕ) (d v : X) → ChangedBelow old now i → i < length now → view v ≡ change (view (get_or now i d))
      → ChangedBelow old (set now i v) (suc i)
  changed-suc [] [] i d v c h w = absurd (omega arith)
  changed-suc [] (n ∷ ns) i d v c h w = absurd c
  changed-suc (o ∷ os) [] i d v c h w = absurd c
  changed-suc (o ∷ os) (n ∷ ns) zero d v c h w = (w ∙ ap (λ y. change (view y)) c.0, c.1)
  changed-suc (o ∷ os) (n ∷ ns) (suc i) d v c h w = (c.0, changed-suc os ns i d v c.1 (omega arith) w)

  pub changed-more : (old now : List X) (i : ℕ) (d v : X) → ChangedBelow old now i → i < length now → view v ≡ change (view (get_or now i d))
      → ChangedBelow old (set now i v) (i + 1)
  changed-more old now i d v c h w = rw add-one (changed-suc old now i d v c h w)

  pub changed-all : (old now : List X) (i : ℕ) → ChangedBelow old now i → i ≡ length now → map view now ≡ map change (map view old)
  changed-all [] [] i c e = refl
  changed-all [] (n ∷ ns) i c e = absurd c
  changed-all (o ∷ os) [] i c e = absurd c
  changed-all (o ∷ os) (n ∷ ns) zero c e = absurd (omega arith)
  changed-all (o ∷ os) (n ∷ ns) (suc i) c e =
      ap (λ (y : Y). y ∷ map view ns) c.0 ∙ ap (λ (ys : List Y). change (view o) ∷ ys) (changed-all os ns i c.1 (omega arith))

  -- a member at the index or past it is as before
  pub changed-same : (old now : List X) (i : ℕ) (d : X) → ChangedBelow old now i → i < length now → get_or now i d ≡ get_or old i d
  changed-same [] [] i d c h = refl
  changed-same [] (n ∷ ns) i d c h = absurd c
  changed-same (o ∷ os) [] i d c h = absurd c
  changed-same (o ∷ os) (n ∷ ns) zero d c h = c.0
  changed-same (o ∷ os) (n ∷ ns) (suc i) d c h = changed-same os ns i d c.1 (omega arith)
