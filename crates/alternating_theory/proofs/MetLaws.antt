-- Laws of what meets a positive combination.
use Rattle.std.proofs.Common.{◌≡◌, refl, sym, ◌∙◌, ℕ, ◌≤◌, ◌<◌, Bool as Truth, true, false, arith, inl, inr}
use Rattle.std.specs.Prelude.{IsTrue, not, ◌&&◌, ◌||◌}
use Rattle.std.proofs.lemmas.Bool.{or_cases, or_left, or_right, and_parts, and_from}
use Rattle.psl_tree.specs.Trace.{dual_letter}
use Rattle.psl_tree.specs.Holds.{holds}
use Rattle.psl_tree.specs.Trees as trees
use Rattle.psl_tree.specs.Trees.{Boolean}
use Rattle.psl_tree.specs.declared.letter.Letter.{Letter}
use Rattle.psl_tree.specs.declared.letter.Letter.TheVariants.{Top, Bottom, Holds as Atoms}
use Rattle.alternating_theory.specs.Positive.{Positive, Const, Holds, Owed, And, Or, met, OwesWithin, renumbered, opposite}
use Rattle.alternating_theory.proofs.Literals.{holds-negated}

-- only the values of what is owed count
pub met-same : (low high : ℕ) (p : Positive) → OwesWithin low high p → (x : Letter) (f g : ℕ → Truth) → ((q : ℕ) → low ≤ q → q < high → f q ≡ g q)
    → met p x f ≡ met p x g
met-same low high (Const v) w x f g e = refl
met-same low high (Holds b) w x f g e = refl
met-same low high (Owed q) w x f g e = e q w.0 w.1
met-same low high (And p r) w x f g e = let a = met-same low high p w.0 x f g e in let b = met-same low high r w.1 x f g e in cc
met-same low high (Or p r) w x f g e = let a = met-same low high p w.0 x f g e in let b = met-same low high r w.1 x f g e in cc

-- what is met stays met where more is true of what is owed
pub met-more : (low high : ℕ) (p : Positive) → OwesWithin low high p → (x : Letter) (f g : ℕ → Truth) → ((q : ℕ) → low ≤ q → q < high → IsTrue (f q) → IsTrue (g q))
    → IsTrue (met p x f) → IsTrue (met p x g)
met-more low high (Const v) w x f g e h = h
met-more low high (Holds b) w x f g e h = h
met-more low high (Owed q) w x f g e h = e q w.0 w.1 h
met-more low high (And p r) w x f g e h =
    let parts = and_parts (met p x f) (met r x f) h in
    and_from (met p x g) (met r x g) (met-more low high p w.0 x f g e parts.0) (met-more low high r w.1 x f g e parts.1)
met-more low high (Or p r) w x f g e h = elim (or_cases (met p x f) (met r x f) h) [
  | inl k ↦ or_left (met p x g) (met r x g) (met-more low high p w.0 x f g e k)
  | inr k ↦ or_right (met p x g) (met r x g) (met-more low high r w.1 x f g e k)
]

holds-top : (x : Letter) (b : Boolean) → IsTrue (holds Top b)
holds-top x b = refl

-- what is met on some letter is met on Top
pub met-top : (p : Positive) (x : Letter) (f : ℕ → Truth) → IsTrue (met p x f) → IsTrue (met p Top f)
met-top (Const v) x f h = h
met-top (Holds b) x f h = refl
met-top (Owed q) x f h = h
met-top (And p r) x f h =
    let parts = and_parts (met p x f) (met r x f) h in and_from (met p Top f) (met r Top f) (met-top p x f parts.0) (met-top r x f parts.1)
met-top (Or p r) x f h = elim (or_cases (met p x f) (met r x f) h) [
  | inl k ↦ or_left (met p Top f) (met r Top f) (met-top p x f k)
  | inr k ↦ or_right (met p Top f) (met r Top f) (met-top r x f k)
]

pub met-renumbered : (new : ℕ → ℕ) (p : Positive) (x : Letter) (f : ℕ → Truth) → met (renumbered new p) x f ≡ met p x (λ q. f (new q))
met-renumbered new (Const v) x f = refl
met-renumbered new (Holds b) x f = refl
met-renumbered new (Owed q) x f = refl
met-renumbered new (And p r) x f = let a = met-renumbered new p x f in let b = met-renumbered new r x f in cc
met-renumbered new (Or p r) x f = let a = met-renumbered new p x f in let b = met-renumbered new r x f in cc

-- a negated Boolean on a letter, and the Boolean on its dual
pub holds-not : (x : Letter) (b : Boolean) → holds x (trees.Not b) ≡ not (holds (dual_letter x) b)
holds-not Top b = refl
holds-not Bottom b = refl
holds-not (Atoms atoms) b = refl

not-twice : (a : Truth) → not (not a) ≡ a
not-twice true = refl
not-twice false = refl

not-and : (a b : Truth) → not (a && b) ≡ (not a || not b)
not-and true b = refl
not-and false b = refl

not-or : (a b : Truth) → not (a || b) ≡ (not a && not b)
not-or true b = refl
not-or false b = refl

pub met-opposite : (p : Positive) (x : Letter) (f : ℕ → Truth) → met (opposite p) x f ≡ not (met p (dual_letter x) (λ q. not (f q)))
met-opposite (Const v) x f = refl
met-opposite (Holds b) x f = holds-negated x b ∙ holds-not x b
met-opposite (Owed q) x f = sym (not-twice (f q))
met-opposite (And p r) x f =
    let a = met-opposite p x f in let b = met-opposite r x f in
    let c = not-and (met p (dual_letter x) (λ q. not (f q))) (met r (dual_letter x) (λ q. not (f q))) in cc
met-opposite (Or p r) x f =
    let a = met-opposite p x f in let b = met-opposite r x f in
    let c = not-or (met p (dual_letter x) (λ q. not (f q))) (met r (dual_letter x) (λ q. not (f q))) in cc

-- where the numbers lie

pub within-wider : (low high low' high' : ℕ) → low' ≤ low → high ≤ high' → (p : Positive) → OwesWithin low high p → OwesWithin low' high' p
within-wider low high low' high' l h (Const v) w = tt
within-wider low high low' high' l h (Holds b) w = tt
within-wider low high low' high' l h (Owed q) w = (omega (arith, w.0), omega (arith, w.1))
within-wider low high low' high' l h (And p r) w = (within-wider low high low' high' l h p w.0, within-wider low high low' high' l h r w.1)
within-wider low high low' high' l h (Or p r) w = (within-wider low high low' high' l h p w.0, within-wider low high low' high' l h r w.1)

pub within-opposite : (low high : ℕ) (p : Positive) → OwesWithin low high p → OwesWithin low high (opposite p)
within-opposite low high (Const v) w = tt
within-opposite low high (Holds b) w = tt
within-opposite low high (Owed q) w = w
within-opposite low high (And p r) w = (within-opposite low high p w.0, within-opposite low high r w.1)
within-opposite low high (Or p r) w = (within-opposite low high p w.0, within-opposite low high r w.1)

pub within-renumbered : (low high low' high' : ℕ) (new : ℕ → ℕ) → ((q : ℕ) → low ≤ q → q < high → (low' ≤ new q) × (new q < high'))
    → (p : Positive) → OwesWithin low high p → OwesWithin low' high' (renumbered new p)
within-renumbered low high low' high' new k (Const v) w = tt
within-renumbered low high low' high' new k (Holds b) w = tt
within-renumbered low high low' high' new k (Owed q) w = k q w.0 w.1
within-renumbered low high low' high' new k (And p r) w = (within-renumbered low high low' high' new k p w.0, within-renumbered low high low' high' new k r w.1)
within-renumbered low high low' high' new k (Or p r) w = (within-renumbered low high low' high' new k p w.0, within-renumbered low high low' high' new k r w.1)
