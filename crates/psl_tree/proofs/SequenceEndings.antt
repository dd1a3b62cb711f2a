-- The Boolean that a state in the making keeps says on which letters one letter leads to an end.
use Rattle.std.proofs.Common.{◌≡◌, ◌⊎◌, ◌↔◌, inl, inr, ℕ, ◌≤◌, ◌<◌, Bool as Truth, true, false, ◌&&◌, ◌||◌, if◌then◌else◌, Option, None, Some, [], ◌∷◌, IsTrue, refl, sym, subst}
use Rattle.psl_tree.specs.Holds.{holds}
use Rattle.psl_tree.specs.Trees.{Boolean, And, Or}
use Rattle.psl_tree.specs.declared.letter.Letter.TheVariants.{Top, Bottom, Holds}
use Rattle.psl_tree.specs.declared.letter.Letter.{Letter}
use Rattle.psl_tree.specs.SequenceConstruction.{Draft, either_of, both_of}
use Rattle.psl_tree.proofs.SequenceSteps.{never, From, Within, IsClosed, agree, same-trans}

-- a test for both, and each
pub both-true : (a b : Truth) → IsTrue (a && b) → IsTrue a × IsTrue b
both-true true b h = (refl, h)
both-true false b h = absurd (never h)

pub true-both : (a b : Truth) → IsTrue a → IsTrue b → IsTrue (a && b)
true-both true b h k = k
true-both false b h k = absurd (never h)

-- a Boolean of two parts, on each letter
holds-And : (x : Letter) (a b : Boolean) → holds x (And a b) ≡ (holds x a && holds x b)
holds-And Top a b = refl
holds-And Bottom a b = refl
holds-And (Holds atoms) a b = refl

holds-Or : (x : Letter) (a b : Boolean) → holds x (Or a b) ≡ (holds x a || holds x b)
holds-Or Top a b = refl
holds-Or Bottom a b = refl
holds-Or (Holds atoms) a b = refl

pub and-holds : (x : Letter) (a b : Boolean) → IsTrue (holds x (And a b)) ↔ (IsTrue (holds x a) × IsTrue (holds x b))
and-holds x a b = (
  λ h. both-true (holds x a) (holds x b) (subst (λ (t : Truth). IsTrue t) (holds-And x a b) h),
  λ h. subst (λ (t : Truth). IsTrue t) (sym (holds-And x a b)) (true-both (holds x a) (holds x b) h.0 h.1),
)

pub either-true : (a b : Truth) → IsTrue (a || b) ↔ (IsTrue a ⊎ IsTrue b)
either-true true b = (λ h. inl refl, λ h. refl)
either-true false b = (λ h. inr h, λ h. elim h as (λ _. IsTrue b) [ inl k ↦ absurd (never k) | inr k ↦ k ])

or-holds : (x : Letter) (a b : Boolean) → IsTrue (holds x (Or a b)) ↔ (IsTrue (holds x a) ⊎ IsTrue (holds x b))
or-holds x a b = (
  λ h. (either-true (holds x a) (holds x b)).0 (subst (λ (t : Truth). IsTrue t) (holds-Or x a b) h),
  λ h. subst (λ (t : Truth). IsTrue t) (sym (holds-Or x a b)) ((either-true (holds x a) (holds x b)).1 h),
)

-- there is a Boolean, and it holds
abbrev pub HoldsSome : Letter → Option Boolean → Type 0
HoldsSome x None = ⊥
HoldsSome x (Some label) = IsTrue (holds x label)

pub either-holds : (x : Letter) (a b : Option Boolean) → HoldsSome x (either_of a b) ↔ (HoldsSome x a ⊎ HoldsSome x b)
either-holds x None b = (λ h. inr h, λ h. elim h as (λ _. HoldsSome x b) [ inl k ↦ absurd k | inr k ↦ k ])
either-holds x (Some a) None = (λ h. inl h, λ h. elim h as (λ _. IsTrue (holds x a)) [ inl k ↦ k | inr k ↦ absurd k ])
either-holds x (Some a) (Some b) = or-holds x a b

pub both-holds : (x : Letter) (a b : Option Boolean) → HoldsSome x (both_of a b) ↔ (HoldsSome x a × HoldsSome x b)
both-holds x None b = (λ h. absurd h, λ h. absurd h.0)
both-holds x (Some a) None = (λ h. absurd h, λ h. absurd h.1)
both-holds x (Some a) (Some b) = and-holds x a b

pub if-holds : (x : Letter) (b : Truth) (o : Option Boolean) → HoldsSome x (if b then o else None) ↔ (IsTrue b × HoldsSome x o)
if-holds x true o = (λ h. (refl, h), λ h. h.1)
if-holds x false o = (λ h. absurd h, λ h. absurd (never h.0))

-- what a state keeps is so: it holds on the letters that alone lead to an end
abbrev pub Tells : (ℕ → Draft) → Draft → Type 0
Tells look s = (x : Letter) → HoldsSome x s.ending ↔ From look s (x ∷ [])

-- under a numbering that agrees it stays so
pub agree-tells : (low high : ℕ) (look look' : ℕ → Draft) → IsClosed low high look
    → ((q : ℕ) → low ≤ q → q < high → look' q ≡ look q)
    → (s : Draft) → Within low high s.edges → Tells look s → Tells look' s
agree-tells low high look look' closed same s w tells x = same-trans _ _ _ (tells x) (agree low high look look' closed same s w (x ∷ []))
