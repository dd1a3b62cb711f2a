-- Laws of the classical "some" and "or".
use Rattle.std.proofs.Common.{ℕ, Bool, inl, inr}
use Rattle.std.specs.Prelude.{◌↔◌, IsTrue, ◌||◌}
use Rattle.std.proofs.lemmas.Bool.{or_cases, or_left, or_right, true_from_ne_false, both_ways}
use Rattle.psl_tree.specs.Classical.{Exists, OneOf}

-- what a test tells follows from its double negation
pub stable-true : (b : Bool) → ((IsTrue b → ⊥) → ⊥) → IsTrue b
stable-true b n = true_from_ne_false b (λ e. n (λ t. both_ways b e t))

-- what some number has gives a test's answer
pub from-exists : {P : ℕ → Type 0} (b : Bool) → Exists P → ((k : ℕ) → P k → IsTrue b) → IsTrue b
from-exists b e h = stable-true b (λ n. e (λ k u. n (h k u)))

pub exists-map : {P Q : ℕ → Type 0} → ((k : ℕ) → P k → Q k) → Exists P → Exists Q
exists-map h e none = e (λ k u. none k (h k u))

-- two properties that hold of the same numbers
pub exists-same : {P Q : ℕ → Type 0} → ((k : ℕ) → P k ↔ Q k) → Exists P ↔ Exists Q
exists-same h = (exists-map (λ k. (h k).0), exists-map (λ k. (h k).1))

pub either-same : {A B C D : Type 0} → A ↔ B → C ↔ D → OneOf A C ↔ OneOf B D
either-same f g = (λ e a b. e (λ x. a (f.0 x)) (λ y. b (g.0 y)), λ e a b. e (λ x. a (f.1 x)) (λ y. b (g.1 y)))

-- a test by `||` and the two facts that its sides decide
pub or-same : {A B : Type 0} (x y : Bool) → IsTrue x ↔ A → IsTrue y ↔ B → IsTrue (x || y) ↔ OneOf A B
or-same {A} {B} x y f g = (there, back)
  where
    there : IsTrue (x || y) → OneOf A B
    there e a b = elim (or_cases x y e) [ inl h ↦ a (f.0 h) | inr h ↦ b (g.0 h) ]

    back : OneOf A B → IsTrue (x || y)
    back e = stable-true (x || y) (λ n. e (λ p. n (or_left x y (f.1 p))) (λ q. n (or_right x y (g.1 q))))

pub iff-trans : {A B C : Type 0} → A ↔ B → B ↔ C → A ↔ C
iff-trans f g = (λ a. g.0 (f.0 a), λ c. f.1 (g.1 c))

pub iff-sym : {A B : Type 0} → A ↔ B → B ↔ A
iff-sym f = (f.1, f.0)
