-- What conjunctions, negations and duals say where a letter stands, or where none does.
use Rattle.std.proofs.Common.{◌≡◌, refl, sym, subst, Bool, Option, None, Some}
use Rattle.std.specs.Prelude.{◌↔◌, IsTrue, ◌&&◌, not, is_some}
use Rattle.std.proofs.lemmas.Bool.{false≢true, false_from_ne_true, and_parts, and_from, not-true, not_from_false, both_ways}
use Rattle.psl_tree.specs.Trace.{dual_letter, dual_at, holds_where}
use Rattle.psl_tree.specs.Holds.{holds}
use Rattle.psl_tree.specs.Trees.{Boolean, Not, And}
use Rattle.psl_tree.specs.declared.letter.Letter.{Letter}
use Rattle.psl_tree.specs.declared.letter.Letter.TheVariants.{Top, Bottom, Holds}

holds-and : (x : Letter) (a b : Boolean) → holds x (And a b) ≡ (holds x a && holds x b)
holds-and Top a b = refl
holds-and Bottom a b = refl
holds-and (Holds atoms) a b = refl

holds-not : (x : Letter) (a : Boolean) → holds x (Not a) ≡ not (holds (dual_letter x) a)
holds-not Top a = refl
holds-not Bottom a = refl
holds-not (Holds atoms) a = refl

holds-not_dual : (x : Letter) (a : Boolean) → holds (dual_letter x) (Not a) ≡ not (holds x a)
holds-not_dual Top a = refl
holds-not_dual Bottom a = refl
holds-not_dual (Holds atoms) a = refl

-- a letter stands where a Boolean holds
pub stands : (o : Option Letter) (a : Boolean) → IsTrue (holds_where o a) → IsTrue (is_some o)
stands None a h = absurd (false≢true h)
stands (Some x) a h = refl

-- a letter stands where its dual does
pub stands-dual : (o : Option Letter) → is_some (dual_at o) ≡ is_some o
stands-dual None = refl
stands-dual (Some x) = refl

-- a conjunction holds where both parts do
pub and-holds : (o : Option Letter) (a b : Boolean) → IsTrue (holds_where o (And a b)) ↔ (IsTrue (holds_where o a) × IsTrue (holds_where o b))
and-holds None a b = (λ h. absurd (false≢true h), λ u. absurd (false≢true u.0))
and-holds (Some x) a b = (
  λ h. and_parts (holds x a) (holds x b) (subst (λ (t : Bool). IsTrue t) (holds-and x a b) h),
  λ u. subst (λ (t : Bool). IsTrue t) (sym (holds-and x a b)) (and_from (holds x a) (holds x b) u.0 u.1),
)

negated : (s t : Bool) → s ≡ not t → IsTrue s ↔ (IsTrue t → ⊥)
negated s t e = (there, back)
  where
    there : IsTrue s → IsTrue t → ⊥
    there h k = both_ways t (not-true t (subst (λ (b : Bool). IsTrue b) e h)) k

    back : (IsTrue t → ⊥) → IsTrue s
    back n = subst (λ (b : Bool). IsTrue b) (sym e) (not_from_false t (false_from_ne_true t n))

-- a negation holds where a letter stands on whose dual the Boolean does not
pub not-holds : (o : Option Letter) (a : Boolean) → IsTrue (is_some o) → IsTrue (holds_where o (Not a)) ↔ (IsTrue (holds_where (dual_at o) a) → ⊥)
not-holds None a h = absurd (false≢true h)
not-holds (Some x) a h = negated (holds x (Not a)) (holds (dual_letter x) a) (holds-not x a)

-- a negation holds on the dual of a letter where the Boolean does not on the letter
pub not-holds_dual : (o : Option Letter) (a : Boolean) → IsTrue (is_some o) → IsTrue (holds_where (dual_at o) (Not a)) ↔ (IsTrue (holds_where o a) → ⊥)
not-holds_dual None a h = absurd (false≢true h)
not-holds_dual (Some x) a h = negated (holds (dual_letter x) (Not a)) (holds x a) (holds-not_dual x a)
