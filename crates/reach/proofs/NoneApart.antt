-- A cube with the negation of a literal that is true of each initial state has no initial state.
use Rattle.std.proofs.Common.{◌≡◌, sym, ◌∙◌, ℕ, ℤ, neg_ℤ, Bool as Truth, true, false, not, List}
use Rattle.std.specs.Prelude.{IsTrue, Contains}
use Rattle.std.specs.List.{list_all}
use Rattle.std.proofs.lemmas.Bool.{false_from_ne_true, false≢true}
use Rattle.std.proofs.lemmas.List.Elements.{All-contains}
use Rattle.std.proofs.lemmas.List.Sums.{AllPass-from_list_all}
use Rattle.clauses.specs.Literals.{clause_within, is_within}
use Rattle.clauses.specs.Models.{Assignment, is_true}
use Rattle.joint.specs.Joined.{Joined}
use Rattle.reach_frames.proofs.Negations.{negation_is}
use Rattle.reach_frames.specs.Bits.{values_of, is_in_cube}
use Rattle.reach.specs.Knowing.{AreKnown}
use Rattle.reach.specs.Systems.{BeginsAs}

-- each member of a list passes where all do
passes : {X : Type 0} (p : X → Truth) (xs : List X) (x : X) → list_all p xs ≡ true → Contains xs x → p x ≡ true
passes p xs x all member = All-contains (λ y. p y ≡ true) xs x (AllPass-from_list_all p xs all) member

both-true : (value : Truth) → value ≡ true → not value ≡ true → ⊥
both-true true is denied = false≢true denied
both-true false is denied = false≢true is

-- nothing makes a literal true and its negation
never-both : (values : Assignment) (width : ℕ) (literals cube : List ℤ) (literal : ℤ) → clause_within width cube ≡ true
    → Contains cube literal → Contains literals (neg_ℤ literal) → list_all (is_true values) literals ≡ true
    → list_all (is_true values) cube ≡ false
never-both values width literals cube literal within member denied all =
    false_from_ne_true (list_all (is_true values) cube)
    (λ inside. both-true (is_true values literal) (passes (is_true values) cube literal inside member)
    (sym (negation_is values width literal (passes (is_within width) cube literal within member))
    ∙ passes (is_true values) literals (neg_ℤ literal) all denied))

pub none-apart : (joined : Joined) (literals : List ℤ) → AreKnown joined literals → (width : ℕ) (cube : List ℤ) (literal : ℤ)
    → IsTrue (clause_within width cube) → Contains cube literal → Contains literals (neg_ℤ literal)
    → (bits : List Truth) → BeginsAs joined bits → is_in_cube cube bits ≡ false
none-apart joined literals known width cube literal within member denied bits begun =
    never-both (values_of bits) width literals cube literal within member denied (known bits begun)
