-- Parts whose start says what a formula says of each finite word in each view; the forms of one letter.
use Rattle.std.proofs.Common.{◌≡◌, refl, ℕ, ◌+◌, Bool as Truth, true, false, List, [], ◌∷◌, length}
use Rattle.std.specs.Prelude.{◌↔◌, IsTrue, not, ◌||◌, None, is_some}
use Rattle.psl_tree.specs.Evaluated.{front}
use Rattle.psl_tree.specs.Followed.{Past, Nothing, Tops, Bottoms, followed}
use Rattle.psl_tree.specs.Satisfaction.{Sat}
use Rattle.psl_tree.specs.Trace.{holds_where}
use Rattle.psl_tree.proofs.Values.{front-is, now-means}
use Rattle.psl_tree.specs.Trees.{Boolean, Formula, Now, NowStrong}
use Rattle.psl_tree.specs.declared.letter.Letter.{Letter}
use Rattle.alternating_theory.specs.Construction.{Part, now_part}
use Rattle.alternating_theory.specs.Obligations.{numbered, value_of}
use Rattle.alternating_theory.proofs.Values.{Right, EachRight, IsClosed, closed}

-- the start's value
abbrev pub start_value : ℕ → Part → Past → List Letter → Truth
start_value offset part p xs = value_of (numbered offset part.rest) p part.start xs

-- the numbers of a part's obligations end here
abbrev pub end_of : ℕ → Part → ℕ
end_of offset part = offset + length part.rest

pub record IsRight (offset : ℕ) (part : Part) : Type 0 where
  pub start : Right (numbered offset part.rest) offset (end_of offset part) part.start
  pub rest : EachRight (numbered offset part.rest) offset (end_of offset part) part.rest

pub record IsPartOf (offset : ℕ) (part : Part) (f : Formula) : Type 0 where
  pub right : IsRight offset part
  pub means : (p : Past) (xs : List Letter) → IsTrue (start_value offset part p xs) ↔ Sat (followed xs p) f None

pub part-closed : (offset : ℕ) (part : Part) → IsRight offset part → IsClosed offset (end_of offset part) (numbered offset part.rest)
part-closed offset part r = closed (numbered offset part.rest) offset part.rest r.rest

now-right : (offset : ℕ) (end : Truth) (b : Boolean) → IsRight offset (now_part end b)
now-right offset end b = record { start = record { within = tt; at_top = refl; at_bottom = refl; order = λ h. refl }; rest = tt }

-- b where there is a letter, and true or false where there is none
pub now-is : (offset : ℕ) (b : Boolean) → IsPartOf offset (now_part true b) (Now b)
now-is offset b = record { right = now-right offset true b; means = λ p xs. means p xs }
  where
    evaluated : (p : Past) (xs : List Letter) → start_value offset (now_part true b) p xs ≡ (not (is_some (front xs p)) || holds_where (front xs p) b)
    evaluated Nothing [] = refl
    evaluated Tops [] = refl
    evaluated Bottoms [] = refl
    evaluated p (x ∷ xs) = refl

    means : (p : Past) (xs : List Letter) → IsTrue (start_value offset (now_part true b) p xs) ↔ Sat (followed xs p) (Now b) None
    means p xs = let same : followed xs p 0 ≡ front xs p = front-is xs p in
        rw (evaluated p xs, same) (now-means (front xs p) b)

pub now_strong-is : (offset : ℕ) (b : Boolean) → IsPartOf offset (now_part false b) (NowStrong b)
now_strong-is offset b = record { right = now-right offset false b; means = λ p xs. means p xs }
  where
    evaluated : (p : Past) (xs : List Letter) → start_value offset (now_part false b) p xs ≡ holds_where (front xs p) b
    evaluated Nothing [] = refl
    evaluated Tops [] = refl
    evaluated Bottoms [] = refl
    evaluated p (x ∷ xs) = refl

    means : (p : Past) (xs : List Letter) → IsTrue (start_value offset (now_part false b) p xs) ↔ Sat (followed xs p) (NowStrong b) None
    means p xs = let same : followed xs p 0 ≡ front xs p = front-is xs p in
        rw (evaluated p xs, same) ((λ h. h), (λ h. h))
