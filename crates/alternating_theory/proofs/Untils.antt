-- f U g.
use Rattle.std.proofs.Common.{◌≡◌, refl, sym, ap, ◌∙◌, subst, ℕ, ◌+◌, ◌-◌, ◌≤◌, ◌<◌, Bool as Truth, true, false, List, [], ◌∷◌, ◌++◌, length, arith}
use Rattle.std.specs.Prelude.{◌↔◌, IsTrue, ◌&&◌, ◌||◌, None}
use Rattle.std.proofs.lemmas.List.{length-append}
use Rattle.psl_tree.specs.Evaluated.{reaches}
use Rattle.psl_tree.specs.Followed.{Past, Nothing, Tops, Bottoms, followed}
use Rattle.psl_tree.specs.Satisfaction.{Sat}
use Rattle.psl_tree.proofs.Values.{reaches-means}
use Rattle.psl_tree.specs.Trees.{Formula, Until}
use Rattle.psl_tree.specs.declared.letter.Letter.{Letter}
use Rattle.psl_tree.specs.declared.letter.Letter.TheVariants.{Top, Bottom}
use Rattle.alternating_theory.specs.Construction.{Part, until_part, until_obligation}
use Rattle.alternating_theory.specs.Obligations.{Obligation, numbered, value_of}
use Rattle.alternating_theory.specs.Positive.{met}
use Rattle.alternating_theory.proofs.Values.{Right, IsClosed, closed, right-wider, each-wider, each-append, agree, in-front, in-back}
use Rattle.alternating_theory.proofs.Parts.{start_value, IsRight, IsPartOf}
use Rattle.alternating_theory.proofs.Joined.{left-right, right-right, both-right, left-value, right-value}

module _ (offset : ℕ) (a b : Part) (r : IsRight offset a) (s : IsRight (offset + length a.rest) b) where
  abbrev again : Obligation
  again = until_obligation (offset + (length a.rest + length b.rest)) a.start b.start

  abbrev look : ℕ → Obligation
  look = numbered offset ((a.rest ++ b.rest) ++ again ∷ [])

  abbrev high : ℕ
  high = offset + length ((a.rest ++ b.rest) ++ again ∷ [])

  abbrev front : ℕ → Obligation
  front = numbered offset (a.rest ++ b.rest)

  abbrev middle : ℕ
  middle = offset + length (a.rest ++ b.rest)

  pair : length (a.rest ++ b.rest) ≡ length a.rest + length b.rest
  pair = length-append a.rest b.rest

  total : length ((a.rest ++ b.rest) ++ again ∷ []) ≡ length (a.rest ++ b.rest) + 1
  total = length-append (a.rest ++ b.rest) (again ∷ [])

  same : (q : ℕ) → offset ≤ q → q < middle → look q ≡ front q
  same q l h = in-front offset (a.rest ++ b.rest) (again ∷ []) q l h

  last : look (offset + (length a.rest + length b.rest)) ≡ again
  last = in-back offset (a.rest ++ b.rest) (again ∷ []) (offset + (length a.rest + length b.rest)) (omega (arith, pair)) ∙ first
    where
      first : numbered (offset + length (a.rest ++ b.rest)) (again ∷ []) (offset + (length a.rest + length b.rest)) ≡ again
      first = let e : offset + (length a.rest + length b.rest) - (offset + length (a.rest ++ b.rest)) ≡ 0 = omega (arith, pair) in rw e refl

  wide : (o : Obligation) → Right front offset middle o → Right look offset high o
  wide o t = right-wider front look offset middle offset high (omega arith) (omega (arith, total)) same o t

  left-wide : Right look offset high a.start
  left-wide = wide a.start (left-right offset a b r s a.start r.start)

  right-wide : Right look offset high b.start
  right-wide = wide b.start (right-right offset a b r s b.start s.start)

  absorbed : (t u : Truth) → (t || u && t) ≡ t
  absorbed true u = refl
  absorbed false true = refl
  absorbed false false = refl

  again-right : Right look offset high again
  again-right = record {
    within = (right-wide.within, (left-wide.within, (omega arith, omega (arith, total, pair))));
    at_top = ap (λ (t : Truth). t || met a.start.delta Top (λ q. (look q).top) && (look (offset + (length a.rest + length b.rest))).top) right-wide.at_top
        ∙ ap (λ (o : Obligation). b.start.top || met a.start.delta Top (λ q. (look q).top) && o.top) last
        ∙ absorbed b.start.top (met a.start.delta Top (λ q. (look q).top));
    at_bottom = ap (λ (t : Truth). t || met a.start.delta Bottom (λ q. (look q).bottom) && (look (offset + (length a.rest + length b.rest))).bottom) right-wide.at_bottom
        ∙ ap (λ (o : Obligation). b.start.bottom || met a.start.delta Bottom (λ q. (look q).bottom) && o.bottom) last
        ∙ absorbed b.start.bottom (met a.start.delta Bottom (λ q. (look q).bottom));
    order = s.start.order;
  }

  until-right : IsRight offset (until_part offset a b)
  until-right = record {
    start = again-right;
    rest = each-append look offset high (a.rest ++ b.rest) (again ∷ [])
        (each-wider front look offset middle offset high (omega arith) (omega (arith, total)) same (a.rest ++ b.rest) (both-right offset a b r s))
        (again-right, tt);
  }

  front-closed : IsClosed offset middle front
  front-closed = closed front offset (a.rest ++ b.rest) (both-right offset a b r s)

  left-is : (p : Past) (xs : List Letter) → value_of look p a.start xs ≡ start_value offset a p xs
  left-is p xs = agree offset middle front look front-closed same p a.start (left-right offset a b r s a.start r.start).within xs ∙ left-value offset a b r s p xs

  right-is : (p : Past) (xs : List Letter) → value_of look p b.start xs ≡ start_value (offset + length a.rest) b p xs
  right-is p xs = agree offset middle front look front-closed same p b.start (right-right offset a b r s b.start s.start).within xs ∙ right-value offset a b r s p xs

  until-value : (p : Past) (xs : List Letter) → value_of look p again xs
      ≡ reaches (λ from. start_value offset a p from) (λ from. start_value (offset + length a.rest) b p from) p xs
  until-value Nothing [] = refl
  until-value Tops [] = refl
  until-value Bottoms [] = refl
  until-value p (x ∷ xs) =
      ap (λ (t : Truth). t || value_of look p a.start (x ∷ xs) && value_of look p (look (offset + (length a.rest + length b.rest))) xs) (right-is p (x ∷ xs))
      ∙ ap (λ (t : Truth). start_value (offset + length a.rest) b p (x ∷ xs) || t && value_of look p (look (offset + (length a.rest + length b.rest))) xs) (left-is p (x ∷ xs))
      ∙ ap (λ (t : Truth). start_value (offset + length a.rest) b p (x ∷ xs) || start_value offset a p (x ∷ xs) && t)
      (ap (λ (o : Obligation). value_of look p o xs) last ∙ until-value p xs)

pub until-is : (offset : ℕ) (a b : Part) (f g : Formula) → IsPartOf offset a f → IsPartOf (offset + length a.rest) b g → IsPartOf offset (until_part offset a b) (Until f g)
until-is offset a b f g r s = record { right = until-right offset a b r.right s.right; means = λ p xs. means p xs }
  where
    means : (p : Past) (xs : List Letter) → IsTrue (start_value offset (until_part offset a b) p xs) ↔ Sat (followed xs p) (Until f g) None
    means p xs = subst (λ (t : Truth). IsTrue t ↔ Sat (followed xs p) (Until f g) None) (sym (until-value offset a b r.right s.right p xs))
        (reaches-means (λ w. Sat w f None) (λ w. Sat w g None) p (λ from. start_value offset a p from) (λ from. start_value (offset + length a.rest) b p from)
        (λ ys. r.means p ys) (λ ys. s.means p ys) xs)
