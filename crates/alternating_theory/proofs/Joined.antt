-- Parts that stand beside one another: f and g, and X! f.
use Rattle.std.proofs.Common.{◌≡◌, refl, sym, ap, ◌∙◌, subst, ℕ, ◌+◌, ◌-◌, ◌≤◌, ◌<◌, Bool as Truth, List, [], ◌∷◌, ◌++◌, length, arith}
use Rattle.std.specs.Prelude.{IsTrue, ◌&&◌, Option, None, is_some}
use Rattle.std.proofs.lemmas.Bool.{and_parts, and_from}
use Rattle.std.proofs.lemmas.List.{length-append}
use Rattle.psl_tree.specs.Evaluated.{front, rest}
use Rattle.psl_tree.specs.Followed.{Past, Nothing, Tops, Bottoms, followed}
use Rattle.psl_tree.specs.Satisfaction.{Sat}
use Rattle.psl_tree.specs.Trace.{Trace}
use Rattle.psl_tree.proofs.Values.{place-one, suffix-one}
use Rattle.psl_tree.specs.Trees.{Formula, And, Next}
use Rattle.psl_tree.specs.declared.letter.Letter.{Letter}
use Rattle.psl_tree.specs.declared.letter.Letter.TheVariants.{Top, Bottom}
use Rattle.alternating_theory.specs.Construction.{Part, and_part, next_part, with_letter}
use Rattle.alternating_theory.specs.Obligations.{Obligation, numbered, value_of}
use Rattle.alternating_theory.specs.Positive.{met}
use Rattle.alternating_theory.proofs.Values.{Right, EachRight, right-wider, each-wider, each-append, agree, in-front, in-back}
use Rattle.alternating_theory.proofs.Parts.{start_value, end_of, IsRight, IsPartOf, part-closed}

-- two parts beside one another

module _ (offset : ℕ) (a b : Part) (r : IsRight offset a) (s : IsRight (offset + length a.rest) b) where
  total : length (a.rest ++ b.rest) ≡ length a.rest + length b.rest
  total = length-append a.rest b.rest

  abbrev pub beside : ℕ → Obligation
  beside = numbered offset (a.rest ++ b.rest)

  abbrev pub beside-end : ℕ
  beside-end = offset + length (a.rest ++ b.rest)

  left-same : (q : ℕ) → offset ≤ q → q < end_of offset a → beside q ≡ numbered offset a.rest q
  left-same q l h = in-front offset a.rest b.rest q l h

  right-same : (q : ℕ) → offset + length a.rest ≤ q → q < end_of (offset + length a.rest) b → beside q ≡ numbered (offset + length a.rest) b.rest q
  right-same q l h = in-back offset a.rest b.rest q l

  pub left-right : (o : Obligation) → Right (numbered offset a.rest) offset (end_of offset a) o → Right beside offset beside-end o
  left-right o t = right-wider (numbered offset a.rest) beside offset (end_of offset a) offset beside-end (omega arith) (omega (arith, total)) left-same o t

  pub right-right : (o : Obligation) → Right (numbered (offset + length a.rest) b.rest) (offset + length a.rest) (end_of (offset + length a.rest) b) o → Right beside offset beside-end o
  right-right o t = right-wider (numbered (offset + length a.rest) b.rest) beside (offset + length a.rest) (end_of (offset + length a.rest) b) offset beside-end
      (omega arith) (omega (arith, total)) right-same o t

  pub both-right : EachRight beside offset beside-end (a.rest ++ b.rest)
  both-right = each-append beside offset beside-end a.rest b.rest
      (each-wider (numbered offset a.rest) beside offset (end_of offset a) offset beside-end (omega arith) (omega (arith, total)) left-same a.rest r.rest)
      (each-wider (numbered (offset + length a.rest) b.rest) beside (offset + length a.rest) (end_of (offset + length a.rest) b) offset beside-end
      (omega arith) (omega (arith, total)) right-same b.rest s.rest)

  pub left-value : (p : Past) (xs : List Letter) → value_of beside p a.start xs ≡ start_value offset a p xs
  left-value p xs = agree offset (end_of offset a) (numbered offset a.rest) beside (part-closed offset a r) left-same p a.start r.start.within xs

  pub right-value : (p : Past) (xs : List Letter) → value_of beside p b.start xs ≡ start_value (offset + length a.rest) b p xs
  right-value p xs = agree (offset + length a.rest) (end_of (offset + length a.rest) b) (numbered (offset + length a.rest) b.rest) beside
      (part-closed (offset + length a.rest) b s) right-same p b.start s.start.within xs

  and-right : IsRight offset (and_part a b)
  and-right =
      let t = left-right a.start r.start in let u = right-right b.start s.start in
      record {
        start = record {
          within = (t.within, u.within);
          at_top = ap (λ (k : Truth). k && met b.start.delta Top (λ q. (beside q).top)) t.at_top ∙ ap (λ (k : Truth). a.start.top && k) u.at_top;
          at_bottom = ap (λ (k : Truth). k && met b.start.delta Bottom (λ q. (beside q).bottom)) t.at_bottom ∙ ap (λ (k : Truth). a.start.bottom && k) u.at_bottom;
          order = λ h. let parts = and_parts a.start.bottom b.start.bottom h in and_from a.start.top b.start.top (t.order parts.0) (u.order parts.1);
        };
        rest = both-right;
      }

  and-split : (p : Past) (xs : List Letter) → start_value offset (and_part a b) p xs ≡ (value_of beside p a.start xs && value_of beside p b.start xs)
  and-split Nothing [] = refl
  and-split Tops [] = refl
  and-split Bottoms [] = refl
  and-split p (x ∷ xs) = refl

  and-value : (p : Past) (xs : List Letter) → start_value offset (and_part a b) p xs ≡ (start_value offset a p xs && start_value (offset + length a.rest) b p xs)
  and-value p xs = and-split p xs ∙ (let e = left-value p xs in let f = right-value p xs in cc)

pub and-is : (offset : ℕ) (a b : Part) (f g : Formula) → IsPartOf offset a f → IsPartOf (offset + length a.rest) b g → IsPartOf offset (and_part a b) (And f g)
and-is offset a b f g r s = record {
  right = and-right offset a b r.right s.right;
  means = λ p xs. (
    λ e. (let parts = and_parts (start_value offset a p xs) (start_value (offset + length a.rest) b p xs) (sym (and-value offset a b r.right s.right p xs) ∙ e) in
        ((r.means p xs).0 parts.0, (s.means p xs).0 parts.1)),
    λ h. and-value offset a b r.right s.right p xs
        ∙ and_from (start_value offset a p xs) (start_value (offset + length a.rest) b p xs) ((r.means p xs).1 h.0) ((s.means p xs).1 h.1),
  );
}

-- the next place

module _ (offset : ℕ) (a : Part) (r : IsRight offset a) where
  next-look : ℕ → Obligation
  next-look = numbered offset (next_part offset a).rest

  next-many : length (a.rest ++ with_letter a.start ∷ []) ≡ length a.rest + 1
  next-many = length-append a.rest (with_letter a.start ∷ [])

  next-same : (q : ℕ) → offset ≤ q → q < end_of offset a → numbered offset (next_part offset a).rest q ≡ numbered offset a.rest q
  next-same q l h = in-front offset a.rest (with_letter a.start ∷ []) q l h

  next-last : numbered offset (next_part offset a).rest (offset + length a.rest) ≡ with_letter a.start
  next-last = in-back offset a.rest (with_letter a.start ∷ []) (offset + length a.rest) (omega arith) ∙ first
    where
      first : numbered (offset + length a.rest) (with_letter a.start ∷ []) (offset + length a.rest) ≡ with_letter a.start
      first = let e : offset + length a.rest - (offset + length a.rest) ≡ 0 = omega arith in rw e refl

  next-start : Right (numbered offset (next_part offset a).rest) offset (end_of offset (next_part offset a)) a.start
  next-start = right-wider (numbered offset a.rest) (numbered offset (next_part offset a).rest) offset (end_of offset a) offset (end_of offset (next_part offset a))
      (omega arith) (omega (arith, next-many)) next-same a.start r.start

  next-right : IsRight offset (next_part offset a)
  next-right = record {
    start = record {
      within = (omega arith, omega (arith, next-many));
      at_top = ap (λ (o : Obligation). o.top) next-last;
      at_bottom = ap (λ (o : Obligation). o.bottom) next-last;
      order = r.start.order;
    };
    rest = each-append (numbered offset (next_part offset a).rest) offset (end_of offset (next_part offset a)) a.rest (with_letter a.start ∷ [])
        (each-wider (numbered offset a.rest) (numbered offset (next_part offset a).rest) offset (end_of offset a) offset (end_of offset (next_part offset a))
        (omega arith) (omega (arith, next-many)) next-same a.rest r.rest)
        (record { within = next-start.within; at_top = next-start.at_top; at_bottom = next-start.at_bottom; order = next-start.order }, tt);
  }

  with-value : (p : Past) (xs : List Letter) → value_of (numbered offset (next_part offset a).rest) p (with_letter a.start) xs
      ≡ (is_some (front xs p) && value_of (numbered offset (next_part offset a).rest) p a.start xs)
  with-value Nothing [] = refl
  with-value Tops [] = refl
  with-value Bottoms [] = refl
  with-value p (x ∷ xs) = refl

  next-value : (p : Past) (xs : List Letter) → start_value offset (next_part offset a) p xs ≡ (is_some (front (rest xs) p) && start_value offset a p (rest xs))
  next-value Nothing [] = refl
  next-value Tops [] = refl
  next-value Bottoms [] = refl
  next-value p (x ∷ xs) =
      ap (λ (o : Obligation). value_of (numbered offset (next_part offset a).rest) p o xs) next-last
      ∙ (with-value p xs
      ∙ ap (λ (t : Truth). is_some (front xs p) && t)
      (agree offset (end_of offset a) (numbered offset a.rest) (numbered offset (next_part offset a).rest) (part-closed offset a r) next-same p a.start r.start.within xs))

pub next-is : (offset : ℕ) (a : Part) (f : Formula) → IsPartOf offset a f → IsPartOf offset (next_part offset a) (Next f)
next-is offset a f r = record { right = next-right offset a r.right; means = λ p xs. (there p xs, back p xs) }
  where
    there : (p : Past) (xs : List Letter) → IsTrue (start_value offset (next_part offset a) p xs) → Sat (followed xs p) (Next f) None
    there p xs e =
        let parts = and_parts (is_some (front (rest xs) p)) (start_value offset a p (rest xs)) (sym (next-value offset a r.right p xs) ∙ e) in (
          subst (λ (o : Option Letter). IsTrue (is_some o)) (sym (place-one xs p)) parts.0,
          subst (λ (w : Trace). Sat w f None) (sym (suffix-one xs p)) ((r.means p (rest xs)).0 parts.1),
        )

    back : (p : Past) (xs : List Letter) → Sat (followed xs p) (Next f) None → IsTrue (start_value offset (next_part offset a) p xs)
    back p xs h = next-value offset a r.right p xs ∙ and_from (is_some (front (rest xs) p)) (start_value offset a p (rest xs))
        (subst (λ (o : Option Letter). IsTrue (is_some o)) (place-one xs p) h.0)
        ((r.means p (rest xs)).1 (subst (λ (w : Trace). Sat w f None) (suffix-one xs p) h.1))
