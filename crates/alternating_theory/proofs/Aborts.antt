-- f async_abort b.
use Rattle.std.proofs.Common.{◌≡◌, inl, inr, refl, sym, ap, ◌∙◌, subst, ℕ, ◌+◌, ◌-◌, ◌≤◌, ◌<◌, Bool as Truth, true, false, List, [], ◌∷◌, ◌++◌, length, map, arith}
use Rattle.std.specs.Prelude.{◌↔◌, IsTrue, ◌||◌, None}
use Rattle.std.proofs.lemmas.Bool.{or_cases, or_left, or_right, both_ways}
use Rattle.std.proofs.lemmas.List.{length-append, length-map}
use Rattle.psl_tree.specs.Evaluated.{cuts}
use Rattle.psl_tree.specs.Followed.{Past, Nothing, Tops, Bottoms, followed}
use Rattle.psl_tree.specs.Satisfaction.{Sat}
use Rattle.psl_tree.specs.Trace.{holds_where}
use Rattle.psl_tree.proofs.Choice.{or-same}
use Rattle.psl_tree.proofs.Values.{cuts-means}
use Rattle.psl_tree.specs.Trees.{Boolean, Formula, Abort}
use Rattle.psl_tree.specs.declared.letter.Letter.{Letter}
use Rattle.psl_tree.specs.declared.letter.Letter.TheVariants.{Top, Bottom}
use Rattle.alternating_theory.specs.Construction.{Part, abort_part, cut_obligation}
use Rattle.alternating_theory.specs.Obligations.{Obligation, obligation_at, numbered, value_of}
use Rattle.alternating_theory.specs.Positive.{met}
use Rattle.alternating_theory.proofs.Values.{Right, EachRight, right-numbered, right-wider, each-wider, each-append, agree, in-front, in-back, in-map}
use Rattle.alternating_theory.proofs.Parts.{start_value, end_of, IsRight, IsPartOf, part-closed}
use Rattle.alternating_theory.proofs.Cutting.{cuts-of, from-cuts, or-self, copy-right, cut-copy, first-stop}

-- two tests of which each tells the other
pub same-test : (a b : Truth) → (IsTrue a → IsTrue b) → (IsTrue b → IsTrue a) → a ≡ b
same-test true b f g = sym (f refl)
same-test false true f g = absurd (both_ways false refl (g refl))
same-test false false f g = refl

or-false : (a : Truth) → a ≡ (a || false)
or-false true = refl
or-false false = refl

module _ (offset : ℕ) (test : Boolean) (a : Part) (r : IsRight offset a) where
  abbrev new : ℕ → ℕ
  new = λ number. number + length a.rest

  abbrev copy : Obligation → Obligation
  copy = λ obligation. cut_obligation (λ number. number + length a.rest) test obligation

  abbrev look : ℕ → Obligation
  look = numbered offset a.rest

  abbrev look' : ℕ → Obligation
  look' = numbered offset (a.rest ++ map copy a.rest)

  abbrev middle : ℕ
  middle = end_of offset a

  abbrev high : ℕ
  high = offset + length (a.rest ++ map copy a.rest)

  total : length (a.rest ++ map copy a.rest) ≡ length a.rest + length a.rest
  total = length-append a.rest (map copy a.rest) ∙ ap (λ n. length a.rest + n) (length-map a.rest copy)

  same : (q : ℕ) → offset ≤ q → q < middle → look' q ≡ look q
  same q l h = in-front offset a.rest (map copy a.rest) q l h

  rights : (q : ℕ) → offset ≤ q → q < middle → Right look offset middle (look q)
  rights q l h = right-numbered look offset middle a.rest r.rest q l h

  range : (q : ℕ) → offset ≤ q → q < middle → (middle ≤ new q) × (new q < high)
  range q l h = (omega arith, omega (arith, total))

  copied : (q : ℕ) → offset ≤ q → q < middle → look' (new q) ≡ copy (look q)
  copied q l h =
      in-back offset a.rest (map copy a.rest) (q + length a.rest) (omega arith)
      ∙ in-map copy middle a.rest (q + length a.rest) (omega arith) (omega arith)
      ∙ ap (λ n. copy (obligation_at a.rest n)) (moved q)
    where
      moved : (q : ℕ) → q + length a.rest - (offset + length a.rest) ≡ q - offset
      moved q = omega arith

  origin : (q : ℕ) → middle ≤ q → q < high → (j : ℕ) × (offset ≤ j) × (j < middle) × (q ≡ new j)
  origin q l h = (q - length a.rest, omega arith, omega (arith, total), omega arith)

  wide : (o : Obligation) → Right look offset middle o → Right look' offset high o
  wide o t = right-wider look look' offset middle offset high (omega arith) (omega (arith, total)) same o t

  copy-wide : (o : Obligation) → Right look offset middle o → Right look' offset high (copy o)
  copy-wide o t = right-wider look' look' middle high offset high (omega arith) (omega arith) (λ q l h. refl) (copy o)
      (copy-right test new offset middle high look look' rights range copied origin o t)

  copies-wide : (os : List Obligation) → EachRight look offset middle os → EachRight look' offset high (map copy os)
  copies-wide [] t = tt
  copies-wide (o ∷ os) t = (copy-wide o t.0, copies-wide os t.1)

  abort-right : IsRight offset (abort_part test a)
  abort-right =
      let t = wide a.start r.start in let u = copy-wide a.start r.start in
      record {
        start = record {
          within = (t.within, u.within);
          at_top = ap (λ (k : Truth). k || met (copy a.start).delta Top (λ q. (look' q).top)) t.at_top ∙ ap (λ (k : Truth). a.start.top || k) u.at_top ∙ or-self a.start.top;
          at_bottom = ap (λ (k : Truth). k || met (copy a.start).delta Bottom (λ q. (look' q).bottom)) t.at_bottom ∙ ap (λ (k : Truth). a.start.bottom || k) u.at_bottom ∙ or-self a.start.bottom;
          order = r.start.order;
        };
        rest = each-append look' offset high a.rest (map copy a.rest)
            (each-wider look look' offset middle offset high (omega arith) (omega (arith, total)) same a.rest r.rest)
            (copies-wide a.rest r.rest);
      }

  original : (p : Past) (xs : List Letter) → value_of look' p a.start xs ≡ start_value offset a p xs
  original p xs = agree offset middle look look' (part-closed offset a r) same p a.start r.start.within xs

  abbrev cut-value : Past → List Letter → Truth
  cut-value p xs = cuts (λ at. holds_where at test) (λ before. start_value offset a Tops before) p xs

  there : (p : Past) (xs : List Letter) → IsTrue (start_value offset a p xs || value_of look' p (copy a.start) xs) → IsTrue (start_value offset a p xs || cut-value p xs)
  there p xs h = elim (or_cases (start_value offset a p xs) (value_of look' p (copy a.start) xs) h) [
    | inl k ↦ or_left (start_value offset a p xs) (cut-value p xs) k
    | inr k ↦ elim (first-stop test new offset middle high look look' rights range copied origin p xs) [
      | inl m ↦ or_left (start_value offset a p xs) (cut-value p xs) (m a.start r.start k)
      | inr s ↦ or_right (start_value offset a p xs) (cut-value p xs) (cuts-of test (λ before. start_value offset a Tops before) p xs s.0 s.1 (s.2 a.start r.start k))
    ]
  ]

  back : (p : Past) (xs : List Letter) → IsTrue (start_value offset a p xs || cut-value p xs) → IsTrue (start_value offset a p xs || value_of look' p (copy a.start) xs)
  back p xs h = elim (or_cases (start_value offset a p xs) (cut-value p xs) h) [
    | inl k ↦ or_left (start_value offset a p xs) (value_of look' p (copy a.start) xs) k
    | inr k ↦ or_right (start_value offset a p xs) (value_of look' p (copy a.start) xs)
        (let c = from-cuts test (λ before. start_value offset a Tops before) p xs k in
        cut-copy test new offset middle high look look' rights range copied origin p xs c.0 c.1 a.start r.start c.2)
  ]

  abort-value : (p : Past) (xs : List Letter) → start_value offset (abort_part test a) p xs ≡ (start_value offset a p xs || cut-value p xs)
  abort-value Nothing [] = or-false a.start.end
  abort-value Tops [] = sym (or-self a.start.top)
  abort-value Bottoms [] = or-false a.start.bottom
  abort-value p (x ∷ xs) =
      ap (λ (t : Truth). t || value_of look' p (copy a.start) (x ∷ xs)) (original p (x ∷ xs))
      ∙ same-test (start_value offset a p (x ∷ xs) || value_of look' p (copy a.start) (x ∷ xs)) (start_value offset a p (x ∷ xs) || cut-value p (x ∷ xs))
      (there p (x ∷ xs)) (back p (x ∷ xs))

pub abort-is : (offset : ℕ) (test : Boolean) (a : Part) (f : Formula) → IsPartOf offset a f → IsPartOf offset (abort_part test a) (Abort f test)
abort-is offset test a f r = record { right = abort-right offset test a r.right; means = λ p xs. means p xs }
  where
    cut-test : List Letter → Truth
    cut-test = λ before. start_value offset a Tops before

    means : (p : Past) (xs : List Letter) → IsTrue (start_value offset (abort_part test a) p xs) ↔ Sat (followed xs p) (Abort f test) None
    means p xs = subst (λ (t : Truth). IsTrue t ↔ Sat (followed xs p) (Abort f test) None) (sym (abort-value offset test a r.right p xs))
        (or-same (start_value offset a p xs) (cuts (λ at. holds_where at test) (λ before. start_value offset a Tops before) p xs) (r.means p xs)
        (cuts-means (λ at. holds_where at test) refl refl p (λ w. Sat w f None) (λ before. start_value offset a Tops before) (λ ys. r.means Tops ys) xs))
