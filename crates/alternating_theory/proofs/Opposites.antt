-- The opposite of a part: not f.
use Rattle.std.proofs.Common.{◌≡◌, refl, sym, ap, ◌∙◌, subst, ℕ, ◌+◌, ◌≤◌, ◌<◌, Bool as Truth, true, false, List, [], ◌∷◌, length, map}
use Rattle.std.specs.Prelude.{IsTrue, not, None}
use Rattle.std.proofs.lemmas.Bool.{both_ways, not-true}
use Rattle.std.proofs.lemmas.List.{length-map}
use Rattle.psl_tree.specs.Followed.{Past, Nothing, Tops, Bottoms, dual_past, followed}
use Rattle.psl_tree.specs.Satisfaction.{Sat}
use Rattle.psl_tree.specs.Trace.{Trace, dual_letter}
use Rattle.psl_tree.proofs.Traces.{dual-followed}
use Rattle.psl_tree.proofs.Values.{fails}
use Rattle.psl_tree.specs.Trees.{Formula, Not}
use Rattle.psl_tree.specs.declared.letter.Letter.{Letter}
use Rattle.psl_tree.specs.declared.letter.Letter.TheVariants.{Top, Bottom}
use Rattle.alternating_theory.specs.Construction.{Part, opposite_obligation, not_part}
use Rattle.alternating_theory.specs.Obligations.{Obligation, numbered, value_past, value_of}
use Rattle.alternating_theory.specs.Positive.{OwesWithin}
use Rattle.alternating_theory.proofs.MetLaws.{met-same, met-opposite, within-opposite}
use Rattle.alternating_theory.proofs.Values.{Right, EachRight, IsClosed, in-map}
use Rattle.alternating_theory.proofs.Parts.{start_value, end_of, IsRight, IsPartOf, part-closed}

not-twice : (a : Truth) → not (not a) ≡ a
not-twice true = refl
not-twice false = refl

module _ (low high : ℕ) (look look' : ℕ → Obligation) (same : (q : ℕ) → low ≤ q → q < high → look' q ≡ opposite_obligation (look q)) where
  past-opposite : (p : Past) (o : Obligation) → value_past p (opposite_obligation o) ≡ not (value_past (dual_past p) o)
  past-opposite Nothing o = refl
  past-opposite Tops o = refl
  past-opposite Bottoms o = refl

  pub values-opposite : IsClosed low high look → (p : Past) (o : Obligation) → OwesWithin low high o.delta → (xs : List Letter)
      → value_of look' p (opposite_obligation o) xs ≡ not (value_of look (dual_past p) o (map dual_letter xs))
  values-opposite shut p o w [] = past-opposite p o
  values-opposite shut p o w (x ∷ xs) =
      met-opposite o.delta x (λ q. value_of look' p (look' q) xs)
      ∙ ap (λ (t : Truth). not t) (met-same low high o.delta w (dual_letter x)
      (λ q. not (value_of look' p (look' q) xs)) (λ q. value_of look (dual_past p) (look q) (map dual_letter xs))
      (λ q l h. ap (λ (k : Obligation). not (value_of look' p k xs)) (same q l h)
      ∙ ap (λ (t : Truth). not t) (values-opposite shut p (look q) (shut q l h) xs)
      ∙ not-twice (value_of look (dual_past p) (look q) (map dual_letter xs))))

  turned : (a b : Truth) → (IsTrue b → IsTrue a) → IsTrue (not a) → IsTrue (not b)
  turned a true f h = absurd (both_ways a (not-true a h) (f refl))
  turned a false f h = refl

  pub right-opposite : (o : Obligation) → Right look low high o → Right look' low high (opposite_obligation o)
  right-opposite o r = record {
    within = within-opposite low high o.delta r.within;
    at_top = met-opposite o.delta Top (λ q. (look' q).top)
        ∙ ap (λ (t : Truth). not t) (met-same low high o.delta r.within Bottom (λ q. not (look' q).top) (λ q. (look q).bottom)
        (λ q l h. ap (λ (k : Obligation). not k.top) (same q l h) ∙ not-twice (look q).bottom) ∙ r.at_bottom);
    at_bottom = met-opposite o.delta Bottom (λ q. (look' q).bottom)
        ∙ ap (λ (t : Truth). not t) (met-same low high o.delta r.within Top (λ q. not (look' q).bottom) (λ q. (look q).top)
        (λ q l h. ap (λ (k : Obligation). not k.bottom) (same q l h) ∙ not-twice (look q).top) ∙ r.at_top);
    order = turned o.top o.bottom r.order;
  }

  pub each-opposite : (os : List Obligation) → EachRight look low high os → EachRight look' low high (map opposite_obligation os)
  each-opposite [] r = tt
  each-opposite (o ∷ os) r = (right-opposite o r.0, each-opposite os r.1)

opposite-right : (offset : ℕ) (part : Part) → IsRight offset part → IsRight offset (not_part part)
opposite-right offset part r =
    let many : length (map opposite_obligation part.rest) ≡ length part.rest = length-map part.rest opposite_obligation in
    record {
      start = subst (λ (n : ℕ). Right look' offset (offset + n) (opposite_obligation part.start)) (sym many)
          (right-opposite offset (end_of offset part) look look' same part.start r.start);
      rest = subst (λ (n : ℕ). EachRight look' offset (offset + n) (map opposite_obligation part.rest)) (sym many)
          (each-opposite offset (end_of offset part) look look' same part.rest r.rest);
    }
  where
    look : ℕ → Obligation
    look = numbered offset part.rest

    look' : ℕ → Obligation
    look' = numbered offset (map opposite_obligation part.rest)

    same : (q : ℕ) → offset ≤ q → q < end_of offset part → look' q ≡ opposite_obligation (look q)
    same q l h = in-map opposite_obligation offset part.rest q l h

pub not-is : (offset : ℕ) (part : Part) (f : Formula) → IsPartOf offset part f → IsPartOf offset (not_part part) (Not f)
not-is offset part f r = record { right = opposite-right offset part r.right; means = λ p xs. (there p xs, back p xs) }
  where
    turned-value : Past → List Letter → Truth
    turned-value p xs = start_value offset part (dual_past p) (map dual_letter xs)

    same : (p : Past) (xs : List Letter) → start_value offset (not_part part) p xs ≡ not (turned-value p xs)
    same p xs = values-opposite offset (end_of offset part) (numbered offset part.rest) (numbered offset (map opposite_obligation part.rest))
        (λ q l h. in-map opposite_obligation offset part.rest q l h) (part-closed offset part r.right) p part.start r.right.start.within xs

    there : (p : Past) (xs : List Letter) → IsTrue (start_value offset (not_part part) p xs) → Sat (followed xs p) (Not f) None
    there p xs e h = both_ways (turned-value p xs) (not-true (turned-value p xs) (sym (same p xs) ∙ e))
        ((r.means (dual_past p) (map dual_letter xs)).1 (subst (λ (w : Trace). Sat w f None) (dual-followed xs p) h))

    back : (p : Past) (xs : List Letter) → Sat (followed xs p) (Not f) None → IsTrue (start_value offset (not_part part) p xs)
    back p xs n = same p xs ∙ fails (turned-value p xs)
        (λ e. n (subst (λ (w : Trace). Sat w f None) (sym (dual-followed xs p)) ((r.means (dual_past p) (map dual_letter xs)).0 e)))
