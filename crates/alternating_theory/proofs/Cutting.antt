-- Copies of obligations that may be cut where a Boolean holds, and the first place where it does.
use Rattle.std.proofs.Common.{◌≡◌, ◌⊎◌, inl, inr, refl, sym, ap, ◌∙◌, subst, ℕ, ◌≤◌, ◌<◌, Bool as Truth, true, false, List, [], ◌∷◌}
use Rattle.std.specs.Prelude.{IsTrue, ◌&&◌, ◌||◌}
use Rattle.std.proofs.lemmas.Bool.{and_parts, and_from, or_cases, or_left, or_right, both_ways, cases_Bool}
use Rattle.psl_tree.specs.Evaluated.{cuts}
use Rattle.psl_tree.specs.Followed.{Past, Nothing, Tops, Bottoms, past_at}
use Rattle.psl_tree.specs.Trace.{holds_where}
use Rattle.psl_tree.specs.Holds.{holds}
use Rattle.psl_tree.specs.Trees.{Boolean}
use Rattle.psl_tree.specs.declared.letter.Letter.{Letter}
use Rattle.psl_tree.specs.declared.letter.Letter.TheVariants.{Top, Bottom}
use Rattle.alternating_theory.specs.Construction.{cut_obligation}
use Rattle.alternating_theory.specs.Obligations.{Obligation, value_past, value_of}
use Rattle.alternating_theory.specs.Positive.{met, renumbered}
use Rattle.alternating_theory.proofs.MetLaws.{met-same, met-more, met-renumbered, within-renumbered}
use Rattle.alternating_theory.proofs.Values.{Right, below-top}

-- the Boolean holds at some place, and these are the letters before it; past the word only Top holds it
abbrev pub StopsAt : Boolean → Past → List Letter → List Letter → Type 0
StopsAt test p [] before = IsTrue (holds_where (past_at p) test) × (before ≡ [])
StopsAt test p (x ∷ xs) [] = IsTrue (holds x test)
StopsAt test p (x ∷ xs) (y ∷ ys) = (x ≡ y) × StopsAt test p xs ys

pub cuts-of : (test : Boolean) (part : List Letter → Truth) (p : Past) (xs before : List Letter) → StopsAt test p xs before → IsTrue (part before)
    → IsTrue (cuts (λ at. holds_where at test) part p xs)
cuts-of test part p [] before s h = and_from (holds_where (past_at p) test) (part []) s.0 (subst (λ (l : List Letter). IsTrue (part l)) s.1 h)
cuts-of test part p (x ∷ xs) [] s h =
    or_left (holds x test && part []) (cuts (λ at. holds_where at test) (λ l. part (x ∷ l)) p xs) (and_from (holds x test) (part []) s h)
cuts-of test part p (x ∷ xs) (y ∷ ys) s h =
    or_right (holds x test && part []) (cuts (λ at. holds_where at test) (λ l. part (x ∷ l)) p xs)
    (cuts-of test (λ l. part (x ∷ l)) p xs ys s.1 (subst (λ (z : Letter). IsTrue (part (z ∷ ys))) (sym s.0) h))

abbrev pub Cut : Boolean → (List Letter → Truth) → Past → List Letter → Type 0
Cut test part p xs = (before : List Letter) × StopsAt test p xs before × IsTrue (part before)

pub from-cuts : (test : Boolean) (part : List Letter → Truth) (p : Past) (xs : List Letter) → IsTrue (cuts (λ at. holds_where at test) part p xs) → Cut test part p xs
from-cuts test part p [] h = let parts = and_parts (holds_where (past_at p) test) (part []) h in ([], (parts.0, refl), parts.1)
from-cuts test part p (x ∷ xs) h = elim (or_cases (holds x test && part []) (cuts (λ at. holds_where at test) (λ l. part (x ∷ l)) p xs) h) as (λ _. Cut test part p (x ∷ xs)) [
  | inl k ↦ let parts = and_parts (holds x test) (part []) k in ([], parts.0, parts.1)
  | inr k ↦ let c = from-cuts test (λ l. part (x ∷ l)) p xs k in (x ∷ c.0, (refl, c.1), c.2)
]

pub or-self : (a : Truth) → (a || a) ≡ a
or-self true = refl
or-self false = refl

-- obligations of the numbers from low on and below mid, and their copies from mid on and below high
module _ (test : Boolean) (new : ℕ → ℕ) (low mid high : ℕ) (look look' : ℕ → Obligation)
    (rights : (q : ℕ) → low ≤ q → q < mid → Right look low mid (look q))
    (range : (q : ℕ) → low ≤ q → q < mid → (mid ≤ new q) × (new q < high))
    (copied : (q : ℕ) → low ≤ q → q < mid → look' (new q) ≡ cut_obligation new test (look q))
    (origin : (q : ℕ) → mid ≤ q → q < high → (j : ℕ) × (low ≤ j) × (j < mid) × (q ≡ new j)) where
  copy-top : (o : Obligation) → Right look low mid o → met (renumbered new o.delta) Top (λ q. (look' q).top) ≡ o.top
  copy-top o r = met-renumbered new o.delta Top (λ q. (look' q).top)
      ∙ (met-same low mid o.delta r.within Top (λ q. (look' (new q)).top) (λ q. (look q).top) (λ q l h. ap (λ (k : Obligation). k.top) (copied q l h)) ∙ r.at_top)

  copy-bottom : (o : Obligation) → Right look low mid o → met (renumbered new o.delta) Bottom (λ q. (look' q).bottom) ≡ o.bottom
  copy-bottom o r = met-renumbered new o.delta Bottom (λ q. (look' q).bottom)
      ∙ (met-same low mid o.delta r.within Bottom (λ q. (look' (new q)).bottom) (λ q. (look q).bottom) (λ q l h. ap (λ (k : Obligation). k.bottom) (copied q l h)) ∙ r.at_bottom)

  pub copy-right : (o : Obligation) → Right look low mid o → Right look' mid high (cut_obligation new test o)
  copy-right o r = record {
    within = ((tt, tt), within-renumbered low mid mid high new range o.delta r.within);
    at_top = ap (λ (t : Truth). o.top || t) (copy-top o r) ∙ or-self o.top;
    at_bottom = copy-bottom o r;
    order = r.order;
  }

  copies-right : (q : ℕ) → mid ≤ q → q < high → Right look' mid high (look' q)
  copies-right q l h =
      let j = origin q l h in
      subst (λ (k : ℕ). Right look' mid high (look' k)) (sym j.3)
      (subst (λ (o : Obligation). Right look' mid high o) (sym (copied j.0 j.1 j.2)) (copy-right (look j.0) (rights j.0 j.1 j.2)))

  past-top : (p : Past) (o : Obligation) → (IsTrue o.bottom → IsTrue o.top) → IsTrue (value_past p (cut_obligation new test o)) → IsTrue o.top
  past-top Nothing o e h = absurd (both_ways false refl h)
  past-top Tops o e h = h
  past-top Bottoms o e h = e h

  copies-past : (p : Past) (q : ℕ) → mid ≤ q → q < high → IsTrue (value_past p (look' q)) → IsTrue (look' q).top
  copies-past p q l h =
      let j = origin q l h in
      let same : look' q ≡ cut_obligation new test (look j.0) = ap look' j.3 ∙ copied j.0 j.1 j.2 in
      subst (λ (o : Obligation). IsTrue (value_past p o) → IsTrue o.top) (sym same) (past-top p (look j.0) (rights j.0 j.1 j.2).order)

  -- a copy's value is at most its original's on Top for ever
  copy-below : (p : Past) (o : Obligation) → Right look low mid o → (xs : List Letter) → IsTrue (value_of look' p (cut_obligation new test o) xs) → IsTrue o.top
  copy-below p o r xs h = below-top mid high look' p copies-right (copies-past p) (cut_obligation new test o) (copy-right o r) (past-top p o r.order) xs h

  -- what the copy owes at the next place, told of the originals
  abbrev Ahead : Past → Obligation → Letter → List Letter → Truth
  Ahead p o x xs = met o.delta x (λ q. value_of look' p (look' (new q)) xs)

  -- where the letters before a stop, and then Top for ever, give the original's value, the copy has it
  pub cut-copy : (p : Past) (xs before : List Letter) → StopsAt test p xs before → (o : Obligation) → Right look low mid o
      → IsTrue (value_of look Tops o before) → IsTrue (value_of look' p (cut_obligation new test o) xs)
  cut-copy Nothing [] before s o r h = absurd (both_ways false refl s.0)
  cut-copy Tops [] before s o r h = subst (λ (l : List Letter). IsTrue (value_of look Tops o l)) s.1 h
  cut-copy Bottoms [] before s o r h = absurd (both_ways false refl s.0)
  cut-copy p (x ∷ xs) [] s o r h =
      or_left (holds x test && o.top) (met (renumbered new o.delta) x (λ q. value_of look' p (look' q) xs)) (and_from (holds x test) o.top s h)
  cut-copy p (x ∷ xs) (y ∷ ys) s o r h =
      or_right (holds x test && o.top) (met (renumbered new o.delta) x (λ q. value_of look' p (look' q) xs))
      (met-renumbered new o.delta x (λ q. value_of look' p (look' q) xs)
      ∙ met-more low mid o.delta r.within x (λ q. value_of look Tops (look q) ys) (λ q. value_of look' p (look' (new q)) xs)
      (λ q l k v. subst (λ (c : Obligation). IsTrue (value_of look' p c xs)) (sym (copied q l k)) (cut-copy p xs ys s.1 (look q) (rights q l k) v))
      (subst (λ (z : Letter). IsTrue (value_of look Tops o (z ∷ ys))) (sym s.0) h))

  abbrev Missed : Past → List Letter → Type 0
  Missed p xs = (o : Obligation) → Right look low mid o → IsTrue (value_of look' p (cut_obligation new test o) xs) → IsTrue (value_of look p o xs)

  abbrev Stopped : Past → List Letter → List Letter → Type 0
  Stopped p xs before = (o : Obligation) → Right look low mid o → IsTrue (value_of look' p (cut_obligation new test o) xs) → IsTrue (value_of look Tops o before)

  -- where the Boolean does not hold, a copy has what it owes at the next place
  goes-ahead : (p : Past) (x : Letter) (xs : List Letter) → holds x test ≡ false → (o : Obligation) → IsTrue (value_of look' p (cut_obligation new test o) (x ∷ xs)) → IsTrue (Ahead p o x xs)
  goes-ahead p x xs e o h = elim (or_cases (holds x test && o.top) (met (renumbered new o.delta) x (λ q. value_of look' p (look' q) xs)) h) [
    | inl k ↦ absurd (both_ways (holds x test) e (and_parts (holds x test) o.top k).0)
    | inr k ↦ sym (met-renumbered new o.delta x (λ q. value_of look' p (look' q) xs)) ∙ k
  ]

  ahead-more : (p : Past) (x : Letter) (xs : List Letter) (later : Obligation → Truth)
      → ((o : Obligation) → Right look low mid o → IsTrue (value_of look' p (cut_obligation new test o) xs) → IsTrue (later o))
      → (o : Obligation) → Right look low mid o → IsTrue (Ahead p o x xs) → IsTrue (met o.delta x (λ q. later (look q)))
  ahead-more p x xs later f o r h =
      met-more low mid o.delta r.within x (λ q. value_of look' p (look' (new q)) xs) (λ q. later (look q))
      (λ q l k v. f (look q) (rights q l k) (subst (λ (c : Obligation). IsTrue (value_of look' p c xs)) (copied q l k) v)) h

  -- up to the first stop a copy has at most what its original has; where nothing stops, on all letters
  pub first-stop : (p : Past) (xs : List Letter) → Missed p xs ⊎ ((before : List Letter) × StopsAt test p xs before × Stopped p xs before)
  first-stop Nothing [] = inl (λ o r h. absurd (both_ways false refl h))
  first-stop Tops [] = inl (λ o r h. h)
  first-stop Bottoms [] = inl (λ o r h. h)
  first-stop p (x ∷ xs) = elim (cases_Bool (holds x test)) as (λ _. Missed p (x ∷ xs) ⊎ ((before : List Letter) × StopsAt test p (x ∷ xs) before × Stopped p (x ∷ xs) before)) [
    | inl e ↦ inr ([], e, λ o r h. copy-below p o r (x ∷ xs) h)
    | inr e ↦ later e (first-stop p xs)
  ]
    where
      later : holds x test ≡ false → (Missed p xs ⊎ ((before : List Letter) × StopsAt test p xs before × Stopped p xs before))
          → Missed p (x ∷ xs) ⊎ ((before : List Letter) × StopsAt test p (x ∷ xs) before × Stopped p (x ∷ xs) before)
      later e (inl m) = inl (λ o r h. ahead-more p x xs (λ k. value_of look p k xs) m o r (goes-ahead p x xs e o h))
      later e (inr s) = inr (x ∷ s.0, (refl, s.1), λ o r h. ahead-more p x xs (λ k. value_of look Tops k s.0) s.2 o r (goes-ahead p x xs e o h))
