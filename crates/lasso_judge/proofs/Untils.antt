-- Sweeps of a table that grows to the places from which a walk leads over places of one table to one of
-- another.
use Rattle.std.proofs.Common.{◌≡◌, ◌⊎◌, inl, inr, refl, sym, ap, ◌∙◌, subst, ℕ, zero, suc, ◌+◌, ◌-◌, ◌≤◌, ◌<◌, Bool as Truth, true, false, List, [], ◌∷◌, length, get_or, set, arith}
use Rattle.std.specs.Prelude.{◌&&◌, ◌||◌, not, slice_index, slice_set, if◌then◌else◌, IsTrue}
use Rattle.std.proofs.lemmas.Bool.{cases_eq, cases_Bool, both_ways, and_parts}
use Rattle.std.proofs.lemmas.List.{get_or-set_same, get_or-set_other}
use Rattle.std.proofs.Math.ListN.{length-set}
use Rattle.alternating_theory.proofs.Reaching.{reaches-here, reaches-later, reaches-least}
use Rattle.lasso_tables.specs.Tables.{value_at}
use Rattle.lasso_judge.specs.Untils.{WalksTo, IsReached, unset, Grown, GrowsTo}

unset-set : (values : List Truth) (n : ℕ) → n < length values → get_or values n false ≡ false → unset (set values n true) + 1 ≤ unset values
unset-set [] n h e = absurd (omega arith)
unset-set (true ∷ values) zero h e = absurd (both_ways false refl (sym e))
unset-set (false ∷ values) zero h e = omega arith
unset-set (true ∷ values) (suc n) h e = unset-set values n (omega arith) e
unset-set (false ∷ values) (suc n) h e = let less = unset-set values n (omega arith) e in omega (arith, less)

value-below : (values : List Truth) (p : ℕ) → IsTrue (value_at values p) → p < length values
value-below [] p h = absurd (both_ways false refl h)
value-below (v ∷ values) zero h = omega arith
value-below (v ∷ values) (suc p) h = let below = value-below values p h in omega (arith, below)

set-already : (a b c : Truth) → a && (not b && c) ≡ false → IsTrue a → IsTrue c → IsTrue b
set-already a true c e p q = refl
set-already true false true e p q = absurd (both_ways true e refl)
set-already true false false e p q = absurd (both_ways false refl q)
set-already false false c e p q = absurd (both_ways false refl p)

module _ (left : List Truth) (next : List ℕ) where
  abbrev to : ℕ → ℕ
  to q = slice_index next q

  -- nothing happened yet
  pub grown-begins : (from : ℕ) (values : List Truth) (more : Truth) → (more ≡ true) ⊎ (length next ≤ from) → Grown from left next values values more
  grown-begins from values more m = record {
    same_length = refl;
    stay = λ p h. h;
    sound = λ right s. s;
    closed = λ e p l k. elim m [ inl t ↦ absurd (both_ways more e t) | inr t ↦ absurd (omega arith) ];
  }

  -- a place is added, or it is one that the table has or need not have
  pub grow-step : (place : ℕ) (first old new : List Truth) (more grew : Truth) → length first ≡ length next → place < length next
      → GrowsTo (suc place) left next first old more
      → grew ≡ value_at left place && (not (value_at old place) && value_at old (to place))
      → new ≡ (if grew then slice_set old place true else old)
      → GrowsTo place left next first new (grew || more)
  grow-step place first old new more true len here s e made =
      let parts = and_parts (value_at left place) (not (value_at old place) && value_at old (to place)) (sym e) in
      let rest = and_parts (not (value_at old place)) (value_at old (to place)) parts.1 in
      subst (λ (values : List Truth). GrowsTo place left next first values true) (sym made) (record {
        grown = record {
          same_length = length-set old place true ∙ s.grown.same_length;
          stay = λ p h. stays p (s.grown.stay p h);
          sound = λ right r p l h. elim (cases_eq p place) as (λ _. WalksTo left right next p) [
            | inl same ↦ subst (λ (q : ℕ). WalksTo left right next q) (sym same)
                (reaches-later to (λ q. IsTrue (value_at left q)) (λ q. IsTrue (value_at right q)) place parts.0
                (s.grown.sound right r (to place) (within (to place) rest.1) rest.1))
            | inr other ↦ s.grown.sound right r p l (sym (get_or-set_other old place p true false other) ∙ h)
          ];
          closed = λ f. absurd (both_ways true f refl);
        };
        fewer = let less = unset-set old place below (unset-value rest.0) in omega (arith, less, s.fewer);
      })
    where
      below : place < length old
      below = omega (arith, s.grown.same_length)

      unset-value : IsTrue (not (value_at old place)) → get_or old place false ≡ false
      unset-value h = elim (cases_Bool (get_or old place false)) as (λ _. get_or old place false ≡ false) [
        | inl t ↦ absurd (both_ways (not (value_at old place)) (ap (λ (v : Truth). not v) t) h)
        | inr f ↦ f
      ]

      stays : (p : ℕ) → IsTrue (value_at old p) → IsTrue (get_or (set old place true) p false)
      stays p h = elim (cases_eq p place) as (λ _. IsTrue (get_or (set old place true) p false)) [
        | inl same ↦ subst (λ (q : ℕ). IsTrue (get_or (set old place true) q false)) (sym same) (get_or-set_same old place true false below)
        | inr other ↦ get_or-set_other old place p true false other ∙ h
      ]

      within : (p : ℕ) → IsTrue (value_at old p) → p < length next
      within p h = let b = value-below old p h in omega (arith, b, s.grown.same_length)
  grow-step place first old new more false len here s e made =
      subst (λ (values : List Truth). GrowsTo place left next first values more) (sym made) (record {
        grown = record {
          same_length = s.grown.same_length;
          stay = s.grown.stay;
          sound = s.grown.sound;
          closed = λ f p l k a b. elim (cases_eq p place) as (λ _. IsTrue (value_at old p)) [
            | inl same ↦ subst (λ (q : ℕ). IsTrue (value_at old q)) (sym same)
                (set-already (value_at left place) (value_at old place) (value_at old (to place)) (sym e)
                (subst (λ (q : ℕ). IsTrue (value_at left q)) same a) (subst (λ (q : ℕ). IsTrue (value_at old (to q))) same b))
            | inr other ↦ s.grown.closed f p (omega arith) k a b
          ];
        };
        fewer = s.fewer;
      })

  -- the same from one place to the place before it, which was added, or was not
  pub grow-then : (place : ℕ) (first old new : List Truth) (more grew : Truth) → length first ≡ length next → 0 < place → place ≤ length next
      → GrowsTo place left next first old more
      → grew ≡ value_at left (place - 1) && (not (value_at old (place - 1)) && value_at old (to (place - 1)))
      → new ≡ (if grew then slice_set old (place - 1) true else old)
      → grew ≡ true → GrowsTo (place - 1) left next first new grew
  grow-then place first old new more grew len some here s e made is =
      let back : place ≡ suc (place - 1) = omega arith in
      subst (λ (t : Truth). GrowsTo (place - 1) left next first new t) (ap (λ (t : Truth). t || more) is ∙ sym is)
      (grow-step (place - 1) first old new more grew len (omega arith) (subst (λ (n : ℕ). GrowsTo n left next first old more) back s) e made)

  pub grow-else : (place : ℕ) (first old new : List Truth) (more grew : Truth) → length first ≡ length next → 0 < place → place ≤ length next
      → GrowsTo place left next first old more
      → grew ≡ value_at left (place - 1) && (not (value_at old (place - 1)) && value_at old (to (place - 1)))
      → new ≡ (if grew then slice_set old (place - 1) true else old)
      → grew ≡ false → GrowsTo (place - 1) left next first new more
  grow-else place first old new more grew len some here s e made is =
      let back : place ≡ suc (place - 1) = omega arith in
      subst (λ (t : Truth). GrowsTo (place - 1) left next first new t) (ap (λ (t : Truth). t || more) is)
      (grow-step (place - 1) first old new more grew len (omega arith) (subst (λ (n : ℕ). GrowsTo n left next first old more) back s) e made)

  -- once a sweep adds nothing, the table has all
  pub reached-ends : (right reached : List Truth) → length right ≡ length next → ((p : ℕ) → p < length next → slice_index next p < length next)
      → Grown 0 left next right reached false → IsReached left right next reached
  reached-ends right reached len within s = record {
    same_length = s.same_length ∙ len;
    sound = s.sound right (λ p l h. reaches-here to (λ q. IsTrue (value_at left q)) (λ q. IsTrue (value_at right q)) p h);
    whole = λ p l h. reaches-least to (λ q. IsTrue (value_at left q)) (λ q. IsTrue (value_at right q)) (length next) within (λ q. value_at reached q)
        (λ q k g. s.stay q g) (λ q k f g. s.closed refl q (omega arith) k f g) p l h;
  }

  -- one sweep more
  pub grown-more : (right middle new : List Truth) (before more : Truth) → Grown 0 left next right middle before → GrowsTo 0 left next middle new more → Grown 0 left next right new more
  grown-more right middle new before more s t = record {
    same_length = t.grown.same_length ∙ s.same_length;
    stay = λ p h. t.grown.stay p (s.stay p h);
    sound = λ r h. t.grown.sound r (s.sound r h);
    closed = t.grown.closed;
  }
