-- Tables and lists of next places that grow by one value.
use Rattle.std.proofs.Common.{◌≡◌, inl, inr, refl, ◌∙◌, subst, ℕ, ◌+◌, ◌<◌, Bool as Truth, false, List, [], ◌∷◌, ◌++◌, length, get_or, arith}
use Rattle.std.proofs.lemmas.List.{length-append, get_or_append_left}
use Rattle.std.proofs.Math.Seq.{get_or-append_seam}
use Rattle.std.proofs.lemmas.Bool.{cases_lt}
use Rattle.lasso_tables.specs.Tables.{Has, Leads}

-- what is known below a number, and at it
pub below-more : (i : ℕ) (P : ℕ → Type 0) → ((p : ℕ) → p < i → P p) → P i → (p : ℕ) → p < i + 1 → P p
below-more i P h here p l = elim (cases_lt p i) as (λ _. P p) [
  | inl k ↦ h p k
  | inr k ↦ (let e : i ≡ p = omega arith in subst P e here)
]

pub has_none : (v : ℕ → Truth) → Has 0 v []
has_none v = record { same_length = refl; each = λ p l. absurd (omega arith) }

pub has_push : (i : ℕ) (v : ℕ → Truth) (values : List Truth) (b : Truth) → Has i v values → b ≡ v i → Has (i + 1) v (values ++ b ∷ [])
has_push i v values b h e = record {
  same_length = omega (arith, length-append values (b ∷ []), h.same_length);
  each = below-more i (λ p. get_or (values ++ b ∷ []) p false ≡ v p)
      (λ p l. let m : p < length values = omega (arith, h.same_length) in get_or_append_left values (b ∷ []) false p m ∙ h.each p l)
      (subst (λ (k : ℕ). get_or (values ++ b ∷ []) k false ≡ v i) h.same_length (get_or-append_seam values b [] false ∙ e));
}

pub leads_none : (v : ℕ → ℕ) → Leads 0 v []
leads_none v = record { same_length = refl; each = λ p l. absurd (omega arith) }

pub leads_push : (i : ℕ) (v : ℕ → ℕ) (numbers : List ℕ) (n : ℕ) → Leads i v numbers → n ≡ v i → Leads (i + 1) v (numbers ++ n ∷ [])
leads_push i v numbers n h e = record {
  same_length = omega (arith, length-append numbers (n ∷ []), h.same_length);
  each = below-more i (λ p. get_or (numbers ++ n ∷ []) p 0 ≡ v p)
      (λ p l. let m : p < length numbers = omega (arith, h.same_length) in get_or_append_left numbers (n ∷ []) 0 p m ∙ h.each p l)
      (subst (λ (k : ℕ). get_or (numbers ++ n ∷ []) k 0 ≡ v i) h.same_length (get_or-append_seam numbers n [] 0 ∙ e));
}
