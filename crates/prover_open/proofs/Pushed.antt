-- A list with one member more at its end.
use Rattle.std.proofs.Common.{◌≡◌, ◌⊎◌, inl, inr, sym, ap, ◌∙◌, ℕ, ◌+◌, List, [], ◌∷◌, ◌++◌, length, get_or, Some, arith, length-append}
use Rattle.std.specs.Prelude.{slice_get}
use Rattle.std.proofs.lemmas.Bool.{cases_lt}
use Rattle.std.proofs.lemmas.List.{get_or_append_left, get_or-append-add}
use Rattle.std.proofs.lemmas.Option.{get_or_from_slice_get, slice_get-get_or, slice_get_within}

pub pushed : {X : Type 0} (members : List X) (last other : X) (place : ℕ) → slice_get (members ++ last ∷ []) place ≡ Some other
    → (slice_get members place ≡ Some other) ⊎ ((place ≡ length members) × (last ≡ other))
pushed members last other place is = elim (cases_lt place (length members)) [
  | inl early ↦ inl (slice_get-get_or members place other early ∙ ap Some (sym (get_or_append_left members (last ∷ []) other place early) ∙ got))
  | inr late ↦
      let low = slice_get_within (members ++ last ∷ []) place other is in
      let e : place ≡ length members + 0 = omega (arith, low, late, length-append members (last ∷ [])) in
      inr (omega arith, sym (ap (λ n. get_or (members ++ last ∷ []) n other) e ∙ get_or-append-add members (last ∷ []) 0 other) ∙ got)
]
  where
    got : get_or (members ++ last ∷ []) place other ≡ other
    got = get_or_from_slice_get (members ++ last ∷ []) place other other is
