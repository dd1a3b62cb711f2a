-- A text has one answer: all of its directives that are asked are within the limits, or one of them is the first that is not.
use Rattle.std.proofs.Common.{◌≡◌, inl, inr, sym, ap, ◌∙◌, subst, ℕ, ◌<◌, ◌≤◌, Bool, true, List, length, take, arith}
use Rattle.std.specs.Prelude.{slice_get}
use Rattle.std.proofs.lemmas.Bool.{cases_lt}
use Rattle.std.proofs.lemmas.List.{get_or-take, length-take-le}
use Rattle.std.proofs.lemmas.List.Elements.{All-get_or}
use Rattle.std.proofs.lemmas.Option.{slice_get_within, get_or_from_slice_get, same_Some}
use Rattle.netlist.specs.Design.{Design}
use Rattle.owed.specs.Owed.{is_asked, plain_owed}
use Rattle.psl_tree.specs.declared.directive.Directive.{Directive}
use Rattle.findings.specs.Sizes.{AreWithin, IsFirstRefused, IsRefused, IsWithin}
use Rattle.owed.proofs.Limiting.{not_sized, one_limit}
use Rattle.psl_tree.specs.declared.limit.Limit.{Limit}
use Rattle.psl_tree.specs.declared.limit.UnitFault.TheVariants.{TooLarge}

module _ (design : Design) (depth : ℕ) (covers : Bool) (unit : List Directive) where
  refused_not_within : (a : Directive) (number : ℕ) (limit : Limit) → is_asked covers a.kind ≡ true → IsWithin design depth covers unit a
      → IsRefused design depth unit a number limit → ⊥
  refused_not_within a number limit is w r = not_sized design depth (plain_owed unit a) limit (w is) r.1

  one_refusal : (a : Directive) (number other : ℕ) (limit next : Limit) → IsRefused design depth unit a number limit
      → IsRefused design depth unit a other next → TooLarge number limit ≡ TooLarge other next
  one_refusal a number other limit next r s =
      ap (λ (n : ℕ). TooLarge n limit) (r.0 ∙ sym s.0) ∙ ap (TooLarge other) (one_limit design depth (plain_owed unit a) limit next r.1 s.1)

  pub not_both : (number : ℕ) (limit : Limit) → AreWithin design depth covers unit → IsFirstRefused design depth covers unit number limit → ⊥
  not_both number limit all first =
      let within = slice_get_within unit first.place first.directive first.here in
      let here = get_or_from_slice_get unit first.place first.directive first.directive first.here in
      refused_not_within first.directive number limit first.is
      (subst (IsWithin design depth covers unit) here (All-get_or (IsWithin design depth covers unit) unit first.place first.directive within all)) first.refused

  -- no first refusal stands before another
  not_before : (number other : ℕ) (limit next : Limit) (first : IsFirstRefused design depth covers unit number limit)
      (second : IsFirstRefused design depth covers unit other next) → first.place < second.place → ⊥
  not_before number other limit next first second lt =
      let within = slice_get_within unit second.place second.directive second.here in
      let le : second.place ≤ length unit = omega arith in
      let inside : first.place < length (take second.place unit) = omega (arith, length-take-le second.place unit le) in
      let here = get_or_from_slice_get unit first.place first.directive first.directive first.here in
      let same = get_or-take second.place unit first.place first.directive lt ∙ here in
      refused_not_within first.directive number limit first.is
      (subst (IsWithin design depth covers unit) same (All-get_or (IsWithin design depth covers unit) (take second.place unit) first.place first.directive inside second.before))
      first.refused

  pub one_fault : (number other : ℕ) (limit next : Limit) → IsFirstRefused design depth covers unit number limit
      → IsFirstRefused design depth covers unit other next → TooLarge number limit ≡ TooLarge other next
  one_fault number other limit next r s = elim (cases_lt r.place s.place) as (λ _. TooLarge number limit ≡ TooLarge other next) [
    | inl lt ↦ absurd (not_before number other limit next r s lt)
    | inr le ↦ elim (cases_lt s.place r.place) as (λ _. TooLarge number limit ≡ TooLarge other next) [
      | inl lt ↦ absurd (not_before other number next limit s r lt)
      | inr ge ↦ (let places : r.place ≡ s.place = omega arith in
          let same : r.directive ≡ s.directive = same_Some r.directive s.directive (sym r.here ∙ (ap (slice_get unit) places ∙ s.here)) in
          one_refusal s.directive number other limit next (subst (λ (a : Directive). IsRefused design depth unit a number limit) same r.refused) s.refused)
    ]
  ]
