-- A unit has one answer: all of its directives can be judged, or one of them is the first that cannot.
use Rattle.std.proofs.Common.{ℕ, ◌≡◌, ◌⊎◌, inl, inr, refl, sym, ap, ◌∙◌, subst, suc, ◌<◌, ◌≤◌, List, [], ◌∷◌, length, take, arith}
use Rattle.std.specs.Prelude.{All, slice_get}
use Rattle.std.proofs.lemmas.Bool.{cases_lt}
use Rattle.std.proofs.lemmas.List.{get_or-take, length-take-le}
use Rattle.std.proofs.lemmas.List.Elements.{All-nil, All-cons, All-get_or}
use Rattle.std.proofs.lemmas.Option.{slice_get_within, get_or_from_slice_get, same_Some}
use Rattle.alternating.specs.Limits.{HasLargeSequence}
use Rattle.psl_tree.specs.declared.counts.TheConstants.{MOST_OBLIGATIONS, MOST_STATES}
use Rattle.psl_tree.specs.Counts.{states_of, obligations_of}
use Rattle.psl_tree.specs.Trees.{Sequence, Formula, Now, NowStrong, Weak, Strong, Not, And, Next, Until, Suffix, Abort, SyncAbort, Clocked}
use Rattle.psl_tree.specs.declared.directive.Directive.{Directive}
use Rattle.wave_judge.specs.Faults.{unclocked, IsJudgeable, IsRefused, IsFirstRefused}
use Rattle.alternating.specs.Limits.{PassesFirst}
use Rattle.psl_tree.specs.declared.limit.Limit.{Limit}
use Rattle.psl_tree.specs.declared.limit.UnitFault.TheVariants.{TooLarge}
use Rattle.psl_tree.specs.declared.limit.Limit.TheVariants.{Sere, Automaton, Unroll, Formula as OfFormula}

-- a fact that is decided
abbrev Decided : Type 0 → Type 0
Decided A = A ⊎ (A → ⊥)

either : {A B : Type 0} → Decided A → Decided B → Decided (A ⊎ B)
either {A} {B} a b = elim a as (λ _. Decided (A ⊎ B)) [
  | inl x ↦ inl (inl x)
  | inr not_a ↦ elim b as (λ _. Decided (A ⊎ B)) [
    | inl y ↦ inl (inr y)
    | inr not_b ↦ inr (λ s. elim s as (λ _. ⊥) [ inl x ↦ not_a x | inr y ↦ not_b y ])
  ]
]

large-sequence : (s : Sequence) → Decided (MOST_STATES < states_of s)
large-sequence s = elim (cases_lt MOST_STATES (states_of s)) as (λ _. Decided (MOST_STATES < states_of s)) [
  | inl lt ↦ inl lt
  | inr le ↦ inr (λ lt. omega arith)
]

large : (f : Formula) → Decided (HasLargeSequence f)
large (Now _) = inr (λ h. h)
large (NowStrong _) = inr (λ h. h)
large (Weak s) = large-sequence s
large (Strong s) = large-sequence s
large (Not f) = large f
large (And f g) = either (large f) (large g)
large (Next f) = large f
large (Until f g) = either (large f) (large g)
large (Suffix s f) = either (large-sequence s) (large f)
large (Abort f _) = large f
large (SyncAbort f _) = large f
large (Clocked f _) = large f

-- a directive can be judged, or passes some limit first
abbrev Refusal : Directive → Type 0
Refusal d = (number : ℕ) × (limit : Limit) × IsRefused d number limit

abbrev FirstRefusal : List Directive → Type 0
FirstRefusal unit = (number : ℕ) × (limit : Limit) × IsFirstRefused unit number limit

judged_or_refused : (d : Directive) → IsJudgeable d ⊎ Refusal d
judged_or_refused d = elim (large (unclocked d)) as (λ _. IsJudgeable d ⊎ Refusal d) [
  | inl is ↦ inr (d.number, Sere, (refl, is))
  | inr small ↦ elim (cases_lt MOST_OBLIGATIONS (obligations_of (unclocked d))) as (λ _. IsJudgeable d ⊎ Refusal d) [
    | inl lt ↦ inr (d.number, Automaton, (refl, (small, lt)))
    | inr le ↦ inl (record { sequences = small; obligations = le })
  ]
]

not_first : (formula : Formula) (limit : Limit) → (HasLargeSequence formula → ⊥) → obligations_of formula ≤ MOST_OBLIGATIONS → PassesFirst formula limit → ⊥
not_first formula Sere small le is = small is
not_first formula Automaton small le is = let lt = is.1 in omega arith
not_first formula Unroll small le is = is
not_first formula OfFormula small le is = is

pub refused_not_judged : (d : Directive) (number : ℕ) (limit : Limit) → IsJudgeable d → IsRefused d number limit → ⊥
refused_not_judged d number limit j r = not_first (unclocked d) limit j.sequences j.obligations r.1

one_limit : (formula : Formula) (f g : Limit) → PassesFirst formula f → PassesFirst formula g → f ≡ g
one_limit formula Sere Sere r s = refl
one_limit formula Sere Automaton r s = absurd (s.0 r)
one_limit formula Sere Unroll r s = absurd s
one_limit formula Sere OfFormula r s = absurd s
one_limit formula Automaton Sere r s = absurd (r.0 s)
one_limit formula Automaton Automaton r s = refl
one_limit formula Automaton Unroll r s = absurd s
one_limit formula Automaton OfFormula r s = absurd s
one_limit formula Unroll g r s = absurd r
one_limit formula OfFormula g r s = absurd r

one_refusal : (d : Directive) (number other : ℕ) (limit next : Limit) → IsRefused d number limit → IsRefused d other next
    → TooLarge number limit ≡ TooLarge other next
one_refusal d number other limit next r s =
    ap (λ (n : ℕ). TooLarge n limit) (r.0 ∙ sym s.0) ∙ ap (TooLarge other) (one_limit (unclocked d) limit next r.1 s.1)

pub some_answer : (unit : List Directive) → All IsJudgeable unit ⊎ FirstRefusal unit
some_answer [] = inl (All-nil IsJudgeable)
some_answer (d ∷ ds) = elim (judged_or_refused d) as (λ _. All IsJudgeable (d ∷ ds) ⊎ FirstRefusal (d ∷ ds)) [
  | inr r ↦ inr (r.0, r.1, record { place = 0; directive = d; here = refl; before = All-nil IsJudgeable; refused = r.2 })
  | inl j ↦ elim (some_answer ds) as (λ _. All IsJudgeable (d ∷ ds) ⊎ FirstRefusal (d ∷ ds)) [
    | inl js ↦ inl (All-cons IsJudgeable d ds j js)
    | inr r ↦ inr (
      r.0,
      r.1,
      record {
        place = suc r.2.place;
        directive = r.2.directive;
        here = r.2.here;
        before = All-cons IsJudgeable d (take r.2.place ds) j r.2.before;
        refused = r.2.refused;
      },
    )
  ]
]

pub not_both : (unit : List Directive) (number : ℕ) (limit : Limit) → All IsJudgeable unit → IsFirstRefused unit number limit → ⊥
not_both unit number limit all first =
    let within = slice_get_within unit first.place first.directive first.here in
    let here = get_or_from_slice_get unit first.place first.directive first.directive first.here in
    refused_not_judged first.directive number limit
    (subst IsJudgeable here (All-get_or IsJudgeable unit first.place first.directive within all)) first.refused

-- no first refusal stands before another
not_before : (unit : List Directive) (number other : ℕ) (limit next : Limit) (first : IsFirstRefused unit number limit)
    (second : IsFirstRefused unit other next) → first.place < second.place → ⊥
not_before unit number other limit next first second lt =
    let within = slice_get_within unit second.place second.directive second.here in
    let le : second.place ≤ length unit = omega arith in
    let inside : first.place < length (take second.place unit) = omega (arith, length-take-le second.place unit le) in
    let here = get_or_from_slice_get unit first.place first.directive first.directive first.here in
    let same = get_or-take second.place unit first.place first.directive lt ∙ here in
    refused_not_judged first.directive number limit
    (subst IsJudgeable same (All-get_or IsJudgeable (take second.place unit) first.place first.directive inside second.before)) first.refused

pub one_fault : (unit : List Directive) (number other : ℕ) (limit next : Limit) → IsFirstRefused unit number limit → IsFirstRefused unit other next
    → TooLarge number limit ≡ TooLarge other next
one_fault unit number other limit next r s = elim (cases_lt r.place s.place) as (λ _. TooLarge number limit ≡ TooLarge other next) [
  | inl lt ↦ absurd (not_before unit number other limit next r s lt)
  | inr le ↦ elim (cases_lt s.place r.place) as (λ _. TooLarge number limit ≡ TooLarge other next) [
    | inl lt ↦ absurd (not_before unit other number next limit s r lt)
    | inr ge ↦ (let places : r.place ≡ s.place = omega arith in
        let same : r.directive ≡ s.directive = same_Some r.directive s.directive (sym r.here ∙ (ap (slice_get unit) places ∙ s.here)) in
        one_refusal s.directive number other limit next (subst (λ (d : Directive). IsRefused d number limit) same r.refused) s.refused)
  ]
]
