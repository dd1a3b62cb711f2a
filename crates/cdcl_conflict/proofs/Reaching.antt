-- The literals of a clause are reached one by one.
use Rattle.std.proofs.Common.{◌≡◌, ◌≢◌, ◌⊎◌, ℕ, ◌+◌, ◌/◌, ◌<◌, ◌≤◌, leb, List, [], ◌∷◌, ◌++◌, length, set, get_or, inl, inr, refl, sym, ap, ◌∙◌, subst, arith, append_assoc}
use Rattle.std.specs.List.{Contains}
use Rattle.std.proofs.lemmas.Bool.{cases_eq}
use Rattle.std.proofs.lemmas.List.{append-nil}
use Rattle.std.proofs.lemmas.List.Elements.{All-push, All-weaker, Contains-push, Contains-append_left, Contains-get_or}
use Rattle.std.proofs.lemmas.List.Quantifiers.{all_pairs_push}
use Rattle.cdcl_conflict.specs.declared.standing.Standing.{Standing}
use Rattle.cdcl_conflict.specs.declared.standing.Standing.TheVariants.{Untouched, Waiting}
use Rattle.cdcl_trail.specs.Literals.{opposite}
use Rattle.cdcl_conflict_theory.specs.Trails.{Steps, KnowsPlaces, size_of, literal_at}
use Rattle.cdcl_conflict.specs.Standings.{standing_at, IsListed, ReachesPlace, IsReadable, IsReaching}
use Rattle.cdcl_conflict_theory.proofs.Literals.{variable-opposite}
use Rattle.cdcl_conflict.proofs.Counting.{standing-same, standing-other, waiting-more, at_most}

-- which place a literal that is read has
abbrev pub IsPlaceOf : Steps → ℕ → ℕ → ℕ → Type 0
IsPlaceOf steps end literal place =
    ((end < size_of steps) × (literal ≡ literal_at steps end) × (place ≡ end)) ⊎ ((place < end) × (literal ≡ opposite (literal_at steps place)))

pub readable_within : (steps : Steps) (places : List ℕ) (end literal : ℕ) → KnowsPlaces steps places → end ≤ size_of steps → IsReadable steps end literal → literal / 2 < length places
readable_within steps places end literal known order readable =
    elim readable [
      | inl own ↦ subst (λ (l : ℕ). l / 2 < length places) (sym own.1) (known end own.0).0
      | inr lower ↦ subst (λ (v : ℕ). v < length places) (sym (ap (λ l. l / 2) lower.2 ∙ variable-opposite (literal_at steps lower.0))) (known lower.0 (omega (arith, lower.1))).0
    ]

pub readable_place : (steps : Steps) (places : List ℕ) (end literal : ℕ) → KnowsPlaces steps places → end ≤ size_of steps → IsReadable steps end literal →
    IsPlaceOf steps end literal (get_or places (literal / 2) 0)
readable_place steps places end literal known order readable =
    elim readable [
      | inl own ↦ inl (own.0, own.1, ap (λ l. get_or places (l / 2) 0) own.1 ∙ (known end own.0).1)
      | inr lower ↦
          let same : get_or places (literal / 2) 0 ≡ lower.0 =
          ap (λ v. get_or places v 0) (ap (λ l. l / 2) lower.2 ∙ variable-opposite (literal_at steps lower.0)) ∙ (known lower.0 (omega (arith, lower.1))).1 in
          inr (omega (arith, same, lower.1), lower.2 ∙ ap (λ p. opposite (literal_at steps p)) (sym same))
    ]

-- before the first literal
pub reaching_none : (steps : Steps) (clause : List ℕ) (end : ℕ) (old : List Standing) (reached : List ℕ) → IsListed (size_of steps) old reached → IsReaching steps clause end 0 old reached old reached 0
reaching_none steps clause end old reached listed = record {
  changes = λ place. inl refl;
  read = λ place before. absurd (omega arith);
  listed = listed;
  more = [];
  extends = sym (append-nil reached);
  counted = omega arith;
  few = omega arith;
}

-- what was reached stays reached where a place waits
pub touched-set : (standings : List Standing) (place other : ℕ) (new : Standing) → new ≢ Untouched → place < length standings → standing_at standings other ≢ Untouched → standing_at (set standings place new) other ≢ Untouched
touched-set standings place other new some within touched =
    elim (cases_eq other place) [
      | inl same ↦ λ clear. some (sym (standing-same standings place new within) ∙ ap (standing_at (set standings place new)) (sym same) ∙ clear)
      | inr differs ↦ λ clear. touched (sym (standing-other standings place other new differs) ∙ clear)
    ]

waiting_some : Waiting ≢ Untouched
waiting_some same = cc

listed-push : (size : ℕ) (standings : List Standing) (reached : List ℕ) (place : ℕ) → place < size → place < length standings → standing_at standings place ≡ Untouched → IsListed size standings reached →
    IsListed size (set standings place Waiting) (reached ++ place ∷ [])
listed-push size standings reached place inside within clear listed = record {
  touched = λ other touched.
      elim (cases_eq other place) [
        | inl same ↦ subst (Contains (reached ++ place ∷ [])) (sym same) (Contains-push reached place)
        | inr differs ↦ Contains-append_left reached (place ∷ []) other (listed.touched other (λ none. touched (standing-other standings place other Waiting differs ∙ none)))
      ];
  only = All-push (λ p. standing_at (set standings place Waiting) p ≢ Untouched) reached place
      (All-weaker (λ p. standing_at standings p ≢ Untouched) (λ p. standing_at (set standings place Waiting) p ≢ Untouched)
      (λ p touched. touched-set standings place p Waiting waiting_some within touched) reached listed.only)
      (λ none. waiting_some (sym (standing-same standings place Waiting within) ∙ none));
  within = All-push (λ p. p < size) reached place listed.within inside;
  once = all_pairs_push (λ p other. p ≢ other) reached place listed.once
      (λ k d before same. listed.only k d before (ap (standing_at standings) same ∙ clear));
}

-- one literal more
pub reaching_more : (steps : Steps) (clause : List ℕ) (end count place fresh waiting : ℕ) (old : List Standing) (reached : List ℕ) (now : List Standing) (reached' : List ℕ) (new : List Standing) (reached'' : List ℕ) →
    end ≤ size_of steps → size_of steps ≤ length now → count < length clause → IsPlaceOf steps end (get_or clause count 0) place →
    IsReaching steps clause end count old reached now reached' waiting → ReachesPlace steps.start end place fresh now reached' new reached'' →
    IsReaching steps clause end (count + 1) old reached new reached'' (waiting + fresh)
reaching_more steps clause end count place fresh waiting old reached now reached' new reached'' order room before is so_far (inl stays) =
    let same : new ≡ now = stays.2 in
    let same_list : reached'' ≡ reached' = stays.3 in
    rw (same, same_list, stays.1) record {
      changes = so_far.changes;
      read = λ k below.
          elim (cases_eq k count) [
            | inl last ↦ rw last (elim is [
              | inl own ↦ inl (own.0, own.1)
              | inr lower ↦ elim stays.0 [
                | inl past ↦ absurd (omega (arith, lower.0))
                | inr touched ↦ inr (place, lower.0, lower.1, touched)
              ]
            ])
            | inr other ↦ so_far.read k (omega arith)
          ];
      listed = so_far.listed;
      more = so_far.more;
      extends = so_far.extends;
      counted = omega (arith, so_far.counted);
      few = omega (arith, so_far.few);
    }
reaching_more steps clause end count place fresh waiting old reached now reached' new reached'' order room before is so_far (inr waits) =
    let within : place < length now = omega (arith, waits.0) in
    rw (waits.3, waits.4, waits.2) record {
      changes = λ other.
          elim (cases_eq other place) [
            | inl same ↦ rw same (inr (
              elim (so_far.changes place) [
                | inl kept ↦ sym kept ∙ waits.1
                | inr changed ↦ absurd (waiting_some (sym changed.1 ∙ waits.1))
              ],
              standing-same now place Waiting within,
              waits.0,
              elim is [
                | inl own ↦ absurd (omega (arith, own.2, waits.0))
                | inr lower ↦ subst (Contains clause) lower.1 (Contains-get_or clause count 0 before)
              ],
            ))
            | inr differs ↦ rw (standing-other now place other Waiting differs) (so_far.changes other)
          ];
      read = λ k below.
          elim (cases_eq k count) [
            | inl last ↦ rw last (elim is [
              | inl own ↦ inl (own.0, own.1)
              | inr lower ↦ inr (place, lower.0, lower.1, λ none. waiting_some (sym (standing-same now place Waiting within) ∙ none))
            ])
            | inr other ↦ elim (so_far.read k (omega arith)) [
              | inl own ↦ inl own
              | inr lower ↦ inr (lower.0, lower.1, lower.2, touched-set now place lower.0 Waiting waiting_some within lower.3)
            ]
          ];
      listed = listed-push (size_of steps) now reached' place (omega (arith, waits.0)) within waits.1 so_far.listed;
      more = so_far.more ++ place ∷ [];
      extends = ap (λ l. l ++ place ∷ []) so_far.extends ∙ append_assoc reached so_far.more (place ∷ []);
      counted = omega (arith, so_far.counted, waiting-more now steps.start end place waits.0 within waits.1);
      few = omega (arith, so_far.few, at_most (leb steps.start place));
    }

pub fresh_few : (start end place fresh : ℕ) (old : List Standing) (reached : List ℕ) (new : List Standing) (reached' : List ℕ) → ReachesPlace start end place fresh old reached new reached' → fresh ≤ 1
fresh_few start end place fresh old reached new reached' (inl stays) = omega (arith, stays.1)
fresh_few start end place fresh old reached new reached' (inr waits) = omega (arith, waits.2, at_most (leb start place))
