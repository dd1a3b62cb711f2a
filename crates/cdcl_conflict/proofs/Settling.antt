-- The places of lower levels are settled one by one.
use Rattle.std.proofs.Common.{◌≡◌, ◌≢◌, ℕ, ◌+◌, ◌<◌, ◌≤◌, eqb, true, List, [], ◌∷◌, length, set, get_or, inl, inr, refl, sym, ap, ◌∙◌, subst, arith}
use Rattle.std.specs.List.{All, list_any}
use Rattle.std.proofs.lemmas.Bool.{cases_eq, or_cases, false≢true}
use Rattle.std.proofs.lemmas.Bool.Decides.{Decides-eqb}
use Rattle.std.proofs.lemmas.List.{get_or_append_left, append-nil}
use Rattle.std.proofs.lemmas.List.Elements.{All-head, All-tail}
use Rattle.std.proofs.lemmas.Map.Made.{IsDistinct-from_AllPairs}
use Rattle.std.proofs.lemmas.Map.Steps.{length-le_from_distinct_below}
use Rattle.clauses.specs.Live.{Numbered}
use Rattle.cdcl_conflict.specs.declared.standing.Standing.{Standing}
use Rattle.cdcl_conflict.specs.declared.standing.Standing.TheVariants.{Waiting, Kept}
use Rattle.cdcl_conflict_theory.specs.Trails.{Steps, size_of}
use Rattle.cdcl_conflict.specs.Standings.{standing_at, IsListed, IsExplaining, IsSettled, IsSettling}
use Rattle.cdcl_conflict.proofs.Counting.{touched_within, standing-same, standing-other}
use Rattle.cdcl_conflict.proofs.Exploring.{listed-set, explored-kept, waiting_touched}

-- the list is no longer than there are places
member_below : (size : ℕ) (places : List ℕ) → All (λ p. p < size) places → (place : ℕ) → list_any (eqb place) places ≡ true → place < size
member_below size [] within place some = absurd (false≢true some)
member_below size (first ∷ places) within place some =
    elim (or_cases (eqb place first) (list_any (eqb place) places) some) [
      | inl here ↦ subst (λ (p : ℕ). p < size) (sym ((Decides-eqb place first).0 here)) (All-head (λ p. p < size) first places within)
      | inr there ↦ member_below size places (All-tail (λ p. p < size) first places within) place there
    ]

pub listed_few : (size : ℕ) (standings : List Standing) (reached : List ℕ) → IsListed size standings reached → length reached ≤ size
listed_few size standings reached listed =
    length-le_from_distinct_below reached size (IsDistinct-from_AllPairs Decides-eqb reached listed.once) (member_below size reached listed.within)

-- before the first
pub settling_none : (clauses : Numbered ℕ) (steps : Steps) (old : List Standing) (reached : List ℕ) → IsListed (size_of steps) old reached → ((place : ℕ) → standing_at old place ≡ Waiting → place < steps.start) →
    IsSettling clauses steps 0 old old reached
settling_none clauses steps old reached listed lower = record {
  explored = λ number before. before;
  listed = listed;
  keeps = λ place kept. kept;
  kept = λ place kept. inl kept;
  lower = lower;
  settled = λ index before. absurd (omega arith);
}

-- one more
pub settling_more : (clauses : Numbered ℕ) (steps : Steps) (count place : ℕ) (old now : List Standing) (reached : List ℕ) (new : List Standing) (reached' : List ℕ) → count < length reached → get_or reached count 0 ≡ place →
    IsSettling clauses steps count old now reached → IsSettled clauses steps place now reached new reached' → IsSettling clauses steps (count + 1) old new reached'
settling_more clauses steps count place old now reached new reached' before is settling settled = record {
  explored = λ number first. settled.explored number (settling.explored number first);
  listed = settled.listed;
  keeps = λ other kept.
      let mid = settling.keeps other kept in
      settled.stays other (λ none. cc) (λ waits. cc) ∙ mid;
  kept = λ other kept.
      elim (settled.kept other kept) [
        | inl mid ↦ settling.kept other mid
        | inr here ↦ inr (omega (arith, here.0, here.2), let low = settling.lower place here.1 in omega (arith, here.0))
      ];
  lower = λ other waits.
      elim (settled.waits other waits) [
        | inl mid ↦ settling.lower other mid
        | inr below ↦ let low = settling.lower place below.0 in omega (arith, below.1)
      ];
  settled = λ index within.
      elim (cases_eq index count) [
        | inl last ↦
            let at : get_or reached' index 0 ≡ place = rw (settled.extends, last, get_or_append_left reached settled.more 0 count before) is in
            rw at settled.settled
        | inr other ↦
            let inside : index < length reached = omega arith in
            let at : get_or reached' index 0 ≡ get_or reached index 0 = rw (settled.extends, get_or_append_left reached settled.more 0 index inside) refl in
            let touched = settling.listed.only index 0 inside in
            let was = settling.settled index (omega arith) in
            rw at (λ waits. was (sym (settled.stays (get_or reached index 0) touched was) ∙ waits))
      ];
}

-- a place that does not wait is settled
pub settled_already : (clauses : Numbered ℕ) (steps : Steps) (place : ℕ) (old : List Standing) (reached : List ℕ) → IsListed (size_of steps) old reached → standing_at old place ≢ Waiting → IsSettled clauses steps place old reached old reached
settled_already clauses steps place old reached listed done = record {
  explored = λ number before. before;
  listed = listed;
  more = [];
  extends = sym (append-nil reached);
  settled = done;
  stays = λ other touched settled. refl;
  kept = λ other kept. inl kept;
  waits = λ other waits. inl waits;
}

-- one that is explained is
pub settled_explained : (clauses : Numbered ℕ) (steps : Steps) (place waiting : ℕ) (old : List Standing) (reached : List ℕ) (new : List Standing) (reached' : List ℕ) → standing_at old place ≡ Waiting →
    IsExplaining clauses steps place old reached new reached' waiting → IsSettled clauses steps place old reached new reached'
settled_explained clauses steps place waiting old reached new reached' waits explaining = record {
  explored = explaining.explored;
  listed = explaining.listed;
  more = explaining.more;
  extends = explaining.extends;
  settled = λ e. let n = explaining.now in cc;
  stays = λ other touched settled.
      elim (cases_eq other place) [
        | inl same ↦ absurd (settled (ap (standing_at old) same ∙ waits))
        | inr differs ↦ elim (explaining.others other differs) [ inl kept ↦ kept | inr changed ↦ absurd (touched changed.0) ]
      ];
  kept = λ other kept'.
      elim (cases_eq other place) [
        | inl same ↦ let e : standing_at new place ≡ Kept = ap (standing_at new) (sym same) ∙ kept' in let n = explaining.now in cc
        | inr differs ↦ elim (explaining.others other differs) [ inl kept ↦ inl (sym kept ∙ kept') | inr changed ↦ let e = changed.1 in cc ]
      ];
  waits = λ other waits'.
      elim (cases_eq other place) [
        | inl same ↦ let e : standing_at new place ≡ Waiting = ap (standing_at new) (sym same) ∙ waits' in let n = explaining.now in cc
        | inr differs ↦ elim (explaining.others other differs) [ inl kept ↦ inl (sym kept ∙ waits') | inr changed ↦ inr (waits, changed.2) ]
      ];
}

-- and one that is kept
pub settled_kept : (clauses : Numbered ℕ) (steps : Steps) (place : ℕ) (old : List Standing) (reached : List ℕ) → IsListed (size_of steps) old reached → standing_at old place ≡ Waiting → steps.fixed ≤ place →
    IsSettled clauses steps place old reached (set old place Kept) reached
settled_kept clauses steps place old reached listed waits above =
    let touched = waiting_touched old place waits in
    let within = touched_within old place touched in
    let here = standing-same old place Kept within in
    record {
      explored = λ number before. explored-kept clauses steps number old place waits before;
      listed = listed-set (size_of steps) old reached place Kept (λ e. cc) touched listed;
      more = [];
      extends = sym (append-nil reached);
      settled = λ e. cc;
      stays = λ other touched' settled.
          elim (cases_eq other place) [
            | inl same ↦ absurd (settled (ap (standing_at old) same ∙ waits))
            | inr differs ↦ standing-other old place other Kept differs
          ];
      kept = λ other kept.
          elim (cases_eq other place) [
            | inl same ↦ inr (same, waits, above)
            | inr differs ↦ inl (sym (standing-other old place other Kept differs) ∙ kept)
          ];
      waits = λ other waits'.
          elim (cases_eq other place) [
            | inl same ↦ let e : standing_at (set old place Kept) place ≡ Waiting = ap (standing_at (set old place Kept)) (sym same) ∙ waits' in cc
            | inr differs ↦ inl (sym (standing-other old place other Kept differs) ∙ waits')
          ];
    }
