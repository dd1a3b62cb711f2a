-- When no place waits any more, the explained places and the kept ones are closed.
use Rattle.std.proofs.Common.{◌≡◌, ◌≢◌, ◌⊎◌, ℕ, ◌<◌, true, List, [], ◌∷◌, length, reverse, get_or, inl, inr, refl, ap, ◌∙◌}
use Rattle.std.specs.List.{AllPairs, Contains, filter}
use Rattle.std.specs.List.Sorted.{IsPermutation}
use Rattle.std.proofs.lemmas.List.{get_or_default}
use Rattle.std.proofs.lemmas.List.Elements.{All-contains, All-weaker}
use Rattle.std.proofs.lemmas.List.Kept.{AllPairs-filter}
use Rattle.std.proofs.lemmas.List.Sorted.{Contains-permutation, IsPermutation-reverse}
use Rattle.clauses.specs.Live.{Numbered}
use Rattle.cdcl_conflict_theory.specs.Trails.{Steps, IsTrail, size_of, literal_at}
use Rattle.cdcl_conflict_theory.specs.Closing.{IsCovered, IsStep, IsNamed as IsNamedBy, IsClosed}
use Rattle.cdcl_conflict_theory.proofs.Members.{contains-head, contains-filter, from_filter, all_members, pairs-reverse, pairs-sorted}
use Rattle.cdcl_conflict.specs.declared.standing.Standing.{Standing}
use Rattle.cdcl_conflict.specs.declared.standing.Standing.TheVariants.{Untouched, Waiting, Explained, Kept}
use Rattle.cdcl_conflict.specs.Standings.{standing_at, is_explained, is_kept, IsListed, IsReached, IsExplored, IsCollected}

-- The end of a search: no place waits, and what it found was collected.
pub record IsFinished (clauses : Numbered ℕ) (steps : Steps) (number : ℕ) (standings : List Standing) (reached literals hints : List ℕ) : Type 0 where
  pub trail : IsTrail clauses steps
  pub explored : IsExplored clauses steps number standings
  pub listed : IsListed (size_of steps) standings reached
  pub settled : (index : ℕ) → index < length reached → standing_at standings (get_or reached index 0) ≢ Waiting
  pub collected : IsCollected steps number standings reached literals hints

-- the places that are explained, as they rise, and those that are kept, as they fall
abbrev pub marks_of : List Standing → List ℕ → List ℕ
marks_of standings places = filter (λ place. is_explained (standing_at standings place)) places

abbrev pub kept_of : List Standing → List ℕ → List ℕ
kept_of standings places = filter (λ place. is_kept (standing_at standings place)) (reverse places)

explained_is : (standing : Standing) → is_explained standing ≡ true → standing ≡ Explained
explained_is Untouched e = cc
explained_is Waiting e = cc
explained_is Explained e = refl
explained_is Kept e = cc

kept_is : (standing : Standing) → is_kept standing ≡ true → standing ≡ Kept
kept_is Untouched e = cc
kept_is Waiting e = cc
kept_is Explained e = cc
kept_is Kept e = refl

-- what is touched and does not wait is explained or kept
explained_or_kept : (standing : Standing) → standing ≢ Untouched → standing ≢ Waiting → (standing ≡ Explained) ⊎ (standing ≡ Kept)
explained_or_kept Untouched touched settled = absurd (touched refl)
explained_or_kept Waiting touched settled = absurd (settled refl)
explained_or_kept Explained touched settled = inl refl
explained_or_kept Kept touched settled = inr refl

-- a place that was reached stands among the sorted ones
sorted_member : (size : ℕ) (standings : List Standing) (reached places : List ℕ) (place : ℕ) → IsListed size standings reached → IsPermutation reached places → standing_at standings place ≢ Untouched → Contains places place
sorted_member size standings reached places place listed permutation touched = Contains-permutation reached places place permutation (listed.touched place touched)

touched_within_size : (size : ℕ) (standings : List Standing) (reached : List ℕ) (place : ℕ) → IsListed size standings reached → standing_at standings place ≢ Untouched → place < size
touched_within_size size standings reached place listed touched = All-contains (λ p. p < size) reached place listed.within (listed.touched place touched)

not_waiting : (standings : List Standing) (reached : List ℕ) (place : ℕ) → Contains reached place → ((index : ℕ) → index < length reached → standing_at standings (get_or reached index 0) ≢ Waiting) → standing_at standings place ≢ Waiting
not_waiting standings reached place member settled waits =
    settled member.0 member.1 (ap (standing_at standings) (get_or_default reached member.0 0 place member.1 ∙ member.2) ∙ waits)

-- the members of the marks and of the kept places
mark_from : (size : ℕ) (standings : List Standing) (reached places : List ℕ) (place : ℕ) → IsListed size standings reached → IsPermutation reached places → standing_at standings place ≡ Explained → Contains (marks_of standings places) place
mark_from size standings reached places place listed permutation is =
    contains-filter (λ p. is_explained (standing_at standings p)) places place
    (sorted_member size standings reached places place listed permutation (λ none. cc)) (ap is_explained is)

mark_is : (standings : List Standing) (places : List ℕ) (place : ℕ) → Contains (marks_of standings places) place → standing_at standings place ≡ Explained
mark_is standings places place member = explained_is (standing_at standings place) (from_filter (λ p. is_explained (standing_at standings p)) places place member).1

pub kept_from : (size : ℕ) (standings : List Standing) (reached places : List ℕ) (place : ℕ) → IsListed size standings reached → IsPermutation reached places → standing_at standings place ≡ Kept → Contains (kept_of standings places) place
kept_from size standings reached places place listed permutation is =
    contains-filter (λ p. is_kept (standing_at standings p)) (reverse places) place
    (Contains-permutation places (reverse places) place (IsPermutation-reverse places) (sorted_member size standings reached places place listed permutation (λ none. cc))) (ap is_kept is)

pub kept_member : (standings : List Standing) (places : List ℕ) (place : ℕ) → Contains (kept_of standings places) place → standing_at standings place ≡ Kept
kept_member standings places place member = kept_is (standing_at standings place) (from_filter (λ p. is_kept (standing_at standings p)) (reverse places) place member).1

-- what was reached is covered
covered_from : (clauses : Numbered ℕ) (steps : Steps) (number : ℕ) (standings : List Standing) (reached literals hints : List ℕ) (end literal : ℕ) → (finished : IsFinished clauses steps number standings reached literals hints) →
    IsReached steps standings end literal → IsCovered steps (kept_of standings finished.collected.places) (marks_of standings finished.collected.places) end literal
covered_from clauses steps number standings reached literals hints end literal finished there =
    let places = finished.collected.places in
    let permutation = finished.collected.permutation in
    let listed = finished.listed in
    let settled = not_waiting standings reached there.0 (listed.touched there.0 there.3) finished.settled in (
      there.0,
      there.1,
      there.2,
      elim (explained_or_kept (standing_at standings there.0) there.3 settled) [
        | inl explained ↦ inr (mark_from (size_of steps) standings reached places there.0 listed permutation explained)
        | inr kept ↦ inl (kept_from (size_of steps) standings reached places there.0 listed permutation kept)
      ],
    )

rising_places : (clauses : Numbered ℕ) (steps : Steps) (number : ℕ) (standings : List Standing) (reached literals hints : List ℕ) → (finished : IsFinished clauses steps number standings reached literals hints) →
    AllPairs (λ p q. p < q) finished.collected.places
rising_places clauses steps number standings reached literals hints finished =
    pairs-sorted reached finished.collected.places finished.listed.once finished.collected.permutation finished.collected.rising

step_at : (clauses : Numbered ℕ) (steps : Steps) (number : ℕ) (standings : List Standing) (reached literals hints : List ℕ) → (finished : IsFinished clauses steps number standings reached literals hints) →
    (place : ℕ) → Contains (marks_of standings finished.collected.places) place →
    IsStep clauses steps (kept_of standings finished.collected.places) (marks_of standings finished.collected.places) place
step_at clauses steps number standings reached literals hints finished place member =
    let places = finished.collected.places in
    let is = mark_is standings places place member in
    let explained = finished.explored.explained place is in
    record {
      within = touched_within_size (size_of steps) standings reached place finished.listed (λ none. cc);
      clause = explained.clause;
      live = explained.live;
      own = explained.own;
      others = All-weaker
          (λ other. (other ≡ literal_at steps place) ⊎ IsReached steps standings place other)
          (λ other. (other ≡ literal_at steps place) ⊎ IsCovered steps (kept_of standings places) (marks_of standings places) place other)
          (λ other there. elim there [
            | inl own ↦ inl own
            | inr reached' ↦ inr (covered_from clauses steps number standings reached literals hints place other finished reached')
          ])
          explained.clause explained.others;
    }

named_at : (clauses : Numbered ℕ) (steps : Steps) (number : ℕ) (standings : List Standing) (reached literals hints : List ℕ) → (finished : IsFinished clauses steps number standings reached literals hints) →
    (place : ℕ) → Contains (kept_of standings finished.collected.places) place → IsNamedBy clauses steps number (marks_of standings finished.collected.places) place
named_at clauses steps number standings reached literals hints finished place member =
    let places = finished.collected.places in
    let is = kept_member standings places place member in
    let named = finished.explored.named place (λ none. cc) in (
      named.0,
      named.1,
      named.2,
      named.3,
      elim named.4 [
        | inl conflict ↦ inl conflict
        | inr reason ↦ inr (reason.0, mark_from (size_of steps) standings reached places reason.0 finished.listed finished.collected.permutation reason.1, reason.2)
      ],
    )

pub finished-closed : (clauses : Numbered ℕ) (steps : Steps) (number : ℕ) (standings : List Standing) (reached literals hints : List ℕ) → (finished : IsFinished clauses steps number standings reached literals hints) →
    IsClosed clauses steps number (kept_of standings finished.collected.places) (marks_of standings finished.collected.places)
finished-closed clauses steps number standings reached literals hints finished =
    let explored = finished.explored in
    let places = finished.collected.places in
    let marks = marks_of standings places in
    let kept = kept_of standings places in
    record {
      within = all_members (λ p. p < size_of steps) kept (λ place member.
          let is = kept_member standings places place member in
          touched_within_size (size_of steps) standings reached place finished.listed (λ none. cc));
      falling = AllPairs-filter (λ p q. q < p) (λ p. is_kept (standing_at standings p)) (reverse places)
          (pairs-reverse places (rising_places clauses steps number standings reached literals hints finished));
      rising = AllPairs-filter (λ p q. p < q) (λ p. is_explained (standing_at standings p)) places (rising_places clauses steps number standings reached literals hints finished);
      each = all_members (IsStep clauses steps kept marks) marks (step_at clauses steps number standings reached literals hints finished);
      named = all_members (IsNamedBy clauses steps number marks) kept (named_at clauses steps number standings reached literals hints finished);
      clause = explored.clause;
      live = explored.live;
      covered = All-weaker (IsReached steps standings (size_of steps)) (IsCovered steps kept marks (size_of steps))
          (λ literal there. covered_from clauses steps number standings reached literals hints (size_of steps) literal finished there) explored.clause explored.conflict;
    }

no_members : (places : List ℕ) → ((place : ℕ) → Contains places place → ⊥) → places ≡ []
no_members [] none = refl
no_members (place ∷ places) none = absurd (none place (contains-head place places))

-- where no place is kept the list is empty
pub kept_none : (standings : List Standing) (places : List ℕ) → ((place : ℕ) → standing_at standings place ≢ Kept) → kept_of standings places ≡ []
kept_none standings places none = no_members (kept_of standings places) (λ place member. none place (kept_member standings places place member))
