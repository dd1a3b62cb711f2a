-- A search from its beginning to its end.
use Rattle.std.proofs.Common.{◌∙◌, ap, ◌≡◌, ◌≢◌, ℕ, List, [], length, Some, inl, inr, arith}
use Rattle.clauses.specs.Live.{Numbered, clause_of}
use Rattle.cdcl_conflict.specs.declared.standing.Standing.{Standing}
use Rattle.cdcl_conflict.specs.declared.standing.Standing.TheVariants.{Kept}
use Rattle.cdcl_conflict_theory.specs.Trails.{Steps, IsTrail, HasEnded, size_of}
use Rattle.cdcl_conflict_theory.specs.Lemmas.{IsLearned, IsRefuted}
use Rattle.cdcl_conflict.specs.Standings.{standing_at, waiting_below, IsClear, IsReaching, IsTop, IsSwept, IsSettling, IsCollected}
use Rattle.cdcl_conflict.proofs.Counting.{waiting_untouched}
use Rattle.cdcl_conflict.proofs.Starting.{explored_first, some_waits}
use Rattle.cdcl_conflict.proofs.Closing.{IsFinished, marks_of, kept_of, kept_from, kept_member, kept_none, finished-closed}
use Rattle.cdcl_conflict_theory.specs.Closing.{lemma_of, IsKeeping}
use Rattle.cdcl_conflict_theory.proofs.Learning.{learned, refuted}
use Rattle.std.specs.List.Sorted.{IsPermutation}

-- the moments of a search
pub record IsSearch (clauses : Numbered ℕ) (steps : Steps) (number : ℕ) (clause : List ℕ) (waiting : ℕ) (first begun swept settled : List Standing) (reached1 reached3 literals hints : List ℕ) : Type 0 where
  pub trail : IsTrail clauses steps
  pub live : clause_of clauses number ≡ Some clause
  pub clear : IsClear first
  pub reaching : IsReaching steps clause (size_of steps) (length clause) first [] begun reached1 waiting
  pub sweep : (reached2 : List ℕ) × IsSwept clauses steps waiting begun swept reached2
  pub settling : IsSettling clauses steps (length reached3) swept settled reached3
  pub collected : IsCollected steps number settled reached3 literals hints

abbrev search_finished : (clauses : Numbered ℕ) (steps : Steps) (number : ℕ) (clause : List ℕ) (waiting : ℕ) (first begun swept settled : List Standing) (reached1 reached3 literals hints : List ℕ) →
    IsSearch clauses steps number clause waiting first begun swept settled reached1 reached3 literals hints → IsFinished clauses steps number settled reached3 literals hints
search_finished clauses steps number clause waiting first begun swept settled reached1 reached3 literals hints run = record {
  trail = run.trail;
  explored = run.settling.explored number (run.sweep.1.explored number (explored_first clauses steps number clause first [] begun reached1 waiting run.live run.clear run.reaching));
  listed = run.settling.listed;
  settled = run.settling.settled;
  collected = run.collected;
}

begun_counted : (clauses : Numbered ℕ) (steps : Steps) (number : ℕ) (clause : List ℕ) (waiting : ℕ) (first begun swept settled : List Standing) (reached1 reached3 literals hints : List ℕ) →
    IsSearch clauses steps number clause waiting first begun swept settled reached1 reached3 literals hints → waiting_below begun steps.start (size_of steps) ≡ waiting
begun_counted clauses steps number clause waiting first begun swept settled reached1 reached3 literals hints run =
    omega (arith, run.reaching.counted, waiting_untouched first steps.start (size_of steps) run.clear)

-- the place that was kept on the current level stays the only one there
keeping_from : (clauses : Numbered ℕ) (steps : Steps) (top : ℕ) (swept settled : List Standing) (reached3 places : List ℕ) → IsTop steps swept top → IsSettling clauses steps (length reached3) swept settled reached3 → IsPermutation reached3 places →
    IsKeeping steps (kept_of settled places) top
keeping_from clauses steps top swept settled reached3 places is settling permutation = record {
  current = is.current;
  member = kept_from (size_of steps) settled reached3 places top settling.listed permutation (settling.keeps top is.kept);
  others = λ place member.
      elim (settling.kept place (kept_member settled places place member)) [ inl before ↦ inl (is.only place before) | inr lower ↦ inr lower ];
}

pub search-learned : (clauses : Numbered ℕ) (steps : Steps) (number : ℕ) (clause : List ℕ) (waiting : ℕ) (first begun swept settled : List Standing) (reached1 reached3 literals hints : List ℕ) →
    IsSearch clauses steps number clause waiting first begun swept settled reached1 reached3 literals hints → HasEnded clauses steps → IsLearned clauses steps literals hints
search-learned clauses steps number clause waiting first begun swept settled reached1 reached3 literals hints run ended =
    let counted = begun_counted clauses steps number clause waiting first begun swept settled reached1 reached3 literals hints run in
    let some = some_waits clauses steps number clause first [] begun reached1 waiting run.trail ended run.live run.clear run.reaching in
    elim run.sweep.1.top [
      | inl none ↦ absurd (omega (arith, none.0))
      | inr top ↦
          let finished = search_finished clauses steps number clause waiting first begun swept settled reached1 reached3 literals hints run in
          let places = run.collected.places in
          rw (run.collected.literals_are, run.collected.hints_are)
          (learned clauses steps number (kept_of settled places) (marks_of settled places) top.0 run.trail ended
          (finished-closed clauses steps number settled reached3 literals hints finished)
          (keeping_from clauses steps top.0 swept settled reached3 places top.1 run.settling run.collected.permutation))
    ]

-- at level 0 no place is kept
none_kept : (clauses : Numbered ℕ) (steps : Steps) (number : ℕ) (clause : List ℕ) (waiting : ℕ) (first begun swept settled : List Standing) (reached1 reached3 literals hints : List ℕ) →
    IsSearch clauses steps number clause waiting first begun swept settled reached1 reached3 literals hints → steps.fixed ≡ size_of steps → (place : ℕ) → standing_at settled place ≢ Kept
none_kept clauses steps number clause waiting first begun swept settled reached1 reached3 literals hints run lowest place kept =
    elim (run.settling.kept place kept) [
      | inl before ↦ elim run.sweep.1.top [
        | inl none ↦ none.1 place before
        | inr top ↦ omega (arith, top.1.current, top.1.within, run.trail.order)
      ]
      | inr lower ↦ omega (arith, lower.0, lower.1, run.trail.within)
    ]

pub search-refuted : (clauses : Numbered ℕ) (steps : Steps) (number : ℕ) (clause : List ℕ) (waiting : ℕ) (first begun swept settled : List Standing) (reached1 reached3 literals hints : List ℕ) →
    IsSearch clauses steps number clause waiting first begun swept settled reached1 reached3 literals hints → steps.fixed ≡ size_of steps → IsRefuted clauses literals hints
search-refuted clauses steps number clause waiting first begun swept settled reached1 reached3 literals hints run lowest =
    let finished = search_finished clauses steps number clause waiting first begun swept settled reached1 reached3 literals hints run in
    let places = run.collected.places in
    let none = kept_none settled places (none_kept clauses steps number clause waiting first begun swept settled reached1 reached3 literals hints run lowest) in
    let closed = finished-closed clauses steps number settled reached3 literals hints finished in
    let empty : literals ≡ [] = run.collected.literals_are ∙ ap (lemma_of steps) none in
    rw (empty, run.collected.hints_are) (refuted clauses steps number (marks_of settled places) run.trail (rw none at closed))
