-- The sweep down the current level.
use Rattle.std.proofs.Common.{◌≡◌, ◌≢◌, ℕ, ◌+◌, ◌-◌, ◌<◌, ◌≤◌, List, set, inl, inr, sym, ◌∙◌, subst, arith}
use Rattle.std.proofs.lemmas.Bool.{cases_eq, cases_lt, cases_order}
use Rattle.clauses.specs.Live.{Numbered}
use Rattle.cdcl_conflict.specs.declared.standing.Standing.{Standing}
use Rattle.cdcl_conflict.specs.declared.standing.Standing.TheVariants.{Waiting, Kept}
use Rattle.cdcl_conflict_theory.specs.Trails.{Steps, size_of}
use Rattle.cdcl_conflict.specs.Standings.{standing_at, waiting_below, IsListed, IsExplored, IsExplaining, IsSweeping, IsSwept}
use Rattle.cdcl_conflict.proofs.Counting.{touched_within, standing-same, standing-other, waiting_none}
use Rattle.cdcl_conflict.proofs.Exploring.{listed-set, explored-kept, waiting_touched}

-- the highest place that waits, from the start on and below the end
pub record IsLast (standings : List Standing) (start end place : ℕ) : Type 0 where
  pub past : start ≤ place
  pub before : place < end
  pub waits : standing_at standings place ≡ Waiting
  pub last : (other : ℕ) → place < other → other < end → standing_at standings other ≢ Waiting
  pub one : waiting_below standings start place + 1 ≡ waiting_below standings start end

pub sweeping_more : (clauses : Numbered ℕ) (steps : Steps) (old : List Standing) (end waiting place fresh : ℕ) (reached : List ℕ) (new : List Standing) (reached' : List ℕ) →
    IsSweeping steps old end waiting → 1 < waiting → IsLast old steps.start end place → IsExplaining clauses steps place old reached new reached' fresh →
    IsSweeping steps new place (waiting - 1 + fresh)
sweeping_more clauses steps old end waiting place fresh reached new reached' sweeping several is explaining = record {
  order = omega (arith, sweeping.order, is.before);
  above = λ other past.
      elim (cases_eq other place) [
        | inl same ↦ λ waits. let e : standing_at new place ≡ Waiting = subst (λ (p : ℕ). standing_at new p ≡ Waiting) same waits in let n = explaining.now in cc
        | inr differs ↦ elim (explaining.others other differs) [
          | inl kept ↦ λ waits. elim (cases_lt other end) [
            | inl within ↦ is.last other (omega arith) within (sym kept ∙ waits)
            | inr behind ↦ sweeping.above other behind (sym kept ∙ waits)
          ]
          | inr changed ↦ absurd (omega (arith, changed.2))
        ]
      ];
  none_kept = λ other kept'.
      elim (cases_eq other place) [
        | inl same ↦ let e : standing_at new place ≡ Kept = subst (λ (p : ℕ). standing_at new p ≡ Kept) same kept' in let n = explaining.now in cc
        | inr differs ↦ elim (explaining.others other differs) [
          | inl kept ↦ sweeping.none_kept other (sym kept ∙ kept')
          | inr changed ↦ let e = changed.1 in cc
        ]
      ];
  counted = omega (arith, explaining.counted, is.one, sweeping.counted);
}

pub swept_from : (clauses : Numbered ℕ) (steps : Steps) (waiting : ℕ) (first old : List Standing) (end place : ℕ) (reached : List ℕ) →
    ((number : ℕ) → IsExplored clauses steps number first → IsExplored clauses steps number old) → IsListed (size_of steps) old reached →
    IsSweeping steps old end 1 → IsLast old steps.start end place → IsSwept clauses steps waiting first (set old place Kept) reached
swept_from clauses steps waiting first old end place reached explored listed sweeping is =
    let touched = waiting_touched old place is.waits in
    let within = touched_within old place touched in
    record {
      explored = λ number before. explored-kept clauses steps number old place is.waits (explored number before);
      listed = listed-set (size_of steps) old reached place Kept (λ e. cc) touched listed;
      top = inr (
        place,
        record {
          current = is.past;
          within = omega (arith, is.before, sweeping.order);
          kept = standing-same old place Kept within;
          only = λ other kept.
              elim (cases_eq other place) [
                | inl same ↦ same
                | inr differs ↦ absurd (sweeping.none_kept other (sym (standing-other old place other Kept differs) ∙ kept))
              ];
        },
      );
      lower = λ other waits.
          elim (cases_order other place) [
            | inl same ↦ let e : standing_at (set old place Kept) place ≡ Waiting = subst (λ (p : ℕ). standing_at (set old place Kept) p ≡ Waiting) same waits in
                let k = standing-same old place Kept within in cc
            | inr apart ↦ elim apart [
              | inl before ↦ elim (cases_lt other steps.start) [
                | inl low ↦ low
                | inr high ↦ absurd (waiting_none old steps.start place other (omega (arith, is.one, sweeping.counted)) high before (sym (standing-other old place other Kept (λ e. omega arith)) ∙ waits))
              ]
              | inr behind ↦
                  let was : standing_at old other ≡ Waiting = sym (standing-other old place other Kept (λ e. omega arith)) ∙ waits in
                  elim (cases_lt other end) [
                    | inl within' ↦ absurd (is.last other behind within' was)
                    | inr past ↦ absurd (sweeping.above other past was)
                  ]
            ]
          ];
    }

-- where none waits on the current level there is nothing to sweep
pub swept_none : (clauses : Numbered ℕ) (steps : Steps) (waiting : ℕ) (standings : List Standing) (reached : List ℕ) → IsListed (size_of steps) standings reached → IsSweeping steps standings (size_of steps) waiting → waiting ≡ 0 →
    IsSwept clauses steps waiting standings standings reached
swept_none clauses steps waiting standings reached listed sweeping none = record {
  explored = λ number before. before;
  listed = listed;
  top = inl (none, sweeping.none_kept);
  lower = λ place waits.
      elim (cases_lt place steps.start) [
        | inl low ↦ low
        | inr high ↦ elim (cases_lt place (size_of steps)) [
          | inl within ↦ absurd (waiting_none standings steps.start (size_of steps) place (sweeping.counted ∙ none) high within waits)
          | inr past ↦ absurd (sweeping.above place past waits)
        ]
      ];
}
