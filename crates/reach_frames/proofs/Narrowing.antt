-- What narrows sound frames.
use Rattle.std.proofs.Common.{◌≡◌, ℕ, zero, suc, ◌≤◌, ℤ, Bool, true, List, refl, sym, ◌∙◌, inl, inr, arith}
use Rattle.std.proofs.lemmas.Bool.{and_parts, and_from, cases_lt}
use Rattle.clauses.specs.Models.{meets}
use Rattle.reach_frames.specs.Bits.{values_of, is_met}
use Rattle.reach_frames.specs.Searches.{frame_in, frame_before, AreReady, AreNarrowed}
use Rattle.reach_frames.specs.Systems.{System}
use Rattle.reach_frames.specs.declared.level.KeptClause.{KeptClause}
use Rattle.reach_frames.proofs.Changes.{IsWith}
use Rattle.reach_frames.proofs.LevelFrames.{frame_among, frames_from_first, met_later}

pub narrowed_none : (system : System) (levels : List (List KeptClause)) → AreReady system levels → AreNarrowed system levels levels
narrowed_none system levels ready = record { ready = ready; many = refl; less = λ place state met. met }

pub narrowed_then : (system : System) (old mid new : List (List KeptClause)) → AreNarrowed system old mid → AreNarrowed system mid new → AreNarrowed system old new
narrowed_then system old mid new first second = record {
  ready = second.ready;
  many = second.many ∙ first.many;
  less = λ place state met. first.less place state (second.less place state met);
}

-- what holds of a clause that may be added to the frames up to a place
pub record MayBeAdded (system : System) (levels : List (List KeptClause)) (top : ℕ) (clause : List ℤ) : Type 0 where
  pub begun : (state : List Bool) → system.begins state → meets (values_of state) clause ≡ true
  pub step : (state next : List Bool) → is_met (frame_before levels top) state ≡ true → meets (values_of state) clause ≡ true → (top ≡ 0 → system.begins state) → system.follows state next
      → meets (values_of next) clause ≡ true

less_with : (system : System) (old new : List (List KeptClause)) (clause : List ℤ) (top : ℕ) → IsWith system old new clause top → (place : ℕ) (state : List Bool)
    → is_met (frame_in new place) state ≡ true → is_met (frame_in old place) state ≡ true
less_with system old new clause top is place state met =
    elim (cases_lt top place) [
      | inl more ↦ sym (is.above place state more) ∙ met
      | inr up ↦ (and_parts _ _ (sym (is.below place state up) ∙ met)).0
    ]

clause_with : (system : System) (old new : List (List KeptClause)) (clause : List ℤ) (top : ℕ) → IsWith system old new clause top → (place : ℕ) (state : List Bool) → place ≤ top
    → is_met (frame_in new place) state ≡ true → meets (values_of state) clause ≡ true
clause_with system old new clause top is place state up met = (and_parts _ _ (sym (is.below place state up) ∙ met)).1

before_less : (system : System) (old new : List (List KeptClause)) (clause : List ℤ) (top place : ℕ) → IsWith system old new clause top → (state : List Bool)
    → is_met (frame_before new place) state ≡ true → is_met (frame_before old place) state ≡ true
before_less system old new clause top zero is state met = met
before_less system old new clause top (suc place) is state met = less_with system old new clause top is place state met

-- a step into a frame up to the top
clause_kept : (system : System) (old new : List (List KeptClause)) (clause : List ℤ) (top place : ℕ) → AreReady system old → IsWith system old new clause top → MayBeAdded system old top clause
    → (state next : List Bool) → place ≤ top → is_met (frame_before new place) state ≡ true → (place ≡ 0 → system.begins state) → system.follows state next → meets (values_of next) clause ≡ true
clause_kept system old new clause zero zero ready is may state next up met begins follows =
    may.step state next met (may.begun state (begins refl)) begins follows
clause_kept system old new clause (suc top) zero ready is may state next up met begins follows =
    may.step state next (ready.sound.begun top state (begins refl)) (may.begun state (begins refl)) (λ no. absurd (omega (arith, no))) follows
clause_kept system old new clause zero (suc place) ready is may state next up met begins follows = absurd (omega (arith, up))
clause_kept system old new clause (suc top) (suc place) ready is may state next up met begins follows =
    let earlier : place ≤ suc top = omega (arith, up) in
    let later : place ≤ top = omega (arith, up) in
    may.step state next (met_later old place top state later (less_with system old new clause (suc top) is place state met))
    (clause_with system old new clause (suc top) is place state earlier met) (λ no. absurd (omega (arith, no))) follows

-- a clause more keeps frames sound, where it may be added
pub add_sound : (system : System) (old new : List (List KeptClause)) (clause : List ℤ) (top : ℕ) → AreReady system old → IsWith system old new clause top → MayBeAdded system old top clause → AreNarrowed system old new
add_sound system old new clause top ready is may = record {
  ready = record {
    few = ready.few;
    sound = record {
      framed = λ place. frames_from_first system.width new place is.framed;
      begun = λ place state begins.
          elim (cases_lt top place) [
            | inl more ↦ is.above place state more ∙ ready.sound.begun place state begins
            | inr up ↦ is.below place state up ∙ and_from _ _ (ready.sound.begun place state begins) (may.begun state begins)
          ];
      step = λ place state next met begins follows.
          let before = ready.sound.step place state next (before_less system old new clause top place is state met) begins follows in
          elim (cases_lt top place) [
            | inl more ↦ is.above place next more ∙ before
            | inr up ↦ is.below place next up ∙ and_from _ _ before (clause_kept system old new clause top place ready is may state next up met begins follows)
          ];
      among = frame_among new;
    };
    witnessed = is.witnessed;
  };
  many = is.many;
  less = less_with system old new clause top is;
}
