-- What a step of the search ends in, and what it begins with.
use Rattle.std.proofs.Common.{◌≡◌, ℕ, zero, suc, ◌+◌, ◌-◌, ◌<◌, ◌≤◌, Bool, List, [], ◌∷◌, ◌++◌, length, get_or, refl, sym, ap, ◌∙◌, arith}
use Rattle.std.specs.List.{All}
use Rattle.std.proofs.lemmas.Bool.{false_from_ne_true, true≢false}
use Rattle.std.proofs.lemmas.List.Elements.{All-push}
use Rattle.reach_frames.specs.Bits.{is_met}
use Rattle.reach_frames.specs.Levels.{frames_of, AreWitnesses, IsWitnessed}
use Rattle.reach_frames.specs.Searches.{frame_in, frame_before, AreReady, AreNarrowed}
use Rattle.reach_frames.specs.Systems.{System, AreOpen, AreSound, IsInvariant, IsStuck, MissesGoal}
use Rattle.reach_frames.specs.declared.level.KeptClause.{KeptClause}
use Rattle.reach_frames.proofs.LevelFrames.{frame_among, frame_count, frame_more, met_later}

-- each frame keeps the goal out, if the last does
pub goal_missed : (system : System) (levels : List (List KeptClause)) (place last : ℕ) → place ≤ last → MissesGoal system (frame_in levels last) → MissesGoal system (frame_in levels place)
goal_missed system levels place last less missed state goal =
    false_from_ne_true (is_met (frame_in levels place) state) (λ met.
    true≢false (sym (met_later levels place last state less met) ∙ missed state goal))

pub goal_still : (system : System) (old new : List (List KeptClause)) (place : ℕ) → AreNarrowed system old new → MissesGoal system (frame_in old place) → MissesGoal system (frame_in new place)
goal_still system old new place narrowed missed state goal =
    false_from_ne_true (is_met (frame_in new place) state) (λ met.
    true≢false (sym (narrowed.less place state met) ∙ missed state goal))

pub open_from : (system : System) (levels : List (List KeptClause)) (stuck : List (List Bool)) → AreReady system levels → length stuck + 1 ≡ length levels → MissesGoal system (frame_in levels (length levels - 1))
    → ((place : ℕ) → place < length stuck → IsStuck system (frame_in levels place) (get_or stuck place [])) → AreOpen system (frames_of levels) stuck
open_from system levels stuck ready many missed each = record {
  sound = ready.sound;
  kept = λ place within. goal_missed system levels place (length levels - 1) (omega (arith, within, frame_count levels)) missed;
  many = many ∙ sym (frame_count levels);
  follows = λ place within. let is = each place within in (is.before, is.follows);
  meets = λ place within.
      let is = each place within in
      ready.sound.step (suc place) is.before (get_or stuck place []) is.meets (λ no. absurd (omega (arith, no))) is.follows;
  misses = λ place within. (each place within).misses;
}

-- two frames with the same clauses are an invariant
pub invariant_from : (system : System) (levels : List (List KeptClause)) (place : ℕ) → AreReady system levels → frame_in levels place ≡ frame_in levels (suc place) → MissesGoal system (frame_in levels (suc place))
    → IsInvariant system (frame_in levels (suc place))
invariant_from system levels place ready same missed = record {
  framed = ready.sound.framed (suc place);
  begun = ready.sound.begun (suc place);
  step = λ state next met follows.
      ready.sound.step (suc place) state next (ap (λ clauses. is_met clauses state) same ∙ met) (λ no. absurd (omega (arith, no))) follows;
  kept = missed;
}

-- no frames are sound, and one more without clauses
pub sound_none : (system : System) → AreSound system (frames_of [])
sound_none system = record {
  framed = λ place. record {
    each = λ k d end. absurd (omega (arith, end));
    once = λ i j d before end. absurd (omega (arith, end));
  };
  begun = λ place state begins. refl;
  step = λ place state next met begins follows. refl;
  among = λ place k d end. absurd (omega (arith, end));
}

before_more : (levels : List (List KeptClause)) (place : ℕ) → frame_before (levels ++ [] ∷ []) place ≡ frame_before levels place
before_more levels zero = refl
before_more levels (suc place) = frame_more levels place

pub sound_more : (system : System) (levels : List (List KeptClause)) → AreSound system (frames_of levels) → AreSound system (frames_of (levels ++ [] ∷ []))
sound_more system levels sound = record {
  framed = λ place. rw (frame_more levels place) (sound.framed place);
  begun = λ place state begins. ap (λ clauses. is_met clauses state) (frame_more levels place) ∙ sound.begun place state begins;
  step = λ place state next met begins follows.
      ap (λ clauses. is_met clauses next) (frame_more levels place)
      ∙ sound.step place state next (ap (λ clauses. is_met clauses state) (sym (before_more levels place)) ∙ met) begins follows;
  among = frame_among (levels ++ [] ∷ []);
}

pub witnessed_more : (system : System) (levels : List (List KeptClause)) → AreWitnesses system levels → AreWitnesses system (levels ++ [] ∷ [])
witnessed_more system levels all = All-push (All (IsWitnessed system)) levels [] all (λ k d end. absurd (omega (arith, end)))
