-- One frame more, without clauses.
use Rattle.std.proofs.Common.{◌≡◌, refl, sym, ap, subst, ℕ, zero, suc, ◌-◌, ◌<◌, ℤ, List, [], ◌∷◌, ◌++◌, length, length-append, arith}
use Rattle.std.specs.Prelude.{All, Contains, IsTrue}
use Rattle.std.proofs.lemmas.List.Elements.{All-nil, All-push}
use Rattle.joint.specs.Joined.{Joined}
use Rattle.reach_frames.specs.Bits.{is_met}
use Rattle.reach_frames.specs.Cubes.{IsFrame}
use Rattle.reach_frames.specs.Levels.{clauses_of, frames_of, IsWitnessed}
use Rattle.reach_frames.specs.Systems.{System, frame_at, before_of, AreSound}
use Rattle.reach_frames.specs.declared.level.KeptClause.{KeptClause}
use Rattle.reach.specs.Sides.{AreGood}
use Rattle.reach.specs.Systems.{system_of}

-- no frame changes
more-same : (levels : List (List KeptClause)) (place : ℕ) → frame_at (frames_of (levels ++ [] ∷ [])) place ≡ frame_at (frames_of levels) place
more-same [] zero = refl
more-same [] (suc place) = refl
more-same (level ∷ levels) zero = ap (λ front. clauses_of level ++ front) (more-same levels 0)
more-same (level ∷ levels) (suc place) = more-same levels place

more-before : (levels : List (List KeptClause)) (place : ℕ) → before_of (frames_of (levels ++ [] ∷ [])) place ≡ before_of (frames_of levels) place
more-before levels zero = refl
more-before levels (suc place) = more-same levels place

more-sound : (system : System) (levels : List (List KeptClause)) → AreSound system (frames_of levels) → AreSound system (frames_of (levels ++ [] ∷ []))
more-sound system levels is = record {
  framed = λ place. subst (IsFrame system.width) (sym (more-same levels place)) (is.framed place);
  begun = λ place state begins. subst (λ (f : List (List ℤ)). IsTrue (is_met f state)) (sym (more-same levels place)) (is.begun place state begins);
  step = λ place state next met begins follows.
      subst (λ (f : List (List ℤ)). IsTrue (is_met f next)) (sym (more-same levels place))
      (is.step place state next (subst (λ (f : List (List ℤ)). IsTrue (is_met f state)) (more-before levels place) met) begins follows);
  among = λ place.
      subst (λ (f : List (List ℤ)). All (Contains f) (frame_at (frames_of (levels ++ [] ∷ [])) (suc place))) (sym (more-same levels place))
      (subst (λ (f : List (List ℤ)). All (Contains (frame_at (frames_of levels) place)) f) (sym (more-same levels (suc place))) (is.among place));
}

one-more : (levels : List (List KeptClause)) → length (levels ++ [] ∷ []) ≡ suc (length levels)
one-more levels = omega (arith, length-append levels ([] ∷ []))

pub more-good : (joined : Joined) (most : ℕ) (levels new : List (List KeptClause)) → AreGood joined most levels → length levels < most
    → new ≡ levels ++ [] ∷ [] → AreGood joined most new × (0 < length new)
more-good joined most levels new is below pushed =
    subst (λ (ls : List (List KeptClause)). AreGood joined most ls × (0 < length ls)) (sym pushed) (
      record {
        sound = more-sound (system_of joined) levels is.sound;
        witnessed = All-push (All (IsWitnessed (system_of joined))) levels [] is.witnessed (All-nil (IsWitnessed (system_of joined)));
        few = omega (arith, one-more levels, below);
      },
      omega (arith, one-more levels),
    )

pub more-fewer : (most : ℕ) (old levels new : List (List KeptClause)) → length levels ≡ length old → length levels < most
    → new ≡ levels ++ [] ∷ [] → most - length new < most - length old
more-fewer most old levels new many below pushed =
    subst (λ (ls : List (List KeptClause)). most - length ls < most - length old) (sym pushed) (omega (arith, one-more levels, many, below))
