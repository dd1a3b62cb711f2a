-- Frames of the system that are open are frames of joint states.
use Rattle.std.proofs.Common.{◌≡◌, refl, sym, ap, ◌∙◌, subst, ℕ, suc, ◌+◌, ◌<◌, ◌≤◌, ℤ, Bool as Truth, false, List, [], ◌∷◌, ◌++◌, take, length, Some, arith}
use Rattle.std.specs.Prelude.{slice_get, All, Contains, IsTrue}
use Rattle.std.proofs.lemmas.List.{get_or_default, take_all, take_more}
use Rattle.std.proofs.lemmas.Option.{get_or_from_slice_get, slice_get_within}
use Rattle.joint.specs.Joined.{Joined}
use Rattle.joint_theory.specs.Sets.{AreFrames}
use Rattle.joint_theory.specs.declared.path.JointState.{JointState}
use Rattle.reach_frames.specs.Bits.{is_met}
use Rattle.reach_frames.specs.Levels.{frames_of}
use Rattle.reach_frames.specs.Systems.{AreOpen, frame_at}
use Rattle.reach_frames.specs.declared.level.KeptClause.{KeptClause}
use Rattle.reach.specs.Answers as answers
use Rattle.reach.specs.Readings.{AreRead, HasState}
use Rattle.reach.specs.Systems.{system_of}
use Rattle.reach.proofs.Inductive.{follows-as}
use Rattle.reach.proofs.Plain.{begins-as}
use Rattle.reach.proofs.States.{bad-of, bits_in}
use Rattle.reach.proofs.Walks.{as-many, bits-at}

pub length-frames : (levels : List (List KeptClause)) → length (frames_of levels) ≡ length levels
length-frames [] = refl
length-frames (level ∷ levels) = ap suc (length-frames levels)

-- a frame more is copied
pub frames-next : (levels : List (List KeptClause)) (place : ℕ) (frame : List (List ℤ)) (old new : List (List (List ℤ)))
    → place < length levels → frame ≡ frame_at (frames_of levels) place → old ≡ take place (frames_of levels)
    → new ≡ old ++ frame ∷ [] → new ≡ take (place + 1) (frames_of levels)
frames-next levels place frame old new below is so_far pushed =
    pushed ∙ ap (λ front. front ++ frame ∷ []) so_far ∙ ap (λ f. take place (frames_of levels) ++ f ∷ []) is
    ∙ sym (take_more (frames_of levels) place [] (omega (arith, below, length-frames levels)))

module _ (joined : Joined) (frames : List (List (List ℤ))) (stuck : List (List Truth)) (is : AreOpen (system_of joined) frames stuck) where
  -- a stuck state follows another one
  pub stuck-states : All (HasState joined) stuck
  stuck-states place other below =
      let before = is.follows place below in
      subst (HasState joined) (get_or_default stuck place [] other below) (before.1.next, before.1.next_of)

  here : (place : ℕ) (frame : List (List ℤ)) → slice_get frames place ≡ Some frame → frame_at frames place ≡ frame
  here place frame at = get_or_from_slice_get frames place frame [] at

  met-at : (place : ℕ) (frame : List (List ℤ)) (bits : List Truth) → slice_get frames place ≡ Some frame
      → IsTrue (is_met (frame_at frames place) bits) → IsTrue (is_met frame bits)
  met-at place frame bits at = subst (λ (f : List (List ℤ)). IsTrue (is_met f bits)) (here place frame at)

  missed-at : (place : ℕ) (frame : List (List ℤ)) (bits : List Truth) → slice_get frames place ≡ Some frame
      → is_met (frame_at frames place) bits ≡ false → is_met frame bits ≡ false
  missed-at place frame bits at = subst (λ (f : List (List ℤ)). is_met f bits ≡ false) (here place frame at)

  module _ (states : List JointState) (read : AreRead joined stuck states) where
    stuck-at : (place : ℕ) (state : JointState) → slice_get states place ≡ Some state → place < length stuck
    stuck-at place state at = omega (arith, slice_get_within states place state at, as-many joined stuck states read)

    pub are-frames : AreFrames joined.design joined.automaton joined.visits frames states
    are-frames = record {
      initial = λ frame state at is_state initial.
          met-at 0 frame (bits_in joined state) at (is.sound.begun 0 (bits_in joined state) (begins-as joined state is_state initial));
      first = λ frame state next at is_state is_next initial neighbours.
          met-at 0 frame (bits_in joined next) at
          (is.sound.step 0 (bits_in joined state) (bits_in joined next) refl (λ first. begins-as joined state is_state initial)
          (follows-as joined state next is_state is_next neighbours));
      step = λ place frame later state next at behind is_state is_next neighbours met.
          met-at (suc place) later (bits_in joined next) behind
          (is.sound.step (suc place) (bits_in joined state) (bits_in joined next)
          (subst (λ (f : List (List ℤ)). IsTrue (is_met f (bits_in joined state))) (sym (here place frame at)) met)
          (λ none. absurd (omega (arith, none))) (follows-as joined state next is_state is_next neighbours));
      among = λ place frame later at behind.
          subst (λ (f : List (List ℤ)). All (Contains f) later) (here place frame at)
          (subst (λ (f : List (List ℤ)). All (Contains (frame_at frames place)) f) (here (suc place) later behind) (is.sound.among place));
      bad = λ place frame state at is_state bad.
          missed-at place frame (bits_in joined state) at
          (is.kept place (slice_get_within frames place frame at) (bits_in joined state) (bad-of joined state is_state bad));
      many = omega (arith, is.many, as-many joined stuck states read);
      states = read.are;
      shown = λ place frame later state at behind there. (
        met-at (suc place) later (bits_in joined state) behind
            (subst (λ (b : List Truth). IsTrue (is_met (frame_at frames (suc place)) b)) (bits-at joined stuck states read place state there)
            (is.meets place (stuck-at place state there))),
        missed-at place frame (bits_in joined state) at
            (subst (λ (b : List Truth). is_met (frame_at frames place) b ≡ false) (bits-at joined stuck states read place state there)
            (is.misses place (stuck-at place state there))),
      );
    }

pub opened-frames : (joined : Joined) (levels : List (List KeptClause)) (stuck : List (List Truth)) (lists : List (List (List ℤ))) (place : ℕ)
    (states : List JointState) → AreOpen (system_of joined) (frames_of levels) stuck → lists ≡ take place (frames_of levels)
    → length levels ≤ place → AreRead joined stuck states
    → answers.AreOpen joined (length levels) (record { frames = lists; stuck = states })
opened-frames joined levels stuck lists place states is copied whole read =
    let same : lists ≡ frames_of levels = copied ∙ take_all place (frames_of levels) (omega (arith, whole, length-frames levels)) in
    record {
      are = subst (λ (fs : List (List (List ℤ))). AreFrames joined.design joined.automaton joined.visits fs states) (sym same)
          (are-frames joined (frames_of levels) stuck is states read);
      many = ap length same ∙ length-frames levels;
    }
