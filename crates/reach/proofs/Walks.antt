-- The path of joint states whose bits lead to the goal is open.
use Rattle.std.proofs.Common.{◌≡◌, sym, ap, ◌∙◌, subst, ℕ, zero, suc, ◌+◌, ◌-◌, ◌<◌, Bool as Truth, List, [], length, get_or, Some, arith}
use Rattle.std.specs.Prelude.{slice_get, All, IsTrue}
use Rattle.std.proofs.lemmas.List.{get_or_default, get_or-map, length-map}
use Rattle.std.proofs.lemmas.Option.{get_or_from_slice_get, slice_get_within, slice_get-get_or}
use Rattle.clauses.specs.Models.{is_true}
use Rattle.joint.specs.Joined.{Joined}
use Rattle.joint_theory.specs.Bits.{bad_bit, state_bits}
use Rattle.joint_theory.specs.Paths.{IsOpenInitial}
use Rattle.joint_theory.specs.States.{IsState}
use Rattle.joint_theory.specs.declared.path.JointState.{JointState}
use Rattle.reach_frames.specs.Bits.{values_of}
use Rattle.reach_frames.specs.Paths.{IsLed, IsViolation}
use Rattle.reach.specs.Readings.{AreRead, HasState}
use Rattle.reach.specs.Systems.{system_of}
use Rattle.reach.proofs.States.{bits_in, initial-of, neighbours-of, of-bad}

module _ (joined : Joined) where
  -- each place of a path that is led has the bits of a state

  led-at : (path : List (List Truth)) → IsLed (system_of joined) path → (place : ℕ) → place < length path
      → HasState joined (get_or path place [])
  led-at path led zero below = (led.begun.state, led.begun.bits_of)
  led-at path led (suc place) below = let follows = led.followed place below in (follows.next, follows.next_of)

  pub led-states : (path : List (List Truth)) → IsLed (system_of joined) path → All (HasState joined) path
  led-states path led place other below =
      subst (HasState joined) (get_or_default path place [] other below) (led-at path led place below)

  -- the bits at a place are those of the state at that place
  module _ (path : List (List Truth)) (states : List JointState) (read : AreRead joined path states) where
    pub as-many : length states ≡ length path
    as-many = sym (length-map states (state_bits joined.design joined.automaton joined.visits)) ∙ ap length read.bits

    pub bits-at : (place : ℕ) (state : JointState) → slice_get states place ≡ Some state → get_or path place [] ≡ bits_in joined state
    bits-at place state is =
        let below = slice_get_within states place state is in
        ap (λ (p : List (List Truth)). get_or p place []) (sym read.bits)
        ∙ get_or-map (state_bits joined.design joined.automaton joined.visits) states place state [] below
        ∙ ap (state_bits joined.design joined.automaton joined.visits) (get_or_from_slice_get states place state state is)

    pub is-at : (place : ℕ) (state : JointState) → slice_get states place ≡ Some state → IsState joined.design joined.automaton joined.visits state
    is-at place state is =
        subst (IsState joined.design joined.automaton joined.visits) (get_or_from_slice_get states place state state is)
        (read.are place state (slice_get_within states place state is))

    -- there is a state at a place
    some-at : JointState → (place : ℕ) → place < length path → (state : JointState) × (slice_get states place ≡ Some state)
    some-at any place below =
        (get_or states place any, slice_get-get_or states place any (omega (arith, below, as-many)))

    pub is-open : (most : ℕ) → IsViolation (system_of joined) (most + 1) path
        → IsOpenInitial joined.design joined.automaton joined.visits (suc most) (record { states = states })
    is-open most is =
        let some = is.led.some in
        let any = is.led.begun.state in
        let first = some-at any 0 some in
        let last = some-at any (length path - 1) (omega (arith, some)) in
        let at_end : length path - 1 ≡ length states - 1 = omega (arith, as-many) in
        record {
          joint = record {
            states = read.are;
            neighbours = λ place state next here there.
                let below = slice_get_within states (suc place) next there in
                neighbours-of joined (get_or path place []) (get_or path (suc place) []) state next
                (is.led.followed place (omega (arith, below, as-many))) (is-at place state here) (is-at (suc place) next there)
                (bits-at place state here) (bits-at (suc place) next there);
          };
          few = omega (arith, is.few, as-many);
          first = (first.0, first.1, initial-of joined (get_or path 0 []) first.0 is.led.begun (is-at 0 first.0 first.1) (bits-at 0 first.0 first.1));
          last = (
            last.0,
            subst (λ (n : ℕ). slice_get states n ≡ Some last.0) at_end last.1,
            of-bad joined last.0 (is-at (length path - 1) last.0 last.1)
                (subst (λ (b : List Truth). IsTrue (is_true (values_of b) (bad_bit joined.design joined.automaton joined.visits)))
                (bits-at (length path - 1) last.0 last.1) is.goal),
          );
        }
