-- What is judged of a joint path that is counted for no visit.
use Rattle.std.specs.Prelude.{◌≡◌, ℕ, ◌<◌, List, slice_get, Some}
use Rattle.joint_theory.specs.States.{IsBad}
use Rattle.joint_theory.specs.declared.path.JointPath.{JointPath}
use Rattle.joint_theory.specs.declared.path.JointState.{JointState}

-- the first so many states are pairwise different
abbrev pub AreDifferent : ℕ → List JointState → Type 0
AreDifferent window states =
    (place later : ℕ) → place < later → later < window → slice_get states place ≡ slice_get states later → ⊥

-- none of the first so many states is bad
abbrev pub AreNotBad : ℕ → List JointState → Type 0
AreNotBad window states =
    (place : ℕ) (state : JointState) → place < window → slice_get states place ≡ Some state → IsBad 0 state → ⊥

-- so many states that are pairwise different and not bad, and then a bad one
pub record EndsBadly (window : ℕ) (path : JointPath) : Type 0 where
  pub different : AreDifferent window path.states
  pub not_bad : AreNotBad window path.states
  pub last : (state : JointState) × (slice_get path.states window ≡ Some state) × IsBad 0 state
