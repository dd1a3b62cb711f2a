-- A window without an open path, as one that no walk keeps open.
use Rattle.std.proofs.Common.{◌≡◌, sym, ap, ◌∙◌, subst, ℕ, suc, ◌-◌, ◌≤◌, ◌<◌, true, false, length, get_or, Some, arith}
use Rattle.std.specs.Prelude.{slice_get}
use Rattle.std.proofs.lemmas.List.Elements.{All-get_or}
use Rattle.std.proofs.lemmas.Option.{same_Some, slice_get-get_or, slice_get_within}
use Rattle.alternating_theory.specs.Obligations.{Automaton}
use Rattle.netlist.specs.Design.{Design}
use Rattle.joint_theory.specs.Paths.{IsJointPath, IsOpenInitial, IsOpenOther, IsClosedAt}
use Rattle.joint_theory.specs.States.{IsState, IsBad, IsInitial, AreNeighbours}
use Rattle.joint_theory.specs.declared.path.JointPath.{JointPath}
use Rattle.joint_theory.specs.declared.path.JointState.{JointState}
use Rattle.joint_theory.proofs.Listed.{listed, length-listed, get-listed, all-listed}
use Rattle.joint_theory.proofs.Windows.{IsWalk, IsShut, none-bad, shut-later}

module _ (design : Design) (automaton : Automaton) (visits : ℕ) where
  abbrev pub IsJointWalk : ℕ → (ℕ → JointState) → Type 0
  IsJointWalk last walk = IsWalk (IsState design automaton visits) (AreNeighbours design automaton visits) last walk

  abbrev pub IsJointShut : ℕ → Type 0
  IsJointShut window = IsShut (IsState design automaton visits) (IsInitial design automaton) (IsBad visits) (AreNeighbours design automaton visits) window

  -- the list of a walk is a path
  abbrev pub path_along : ℕ → (ℕ → JointState) → JointPath
  path_along last walk = record { states = listed (suc last) walk }

  pub walk-joint : (last : ℕ) (walk : ℕ → JointState) → IsJointWalk last walk → IsJointPath design automaton visits (path_along last walk)
  walk-joint last walk w = record {
    states = all-listed (IsState design automaton visits) (suc last) walk (λ place below. w.is place (omega arith));
    neighbours = λ place state next here there.
        let size = length-listed (suc last) walk in
        let below : suc place < suc last = omega (arith, slice_get_within (listed (suc last) walk) (suc place) next there) in
        let a : walk place ≡ state = same_Some (walk place) state (sym (get-listed (suc last) walk place (omega arith)) ∙ here) in
        let b : walk (suc place) ≡ next = same_Some (walk (suc place)) next (sym (get-listed (suc last) walk (suc place) below) ∙ there) in
        subst (λ (x : JointState). AreNeighbours design automaton visits x next) a
        (subst (λ (x : JointState). AreNeighbours design automaton visits (walk place) x) b (w.linked place (omega arith)));
  }

  pub walk-open_initial : (window last : ℕ) (walk : ℕ → JointState) → last < window → IsJointWalk last walk → IsInitial design automaton (walk 0) → IsBad visits (walk last)
      → IsOpenInitial design automaton visits window (path_along last walk)
  walk-open_initial window last walk few w first bad =
      let size = length-listed (suc last) walk in
      let e : length (listed (suc last) walk) - 1 ≡ last = omega arith in
      record {
        joint = walk-joint last walk w;
        few = omega arith;
        first = (walk 0, get-listed (suc last) walk 0 (omega arith), first);
        last = (walk last, ap (λ (n : ℕ). slice_get (listed (suc last) walk) n) e ∙ get-listed (suc last) walk last (omega arith), bad);
      }

  pub walk-open_other : (window : ℕ) (walk : ℕ → JointState) → IsJointWalk window walk → ((i j : ℕ) → i < j → j < window → walk i ≡ walk j → ⊥)
      → ((i : ℕ) → i < window → IsBad visits (walk i) → ⊥) → IsBad visits (walk window) → IsOpenOther design automaton visits window (path_along window walk)
  walk-open_other window walk w different good bad = record {
    joint = walk-joint window walk w;
    many = length-listed (suc window) walk;
    different = λ i j l m same. different i j l m
        (same_Some (walk i) (walk j) (sym (get-listed (suc window) walk i (omega arith)) ∙ same ∙ get-listed (suc window) walk j (omega arith)));
    not_bad = λ i state l here. good' i state l here;
    last = (walk window, get-listed (suc window) walk window (omega arith), bad);
  }
    where
      good' : (i : ℕ) (state : JointState) → i < window → slice_get (listed (suc window) walk) i ≡ Some state → IsBad visits state → ⊥
      good' i state l here =
          subst (λ (x : JointState). IsBad visits x → ⊥) (same_Some (walk i) state (sym (get-listed (suc window) walk i (omega arith)) ∙ here)) (good i l)

  closed-shut : (window : ℕ) → IsClosedAt design automaton visits window → IsJointShut window
  closed-shut window closed = record {
    short = λ last walk few w first bad. closed true (path_along last walk) (walk-open_initial window last walk few w first bad);
    long = λ walk w different good bad. closed false (path_along window walk) (walk-open_other window walk w different good bad);
  }

  -- a path from its first state on
  pub joint-walk : (path : JointPath) (other : JointState) (last : ℕ) → length path.states ≡ suc last → IsJointPath design automaton visits path
      → IsJointWalk last (λ place. get_or path.states place other)
  joint-walk path other last size joint = record {
    is = λ place below. All-get_or (IsState design automaton visits) path.states place other (omega arith) joint.states;
    linked = λ place below. joint.neighbours place (get_or path.states place other) (get_or path.states (suc place) other)
        (slice_get-get_or path.states place other (omega arith)) (slice_get-get_or path.states (suc place) other (omega arith));
  }

  pub state-at : (path : JointPath) (other : JointState) (place : ℕ) (state : JointState) → slice_get path.states place ≡ Some state → state ≡ get_or path.states place other
  state-at path other place state here =
      same_Some state (get_or path.states place other)
      (sym here ∙ slice_get-get_or path.states place other (slice_get_within path.states place state here))

  shut-initial : (window : ℕ) → IsJointShut window → (path : JointPath) → IsOpenInitial design automaton visits window path → ⊥
  shut-initial window shut path open_path =
      let first = open_path.first in
      let some = slice_get_within path.states 0 first.0 first.1 in
      let last = length path.states - 1 in
      let size : length path.states ≡ suc last = omega arith in
      let few = open_path.few in
      shut.short last (λ place. get_or path.states place first.0) (omega arith) (joint-walk path first.0 last size open_path.joint)
      (subst (IsInitial design automaton) (state-at path first.0 0 first.0 first.1) first.2)
      (subst (IsBad visits) (state-at path first.0 last open_path.last.0 open_path.last.1) open_path.last.2)

  shut-other : (window : ℕ) → IsJointShut window → (path : JointPath) → IsOpenOther design automaton visits window path → ⊥
  shut-other window shut path open_path =
      let last = open_path.last in
      let size = open_path.many in
      let at = λ (place : ℕ). get_or path.states place last.0 in
      shut.long (λ place. get_or path.states place last.0) (joint-walk path last.0 window size open_path.joint)
      (λ i j l m same. open_path.different i j l m
      (slice_get-get_or path.states i last.0 (omega arith) ∙ ap Some same ∙ sym (slice_get-get_or path.states j last.0 (omega arith))))
      (λ i l bad. open_path.not_bad i (get_or path.states i last.0) l (slice_get-get_or path.states i last.0 (omega arith)) bad)
      (subst (IsBad visits) (state-at path last.0 window last.0 last.1) last.2)

  shut-closed : (window : ℕ) → IsJointShut window → IsClosedAt design automaton visits window
  shut-closed window shut true path open_path = shut-initial window shut path open_path
  shut-closed window shut false path open_path = shut-other window shut path open_path

  pub closed-later : (window later : ℕ) → window ≤ later → IsClosedAt design automaton visits window → IsClosedAt design automaton visits later
  closed-later window later more closed =
      shut-closed later
      (shut-later JointState (IsState design automaton visits) (IsInitial design automaton) (IsBad visits) (AreNeighbours design automaton visits) window (closed-shut window closed) later more)

  -- no path from an initial state to a bad one
  pub closed-none : (window : ℕ) → IsClosedAt design automaton visits window → (last : ℕ) (walk : ℕ → JointState) → IsJointWalk last walk
      → IsInitial design automaton (walk 0) → IsBad visits (walk last) → ⊥
  closed-none window closed =
      none-bad JointState (IsState design automaton visits) (IsInitial design automaton) (IsBad visits) (AreNeighbours design automaton visits) window (closed-shut window closed)
