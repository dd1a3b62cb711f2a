-- A path that is open for some number of visits is so for one visit more, once each of its states counts one more.
use Rattle.std.proofs.Common.{◌≡◌, refl, ◌∙◌, ap, sym, subst, ℕ, zero, suc, ◌-◌, ◌<◌, ◌≤◌, Bor, Option, None, Bool as Truth, true, false, List, [], ◌∷◌, slice_get, Some, arith}
use Rattle.std.specs.Prelude.{map, unwrap_or, All}
use Rattle.std.specs.Option.{IfSome, option_map}
use Rattle.std.proofs.lemmas.List.{length-map}
use Rattle.std.proofs.lemmas.List.Elements.{All-map, All-weaker}
use Rattle.std.proofs.lemmas.Option.{slice_get-map}
use Rattle.alternating_theory.specs.Obligations.{Automaton}
use Rattle.joint_theory.specs.Paths.{IsJointPath, IsOpenOther}
use Rattle.joint_theory.specs.States.{AreNeighbours, IsState}
use Rattle.joint_theory.specs.declared.path.JointPath.{JointPath}
use Rattle.joint_theory.specs.declared.path.JointState.{JointState}
use Rattle.netlist.specs.Design.{Design}
use Rattle.owed.specs.Violations.{violation_of}
use Rattle.prover.specs.Kept.{AreKeptFor, AreKeptTo, IsKeptFor, KeepsOpen}
use Rattle.prover.specs.Raised.{raised_path, raised_state}
use Rattle.prover.specs.declared.finding.OpenPath.{OpenPath}
use Rattle.prover.specs.declared.task.Task.{Task}

-- what stands at a place of a list of values stems from what stands there in the list
got-mapped : {A B : Type 0} (f : A → B) (xs : List A) (place : ℕ) (y : B) → slice_get (map f xs) place ≡ Some y
    → (x : A) × (slice_get xs place ≡ Some x) × (f x ≡ y)
got-mapped f [] place y at = absurd cc
got-mapped f (x ∷ xs) zero y at = (x, refl, ap (λ o. unwrap_or o y) at)
got-mapped f (x ∷ xs) (suc place) y at = got-mapped f xs place y at

-- the count before it is raised, and the state: different states stay different
abbrev count-before : ℕ → ℕ
count-before zero = zero
count-before (suc count) = count

abbrev lowered : JointState → JointState
lowered state = record {
  before = state.before;
  valuation = state.valuation;
  owed = state.owed;
  pending = state.pending;
  count = count-before state.count;
}

got-lowered : (states : List JointState) (place : ℕ)
    → option_map lowered (slice_get (map raised_state states) place) ≡ slice_get states place
got-lowered [] place = refl
got-lowered (state ∷ states) zero = refl
got-lowered (state ∷ states) (suc place) = got-lowered states place

raised-is : (design : Design) (automaton : Automaton) (visits : ℕ) (state : JointState) → IsState design automaton visits state
    → IsState design automaton (suc visits) (raised_state state)
raised-is design automaton visits state is = record {
  before = is.before;
  valuation = is.valuation;
  owed = is.owed;
  numbers = is.numbers;
  pending = is.pending;
  among = is.among;
  put_off = is.put_off;
  count = omega (arith, is.count);
}

raised-next : (design : Design) (automaton : Automaton) (visits : ℕ) (state next : JointState)
    → AreNeighbours design automaton visits state next
    → AreNeighbours design automaton (suc visits) (raised_state state) (raised_state next)
raised-next design automaton visits state next are = record {
  step = are.step;
  before = are.before;
  owed = are.owed;
  supported = are.supported;
  put_off = λ some. record {
    met = (are.put_off some).met;
    supported = (are.put_off some).supported;
    count = ap suc (are.put_off some).count;
  };
  anew = λ none. record {
    pending = (are.anew none).pending;
    count = omega (arith, (are.anew none).count);
  };
}

raised-joint : (design : Design) (automaton : Automaton) (visits : ℕ) (path : JointPath) → IsJointPath design automaton visits path
    → IsJointPath design automaton (suc visits) (raised_path path)
raised-joint design automaton visits path is = record {
  states = All-map (IsState design automaton (suc visits)) raised_state path.states
      (All-weaker (IsState design automaton visits) (λ state. IsState design automaton (suc visits) (raised_state state))
      (raised-is design automaton visits) path.states is.states);
  neighbours = λ place state next here there.
      let from = got-mapped raised_state path.states place state here in
      let to = got-mapped raised_state path.states (suc place) next there in
      subst (λ (s : JointState). AreNeighbours design automaton (suc visits) s next) from.2
      (subst (λ (s : JointState). AreNeighbours design automaton (suc visits) (raised_state from.0) s) to.2
      (raised-next design automaton visits from.0 to.0 (is.neighbours place from.0 to.0 from.1 to.1)));
}

-- an open path of the induction stays open
pub raised-open : (design : Design) (automaton : Automaton) (visits window : ℕ) (path : JointPath)
    → IsOpenOther design automaton visits window path → IsOpenOther design automaton (suc visits) window (raised_path path)
raised-open design automaton visits window path is = record {
  joint = raised-joint design automaton visits path is.joint;
  many = length-map path.states raised_state ∙ is.many;
  different = λ place later before within same. is.different place later before within
      (sym (got-lowered path.states place) ∙ ap (option_map lowered) same ∙ got-lowered path.states later);
  not_bad = λ place state within at bad.
      let from = got-mapped raised_state path.states place state at in
      let counted : suc from.0.count ≡ state.count = ap (λ (s : JointState). s.count) from.2 in
      is.not_bad place from.0 within from.1 (omega (arith, bad, counted));
  last = (
    raised_state is.last.0,
    slice_get-map raised_state path.states window ∙ ap (option_map raised_state) is.last.1,
    omega (arith, is.last.2),
  );
}

-- so it keeps the windows open that it did
pub raised-keeps : (design : Design) (automaton : Automaton) (depth visits window : ℕ) (path : JointPath)
    → KeepsOpen design automaton depth visits window false path
    → KeepsOpen design automaton depth (suc visits) window false (raised_path path)
raised-keeps design automaton depth visits window path keeps =
    (keeps.0, keeps.1, keeps.2, raised-open design automaton visits keeps.0 path keeps.3)

-- what keeps a window open for a number of visits does so for the next one
pub raised-kept : (task : Task) (visits window : ℕ) (member : OpenPath) → IsKeptFor task visits window member
    → member.initial ≡ false
    → IsKeptFor task (suc visits) window (record { visits = suc visits; initial = false; path = raised_path member.path })
raised-kept task visits window member is other = record {
  visits_are = refl;
  keeps = raised-keeps task.netlist.now (violation_of task.unit.now task.directive.now) task.options.depth visits window member.path
      (subst (λ (kind : Truth). KeepsOpen task.netlist.now (violation_of task.unit.now task.directive.now) task.options.depth
      visits window kind member.path) other is.keeps);
}

counts-of : (design : Design) (automaton : Automaton) (depth visits window : ℕ) (initial : Truth) (path : JointPath)
    → KeepsOpen design automaton depth visits window initial path → All (IsState design automaton visits) path.states
counts-of design automaton depth visits window true path keeps = keeps.joint.states
counts-of design automaton depth visits window false path keeps = keeps.3.joint.states

-- its states count at most one more than the visits
pub kept-counts : (task : Task) (visits window : ℕ) (member : OpenPath) → IsKeptFor task visits window member
    → All (λ state. state.count ≤ suc visits) member.path.states
kept-counts task visits window member is =
    All-weaker (IsState task.netlist.now (violation_of task.unit.now task.directive.now) visits) (λ state. state.count ≤ suc visits)
    (λ state of. of.count) member.path.states
    (counts-of task.netlist.now (violation_of task.unit.now task.directive.now) task.options.depth visits window
    member.initial member.path is.keeps)

-- so does what is made of one for a visit fewer
pub kept-by : (task : Task) (visits window : ℕ) (fewer raised : OpenPath) → 0 < visits → IsKeptFor task (visits - 1) window fewer
    → fewer.initial ≡ false → raised.visits ≡ suc (visits - 1) → raised.initial ≡ false → raised.path ≡ raised_path fewer.path
    → IsKeptFor task visits window raised
kept-by task visits window fewer raised some is other counted kind path =
    let design = task.netlist.now in
    let automaton = violation_of task.unit.now task.directive.now in
    let depth = task.options.depth in
    let one : suc (visits - 1) ≡ visits = omega (arith, some) in
    let kept = raised-kept task (visits - 1) window fewer is other in
    record {
      visits_are = counted ∙ one;
      keeps = subst (λ (n : ℕ). KeepsOpen design automaton depth n window raised.initial raised.path) one
          (subst (λ (p : JointPath). KeepsOpen design automaton depth (suc (visits - 1)) window raised.initial p) (sym path)
          (subst (λ (i : Truth). KeepsOpen design automaton depth (suc (visits - 1)) window i (raised_path fewer.path)) (sym kind) kept.keeps));
    }

-- the one before, of those that keep the window open
pub fewer-kept : (task : Task) (visits window : ℕ) (paths : List OpenPath) (fewer : Option (Bor OpenPath)) → AreKeptFor task visits window paths
    → IfSome fewer (λ path. (0 < visits) × (slice_get paths (visits - 1) ≡ Some path.now))
    → IfSome fewer (λ path. (0 < visits) × IsKeptFor task (visits - 1) window path.now)
fewer-kept task visits window paths None are is = tt
fewer-kept task visits window paths (Some path) are is = (is.0, are.each (visits - 1) path.now is.1)

pub fewer-done : (task : Task) (visits window : ℕ) (paths : List OpenPath) (fewer : Option (Bor OpenPath)) → AreKeptTo task visits window paths
    → IfSome fewer (λ path. (0 < visits) × (slice_get paths (visits - 1) ≡ Some path.now))
    → IfSome fewer (λ path. (0 < visits) × IsKeptFor task (visits - 1) window path.now)
fewer-done task visits window paths None are is = tt
fewer-done task visits window paths (Some path) are is = (is.0, are.done (visits - 1) path.now (omega (arith, is.0)) is.1)
