-- The states of a path that a model stands for: how many they are.
use Rattle.std.proofs.Common.{◌≡◌, ℕ, zero, suc, ◌+◌, ◌-◌, ◌*◌, ◌<◌, ◌≤◌, Bool, true, false, List, length, get_or, Result, Ok, Err, refl, sym, ap, ◌∙◌, subst, arith, mul-le-mul_right, suc-mul}
use Rattle.std.specs.Prelude.{if◌then◌else◌, IfOk}
use Rattle.std.proofs.lemmas.List.FromFn.{length-map-range_with_len}
use Rattle.alternating_theory.specs.Obligations.{Automaton}
use Rattle.clauses.specs.Models.{Assignment, is_true}
use Rattle.gates_theory.specs.Unrolled.{positions_of}
use Rattle.netlist.specs.Design.{Design}
use Rattle.run_terms.specs.Formulas.{values_of}
use Rattle.joint_theory.specs.Bits.{joint_width, state_in}
use Rattle.joint_theory.specs.Paths.{IsOpen}
use Rattle.joint_theory.specs.Queries.{bad_at, first_bad, joint_circuit, joint_size, path_in, path_of, query_variables}
use Rattle.joint_theory.specs.declared.path.JointState.{JointState}
use Rattle.joint_theory.specs.declared.path.JointPath.{JointPath}
use Rattle.psl_base.specs.declared.items.NoMemory.{NoMemory}
use Rattle.joint.specs.Slices.{first_true, count_in}

pub first-step : (values : List Bool) (size place window position : ℕ) → position < window → get_or values (position * size + place) false ≡ false
    → first_true values size place (window - position) position ≡ first_true values size place (window - (position + 1)) (position + 1)
first-step values size place window position below is =
    let e : window - position ≡ suc (window - (position + 1)) = omega arith in
    let d : suc position ≡ position + 1 = omega arith in
    ap (λ n. first_true values size place n position) e
    ∙ ap (λ b. if b then position else first_true values size place (window - (position + 1)) (suc position)) is
    ∙ ap (first_true values size place (window - (position + 1))) d

pub first-found : (values : List Bool) (size place window position : ℕ) → position < window → get_or values (position * size + place) false ≡ true
    → first_true values size place (window - position) position ≡ position
first-found values size place window position below is =
    let e : window - position ≡ suc (window - (position + 1)) = omega arith in
    ap (λ n. first_true values size place n position) e
    ∙ ap (λ b. if b then position else first_true values size place (window - (position + 1)) (suc position)) is

bad-read : (design : Design) (automaton : Automaton) (visits position size : ℕ) (values : List Bool) → size ≡ joint_size design automaton visits
    → is_true (values_of values) (bad_at design automaton visits position) ≡ get_or values (position * size + (joint_width design automaton visits - 1)) false
bad-read design automaton visits position size values same =
    let e : position * size ≡ position * joint_size design automaton visits = ap (λ n. position * n) same in
    ap (λ n. get_or values n false) (omega (arith, e))

bad-first : (design : Design) (automaton : Automaton) (visits size : ℕ) (values : List Bool) → size ≡ joint_size design automaton visits → (count position : ℕ)
    → first_bad design automaton visits count (values_of values) position ≡ first_true values size (joint_width design automaton visits - 1) count position
bad-first design automaton visits size values same zero position = refl
bad-first design automaton visits size values same (suc count) position =
    ap (λ b. if b then position else first_bad design automaton visits count (values_of values) (suc position)) (bad-read design automaton visits position size values same)
    ∙ ap (λ n. if get_or values (position * size + (joint_width design automaton visits - 1)) false then position else n) (bad-first design automaton visits size values same count (suc position))

-- the path has as many states as were counted
pub path-counted : (design : Design) (automaton : Automaton) (visits size window : ℕ) (initial : Bool) (values : List Bool) → size ≡ joint_size design automaton visits
    → path_of design automaton visits window initial (values_of values)
    ≡ path_in design automaton visits (count_in values size (joint_width design automaton visits - 1) window initial) (values_of values)
path-counted design automaton visits size window true values same =
    ap (λ n. path_in design automaton visits (suc n) (values_of values)) (bad-first design automaton visits size values same window 0)
path-counted design automaton visits size window false values same = refl

path-length : (design : Design) (automaton : Automaton) (visits count : ℕ) (v : Assignment) → length (path_in design automaton visits count v).states ≡ count
path-length design automaton visits count v =
    let f : ℕ → JointState = λ place. state_in design automaton visits 0 (positions_of (joint_circuit design automaton visits) v place) in
    length-map-range_with_len f 0 count

-- there are values for the states of an open path
pub states-fit : (design : Design) (automaton : Automaton) (visits size window : ℕ) (initial : Bool) (values : List Bool) → size ≡ joint_size design automaton visits
    → length values ≡ query_variables design automaton visits window initial → IsOpen design automaton visits window initial (path_of design automaton visits window initial (values_of values))
    → count_in values size (joint_width design automaton visits - 1) window initial * size ≤ length values
states-fit design automaton visits size window true values same long is_open =
    let count = count_in values size (joint_width design automaton visits - 1) window true in
    let few : count ≤ window = omega (arith, ap (λ p. length p.states) (path-counted design automaton visits size window true values same), path-length design automaton visits count (values_of values), is_open.few) in
    omega (arith, long, mul-le-mul_right size few, ap (λ n. window * n) same)
states-fit design automaton visits size window false values same long is_open =
    omega (arith, long, ap (λ n. suc window * n) same)

pub window-fits : (design : Design) (automaton : Automaton) (visits size window : ℕ) (initial : Bool) (values : List Bool) → size ≡ joint_size design automaton visits
    → length values ≡ query_variables design automaton visits window initial → window * size ≤ length values
window-fits design automaton visits size window true values same long = omega (arith, long, ap (λ n. window * n) same)
window-fits design automaton visits size window false values same long = omega (arith, long, ap (λ n. suc window * n) same, suc-mul window size)

-- what is said of the path that was read
pub same-path : (result : Result JointPath NoMemory) (here there : JointPath) → here ≡ there → IfOk result (λ path. path ≡ here) → IfOk result (λ path. path ≡ there)
same-path (Ok path) here there e is = is ∙ e
same-path (Err fault) here there e is = tt

pub path-open : (design : Design) (automaton : Automaton) (visits window : ℕ) (initial : Bool) (result : Result JointPath NoMemory) (here : JointPath)
    → IsOpen design automaton visits window initial here → IfOk result (λ path. path ≡ here) → IfOk result (λ path. IsOpen design automaton visits window initial path)
path-open design automaton visits window initial (Ok path) here is_open is = subst (λ (p : JointPath). IsOpen design automaton visits window initial p) (sym is) is_open
path-open design automaton visits window initial (Err fault) here is_open is = tt
