-- Paths that keep windows open: a path of the initial kind larger ones, and the last states of another one smaller ones.
use Rattle.std.proofs.Common.{◌≡◌, refl, ◌∙◌, ap, sym, subst, ℕ, zero, suc, ◌+◌, ◌-◌, ◌<◌, ◌≤◌, Bool as Truth, true, false, List, [], ◌∷◌, drop, ◌++◌, length, get_or, slice_get, Option, Some, inl, inr, arith, length-append}
use Rattle.std.specs.Prelude.{◌||◌, nat_lt, slice_set, unwrap_or}
use Rattle.std.proofs.lemmas.Bool.{cases_eq, cases_lt, ltb-true}
use Rattle.std.proofs.lemmas.List.{length-drop, length-set}
use Rattle.std.proofs.lemmas.List.Elements.{All-drop}
use Rattle.std.proofs.lemmas.Option.{slice_get-get_or, slice_get_within}
use Rattle.alternating_theory.specs.Obligations.{Automaton}
use Rattle.joint_theory.specs.Paths.{IsOpen, IsOpenOther}
use Rattle.joint_theory.specs.States.{IsState}
use Rattle.joint_theory.specs.declared.path.JointPath.{JointPath}
use Rattle.netlist.specs.Design.{Design}
use Rattle.owed.specs.Violations.{violation_of}
use Rattle.prover.proofs.Evidence.{none-fewer}
use Rattle.prover.proofs.Opened.{get-pushed}
use Rattle.prover.specs.Findings.{IsUndecided}
use Rattle.prover.specs.Glances.{IsSearchedTo}
use Rattle.prover.specs.Kept.{AreKeptFor, AreKeptTo, IsAhead, IsKeptFor, KeepsOpen, keeps_at}
use Rattle.prover.specs.Windows.{AreOpenPaths, HasOpenPath, StaysOpen}
use Rattle.prover.specs.declared.finding.OpenPath.{OpenPath}
use Rattle.prover.specs.declared.searching.Searched.{Searched}
use Rattle.prover.specs.declared.task.Task.{Task}

behind-none : (place : ℕ) → place ≡ 0 + place
behind-none place = omega arith

behind-one : (first place : ℕ) → suc (first + place) ≡ suc first + place
behind-one first place = omega arith

behind-next : (first place : ℕ) → suc (first + place) ≡ first + suc place
behind-next first place = omega arith

-- a place of a list without its first members
got-behind : {A : Type 0} (first : ℕ) (xs : List A) (place : ℕ) → slice_get (drop first xs) place ≡ slice_get xs (first + place)
got-behind zero xs place = ap (slice_get xs) (behind-none place)
got-behind (suc first) [] place = refl
got-behind (suc first) (x ∷ xs) place = got-behind first xs place ∙ ap (slice_get (x ∷ xs)) (behind-one first place)

-- the last states of a path that is open at a window are open at a smaller one
smaller-open : (design : Design) (automaton : Automaton) (visits first window : ℕ) (path : JointPath)
    → IsOpenOther design automaton visits (first + window) path
    → IsOpenOther design automaton visits window (record { states = drop first path.states })
smaller-open design automaton visits first window path is = record {
  joint = record {
    states = All-drop (IsState design automaton visits) first path.states is.joint.states;
    neighbours = λ place state next here there. is.joint.neighbours (first + place) state next
        (sym (got-behind first path.states place) ∙ here)
        (ap (slice_get path.states) (behind-next first place) ∙ sym (got-behind first path.states (suc place)) ∙ there);
  };
  many = omega (arith, length-drop first path.states, is.many);
  different = λ place later before within same. is.different (first + place) (first + later) (omega (arith, before)) (omega (arith, within))
      (sym (got-behind first path.states place) ∙ same ∙ got-behind first path.states later);
  not_bad = λ place state within at bad. is.not_bad (first + place) state (omega (arith, within))
      (sym (got-behind first path.states place) ∙ at) bad;
  last = (is.last.0, got-behind first path.states window ∙ is.last.1, is.last.2);
}

-- so a path that keeps a window open shows that there is an open one
kept-open : (design : Design) (automaton : Automaton) (depth visits window : ℕ) (initial : Truth) (path : JointPath)
    → KeepsOpen design automaton depth visits window initial path
    → (kind : Truth) × (other : JointPath) × IsOpen design automaton visits window kind other
kept-open design automaton depth visits window true path keeps = (true, path, keeps)
kept-open design automaton depth visits window false path keeps = (
  false,
  record { states = drop (keeps.0 - window) path.states },
  smaller-open design automaton visits (keeps.0 - window) window path
      (subst (λ (n : ℕ). IsOpenOther design automaton visits n path) (omega (arith, keeps.1)) keeps.3),
)

-- what keeps a window open for a number of visits shows an open path
kept-has : (task : Task) (visits window : ℕ) (member : OpenPath) → IsKeptFor task visits window member
    → HasOpenPath task.netlist.now task.unit.now task.directive.now visits window
kept-has task visits window member is =
    kept-open task.netlist.now (violation_of task.unit.now task.directive.now) task.options.depth visits window
    member.initial member.path is.keeps

-- a place within a list has a member
pub some-member : {A : Type 0} (xs : List A) (place : ℕ) → place < length xs → (x : A) × (slice_get xs place ≡ Some x)
some-member [] place within = absurd (omega (arith, within))
some-member (x ∷ xs) place within = (get_or (x ∷ xs) place x, slice_get-get_or (x ∷ xs) place x within)

pub kept-stays : (task : Task) (count window : ℕ) (paths : List OpenPath) → AreKeptFor task count window paths
    → StaysOpen task.netlist.now task.unit.now task.directive.now count window
kept-stays task count window paths are visits below =
    let at = some-member paths visits (omega (arith, are.many, below)) in
    kept-has task visits window at.0 (are.each visits at.0 at.1)

pub done-stays : (task : Task) (count window : ℕ) (paths : List OpenPath) → count ≤ suc task.options.visits → AreKeptTo task count window paths
    → StaysOpen task.netlist.now task.unit.now task.directive.now count window
done-stays task count window paths few are visits below =
    let at = some-member paths visits (omega (arith, are.many, below, few)) in
    kept-has task visits window at.0 (are.done visits at.0 below at.1)

-- what is open at a window keeps it open
open-keeps : (design : Design) (automaton : Automaton) (depth visits window : ℕ) (initial : Truth) (path : JointPath) → window ≤ depth
    → IsOpen design automaton visits window initial path → KeepsOpen design automaton depth visits window initial path
open-keeps design automaton depth visits window true path within is = is
open-keeps design automaton depth visits window false path within is = (window, omega arith, within, is)

pub path-kept : (task : Task) (visits window : ℕ) (member : OpenPath) → window ≤ task.options.depth
    → (member.visits ≡ visits)
    × IsOpen task.netlist.now (violation_of task.unit.now task.directive.now) visits window member.initial member.path
    → IsKeptFor task visits window member
path-kept task visits window member within is = record {
  visits_are = is.0;
  keeps = open-keeps task.netlist.now (violation_of task.unit.now task.directive.now) task.options.depth visits window
      member.initial member.path within is.1;
}

-- what is open at a larger window keeps this one open
pub ahead-kept : (task : Task) (visits window ahead : ℕ) (member : OpenPath) → window ≤ ahead → ahead ≤ task.options.depth
    → IsAhead task visits ahead member → IsKeptFor task visits window member
ahead-kept task visits window ahead member longer within is = record {
  visits_are = is.visits_are;
  keeps = subst (λ (kind : Truth). KeepsOpen task.netlist.now (violation_of task.unit.now task.directive.now) task.options.depth
      visits window kind member.path) (sym is.other) (ahead, longer, within, is.is);
}

-- a path that keeps the window before open, and passes the test
one-larger : (design : Design) (automaton : Automaton) (depth visits window : ℕ) (initial : Truth) (path : JointPath)
    → (initial || nat_lt window (length path.states)) ≡ true → KeepsOpen design automaton depth visits (window - 1) initial path
    → KeepsOpen design automaton depth visits window initial path
one-larger design automaton depth visits window true path test keeps = record {
  joint = keeps.joint;
  few = omega (arith, keeps.few);
  first = keeps.first;
  last = keeps.last;
}
one-larger design automaton depth visits window false path test keeps =
    (keeps.0, omega (arith, ltb-true window (length path.states) test, keeps.3.many), keeps.2, keeps.3)

pub next-kept : (task : Task) (visits window : ℕ) (member : OpenPath) → keeps_at window member ≡ true
    → IsKeptFor task visits (window - 1) member → IsKeptFor task visits window member
next-kept task visits window member test is = record {
  visits_are = is.visits_are;
  keeps = one-larger task.netlist.now (violation_of task.unit.now task.directive.now) task.options.depth visits window
      member.initial member.path test is.keeps;
}

-- at the window of the depth they are open themselves
at-depth : (design : Design) (automaton : Automaton) (depth visits : ℕ) (initial : Truth) (path : JointPath)
    → KeepsOpen design automaton depth visits depth initial path → IsOpen design automaton visits depth initial path
at-depth design automaton depth visits true path keeps = keeps
at-depth design automaton depth visits false path keeps =
    subst (λ (n : ℕ). IsOpenOther design automaton visits n path) (omega (arith, keeps.1, keeps.2)) keeps.3

kept-paths : (task : Task) (window : ℕ) (paths : List OpenPath) → window ≡ task.options.depth
    → AreKeptFor task (suc task.options.visits) window paths
    → AreOpenPaths task.netlist.now task.unit.now task.directive.now (suc task.options.visits) task.options.depth paths
kept-paths task window paths last are = record {
  many = are.many;
  each = λ visits member at. (
    (are.each visits member at).visits_are,
    at-depth task.netlist.now (violation_of task.unit.now task.directive.now) task.options.depth visits member.initial member.path
        (subst (λ (n : ℕ). KeepsOpen task.netlist.now (violation_of task.unit.now task.directive.now) task.options.depth visits n
        member.initial member.path) last (are.each visits member at).keeps),
  );
}

-- behind the last window nothing is decided
pub undecided : (task : Task) (window : ℕ) (searched : Searched) (paths new : List OpenPath) → window ≡ task.options.depth
    → IsSearchedTo task window searched → AreKeptFor task (suc task.options.visits) window paths → new ≡ paths
    → IsUndecided task.netlist.now task.unit.now task.directive.now task.options new
undecided task window searched paths new last is are same = record {
  none_within = none-fewer task.netlist.now task.unit.now task.directive.now (suc searched.none_within) (suc task.options.depth)
      (omega (arith, is.reaches, last)) is.none;
  each_open = subst (λ (ps : List OpenPath). AreOpenPaths task.netlist.now task.unit.now task.directive.now (suc task.options.visits)
      task.options.depth ps) (sym same) (kept-paths task window paths last are);
}

-- what was searched to the window before may reach this one
pub reaches-on : (task : Task) (window : ℕ) (searched new : Searched) → window ≤ searched.none_within
    → IsSearchedTo task (window - 1) searched → new ≡ searched → IsSearchedTo task window new
reaches-on task window searched new far is same = subst (λ (s : Searched). IsSearchedTo task window s) (sym same) (record {
  reaches = far;
  none = is.none;
})

-- no path keeps it open for no number of visits
pub none-kept : (task : Task) (window : ℕ) → AreKeptFor task 0 window []
none-kept task window = record {
  many = refl;
  each = λ visits member e. absurd cc;
}

-- a path more, for the next number of visits
pub one-kept : (task : Task) (count next window : ℕ) (paths new : List OpenPath) (path : OpenPath) → AreKeptFor task count window paths
    → IsKeptFor task count window path → new ≡ paths ++ path ∷ [] → next ≡ suc count → AreKeptFor task next window new
one-kept task count next window paths new path are is pushed counted =
    subst (λ (n : ℕ). AreKeptFor task n window new) (sym counted)
    (subst (λ (ps : List OpenPath). AreKeptFor task (suc count) window ps) (sym pushed) (record {
      many = omega (arith, length-append paths (path ∷ []), are.many);
      each = λ visits member at. elim (get-pushed paths path member visits at) [
        | inl there ↦ are.each visits member there
        | inr last ↦ subst (λ (n : ℕ). IsKeptFor task n window member) (sym (last.0 ∙ are.many))
            (subst (λ (p : OpenPath). IsKeptFor task count window p) (sym last.1) is)
      ];
    }))

-- the place that is written, and the others
got-set : {A : Type 0} (xs : List A) (place : ℕ) (x : A) → place < length xs → slice_get (slice_set xs place x) place ≡ Some x
got-set [] place x within = absurd (omega (arith, within))
got-set (y ∷ xs) zero x within = refl
got-set (y ∷ xs) (suc place) x within = got-set xs place x (omega (arith, within))

got-other : {A : Type 0} (xs : List A) (place other : ℕ) (x : A) → (other ≡ place → ⊥)
    → slice_get (slice_set xs place x) other ≡ slice_get xs other
got-other [] place other x differ = refl
got-other (y ∷ xs) zero zero x differ = absurd (differ refl)
got-other (y ∷ xs) zero (suc other) x differ = refl
got-other (y ∷ xs) (suc place) zero x differ = refl
got-other (y ∷ xs) (suc place) (suc other) x differ = got-other xs place other x (λ same. differ (ap suc same))

some-same : {A : Type 0} (x y : A) → Some x ≡ Some y → x ≡ y
some-same {A = A} x y e = ap (λ (o : Option A). unwrap_or o x) e

-- at first all keep the window before open
pub none-done : (task : Task) (window : ℕ) (paths : List OpenPath) → AreKeptFor task (suc task.options.visits) (window - 1) paths
    → AreKeptTo task 0 window paths
none-done task window paths are = record {
  many = are.many;
  done = λ visits member below at. absurd (omega (arith, below));
  left = λ visits member past at. are.each visits member at;
}

-- one of them keeps this one open too
pub next-done : (task : Task) (count next window : ℕ) (paths : List OpenPath) (path : OpenPath) → AreKeptTo task count window paths
    → slice_get paths count ≡ Some path → IsKeptFor task count window path → next ≡ suc count → AreKeptTo task next window paths
next-done task count next window paths path are at is counted = record {
  many = are.many;
  done = λ visits member below there. elim (cases_lt visits count) [
    | inl before ↦ are.done visits member before there
    | inr past ↦
        let same : visits ≡ count = omega (arith, below, past, counted) in
        subst (λ (n : ℕ). IsKeptFor task n window member) (sym same)
        (subst (λ (p : OpenPath). IsKeptFor task count window p)
        (some-same path member (sym at ∙ ap (slice_get paths) (sym same) ∙ there)) is)
  ];
  left = λ visits member past there. are.left visits member (omega (arith, past, counted)) there;
}

-- another one takes its place
pub next-set : (task : Task) (count next window : ℕ) (paths new : List OpenPath) (path : OpenPath) → AreKeptTo task count window paths
    → count < length paths → IsKeptFor task count window path → new ≡ slice_set paths count path → next ≡ suc count
    → AreKeptTo task next window new
next-set task count next window paths new path are within is put counted =
    subst (λ (ps : List OpenPath). AreKeptTo task next window ps) (sym put) (record {
      many = length-set paths count path ∙ are.many;
      done = λ visits member below there. elim (cases_eq visits count) [
        | inl same ↦ subst (λ (n : ℕ). IsKeptFor task n window member) (sym same)
            (subst (λ (p : OpenPath). IsKeptFor task count window p)
            (some-same path member (sym (got-set paths count path within) ∙ ap (slice_get (slice_set paths count path)) (sym same) ∙ there)) is)
        | inr other ↦ are.done visits member (omega (arith, below, counted, other)) (sym (got-other paths count visits path other) ∙ there)
      ];
      left = λ visits member past there. are.left visits member (omega (arith, past, counted))
          (sym (got-other paths count visits path (λ same. absurd (omega (arith, past, counted, same)))) ∙ there);
    })

-- in the end all do
pub all-done : (task : Task) (window : ℕ) (paths : List OpenPath) → AreKeptTo task (suc task.options.visits) window paths
    → AreKeptFor task (suc task.options.visits) window paths
all-done task window paths are = record {
  many = are.many;
  each = λ visits member at. are.done visits member (omega (arith, slice_get_within paths visits member at, are.many)) at;
}
