-- Searches for inductive clauses, one for each number of visits: what they find proves the directive, and where each has
-- ended without any, it is left open.
use Rattle.std.proofs.Common.{◌≡◌, refl, ◌∙◌, ap, sym, subst, ℕ, suc, ◌<◌, ◌≤◌, ℤ, Bool as Truth, true, false, if◌then◌else◌, List, [], ◌∷◌, ◌++◌, length, slice_get, Option, IfSome, inl, inr, arith, length-append}
use Rattle.alternating_theory.specs.Obligations.{Automaton}
use Rattle.clauses.specs.Logs.{LogEntry}
use Rattle.joint.specs.Joined.{Joined}
use Rattle.joint_theory.proofs.Soundness.{inductive-none}
use Rattle.owed.proofs.Violating.{violating-runs}
use Rattle.owed.specs.Violations.{violation_of}
use Rattle.reach.specs.Answers.{AreInductive, IsReached}
use Rattle.reach.specs.Searched.{Searched}
use Rattle.reach.specs.declared.answer.Reached.{Reached}
use Rattle.reach.specs.declared.answer.Reached.TheVariants.{Inductive, Path, Open, Spent, LogFull, Large}
use Rattle.prover.proofs.Kept.{some-member}
use Rattle.prover.proofs.Opened.{get-pushed}
use Rattle.prover.specs.Ends.{is_inductive}
use Rattle.prover.specs.Proving.{IsProvedReach}
use Rattle.prover.specs.Reaching.{joint_for, searches_of, AreEndsFor, AreJointsFor, HaveCome, HaveEnded, IsBegun, IsEndFor}
use Rattle.prover.specs.Views.{IsJointOf}
use Rattle.prover.specs.declared.options.Options.{Options}
use Rattle.prover.specs.declared.task.Task.{Task}

-- inductive clauses prove the directive
pub proved-reach : (task : Task) (visits : ℕ) (clauses : List (List ℤ)) (initial step bad : List LogEntry)
    → task.options.reach ≡ true → visits ≤ task.options.visits → HaveEnded task visits
    → AreInductive (joint_for task visits) task.options.steps clauses initial step bad
    → IsProvedReach task.netlist.now task.unit.now task.directive.now task.options
    (record { assertion = task.directive.now.number; visits = visits; clauses = clauses; initial = initial; step = step; bad = bad })
proved-reach task visits clauses initial step bad asked few fewer are = record {
  asked = asked;
  number = refl;
  visits = few;
  inductive = are;
  fewer = fewer;
  satisfied = λ run is. (violating-runs task.netlist.now task.unit.now task.directive.now run is.loops).satisfied
      (inductive-none task.netlist.now (violation_of task.unit.now task.directive.now) visits clauses are.inductive run is);
}

-- what is not an answer of inductive clauses
pub other-end : (reached : Reached)
    → ((clauses : List (List ℤ)) (initial step bad : List LogEntry) → reached ≡ Inductive clauses initial step bad → ⊥)
    → is_inductive reached ≡ false
other-end (Inductive clauses initial step bad) other = absurd (other clauses initial step bad refl)
other-end (Path path) other = refl
other-end (Open frames) other = refl
other-end (Spent query log) other = refl
other-end (LogFull query log) other = refl
other-end (Large query) other = refl

-- a number of visits that is searched for is one of the options, which ask for it
within-asked : (asked : Truth) (most visits : ℕ) → visits < (if asked then suc most else 0) → (asked ≡ true) × (visits ≤ most)
within-asked true most visits below = (refl, omega (arith, below))
within-asked false most visits below = absurd (omega (arith, below))

pub within-searches : (options : Options) (visits : ℕ) → visits < searches_of options
    → (options.reach ≡ true) × (visits ≤ options.visits)
within-searches options visits below = within-asked options.reach options.visits visits below

-- the joint states for so many visits, of an automaton that is that of the violations
pub joint-is : (task : Task) (visits : ℕ) (automaton : Automaton) (joint : Joined)
    → automaton ≡ violation_of task.unit.now task.directive.now
    → joint ≡ record { design = task.netlist.now; automaton = automaton; visits = visits } → IsJointOf task visits joint
joint-is task visits automaton joint of is =
    is ∙ ap (λ (a : Automaton). record { design = task.netlist.now; automaton = a; visits = visits }) of

-- one more of them
pub one-joint : (task : Task) (visits next : ℕ) (joints new : List Joined) (joint : Joined) → AreJointsFor task visits joints
    → IsJointOf task visits joint → new ≡ joints ++ joint ∷ [] → next ≡ suc visits → AreJointsFor task next new
one-joint task visits next joints new joint are has is next-is = record {
  many = ap length is ∙ length-append joints (joint ∷ []) ∙ omega (arith, are.many, next-is);
  each = λ place other at. elim (get-pushed joints joint other place (sym (ap (λ (js : List Joined). slice_get js place) is) ∙ at)) [
    | inl there ↦ are.each place other there
    | inr last ↦ subst (λ (j : Joined). IsJointOf task place j) (sym last.1)
        (subst (λ (n : ℕ). IsJointOf task n joint) (sym are.many ∙ sym last.0) has)
  ];
}

-- one more of the ends
pub one-end : (task : Task) (visits next : ℕ) (ends new : List Reached) (end : Reached) → AreEndsFor task visits ends
    → IsEndFor task visits end → new ≡ ends ++ end ∷ [] → next ≡ suc visits → AreEndsFor task next new
one-end task visits next ends new end are has is next-is = record {
  many = ap length is ∙ length-append ends (end ∷ []) ∙ omega (arith, are.many, next-is);
  each = λ place other at. elim (get-pushed ends end other place (sym (ap (λ (es : List Reached). slice_get es place) is) ∙ at)) [
    | inl there ↦ are.each place other there
    | inr last ↦ subst (λ (e : Reached). IsEndFor task place e) (sym last.1)
        (subst (λ (n : ℕ). IsEndFor task n end) (sym are.many ∙ sym last.0) has)
  ];
}

-- the ends of so many numbers of visits show that each has ended
pub have-ended : (task : Task) (count : ℕ) (ends : List Reached) → AreEndsFor task count ends → HaveEnded task count
have-ended task count ends are visits below =
    let at = some-member ends visits (omega (arith, are.many, below)) in
    (at.0, are.each visits at.0 at.1)

-- what a search over the joint states for some visits answers
pub reached-for : (task : Task) (visits : ℕ) (joint : Joined) (search : Searched) (reached : Reached) → joint ≡ joint_for task visits
    → IsBegun task joint search → IsReached search.joined search.most search.steps reached
    → IsReached (joint_for task visits) task.options.depth task.options.steps reached
reached-for task visits joint search reached of begun is =
    subst (λ (j : Joined). IsReached j task.options.depth task.options.steps reached) of
    (subst (λ (s : Searched). IsReached s.joined s.most s.steps reached) begun is)

-- so it is where the search for the next number has begun
pub come-to : (task : Task) (visits : ℕ) (ends : List Reached) (begun search : Option Searched) → HaveCome task visits ends begun
    → IfSome search (IsBegun task (joint_for task visits)) → HaveCome task (length ends) ends search
come-to task visits ends begun search come is = subst (λ (n : ℕ). HaveCome task n ends search) (sym come.each_end.many) (record {
  few = come.few;
  each_end = come.each_end;
  begun = is;
})

-- a number of visits that is sought: clauses are sought, and it is no more than the most visits
pub is-sought : (reach : Truth) (most visits : ℕ) → visits < (if reach then suc most else 0) → (reach ≡ true) × (visits ≤ most)
is-sought true most visits less = (refl, omega (arith, less))
is-sought false most visits less = absurd (omega (arith, less))
