-- What is kept of obligations: those that are owed, and those of them that are pending.
use Rattle.std.proofs.Common.{◌≡◌, inl, inr, sym, ap, ◌∙◌, subst, ℕ, ◌<◌, Bool as Truth, true, false, not, List, length, refl, arith}
use Rattle.std.specs.Prelude.{All, Contains, filter}
use Rattle.std.specs.List.{range_with_len}
use Rattle.std.proofs.lemmas.Bool.{cases_lt}
use Rattle.std.proofs.lemmas.List.Elements.{All-contains_itself, All-filter, All-weaker, filter_passes}
use Rattle.std.proofs.lemmas.List.Kept.{IsStrictlyIncreasing-filter}
use Rattle.alternating_theory.specs.Obligations.{Automaton}
use Rattle.joint_theory.specs.States.{is_accepting, is_asked, not_accepting, AreAsked}
use Rattle.joint_theory.specs.declared.path.JointState.{JointState}
use Rattle.psl_tree.specs.declared.letter.Letter.{Letter}
use Rattle.joint_theory.proofs.Numbers.{rising-range}
use Rattle.joint_theory.proofs.Rising.{range-all}
use Rattle.prover_open.specs.Standing.{AreRising, AreWaiting, IsPendingBy}

rising-all : (automaton : Automaton) → AreRising automaton (range_with_len 0 (length automaton.obligations))
rising-all automaton = record {
  rising = rising-range 0 (length automaton.obligations);
  below = range-all (λ number. number < length automaton.obligations) 0 (length automaton.obligations) (λ number low high. omega arith);
}

rising-some : (automaton : Automaton) (test : ℕ → Truth) (numbers : List ℕ) → AreRising automaton numbers → AreRising automaton (filter test numbers)
rising-some automaton test numbers are = record {
  rising = IsStrictlyIncreasing-filter test numbers are.rising;
  below = All-filter test (λ number. number < length automaton.obligations) numbers are.below;
}

not-true : (t : Truth) → not t ≡ true → t ≡ false
not-true false is = refl
not-true true is = sym is

waiting-all : (automaton : Automaton) (numbers : List ℕ) → AreRising automaton numbers → AreWaiting automaton numbers (not_accepting automaton numbers)
waiting-all automaton numbers are = record {
  numbers = rising-some automaton (λ number. not (is_accepting automaton number)) numbers are;
  among = All-filter (λ number. not (is_accepting automaton number)) (Contains numbers) numbers (All-contains_itself numbers);
  put_off = All-weaker (λ number. not (is_accepting automaton number) ≡ true) (λ number. is_accepting automaton number ≡ false)
      (λ number is. not-true (is_accepting automaton number) is) (not_accepting automaton numbers)
      (filter_passes (λ number. not (is_accepting automaton number)) numbers);
}

waiting-some : (automaton : Automaton) (test : ℕ → Truth) (numbers pending : List ℕ) → AreWaiting automaton numbers pending
    → AreWaiting automaton numbers (filter test pending)
waiting-some automaton test numbers pending are = record {
  numbers = rising-some automaton test pending are.numbers;
  among = All-filter test (Contains numbers) pending are.among;
  put_off = All-filter test (λ number. is_accepting automaton number ≡ false) pending are.put_off;
}

-- the same of what a program keeps and reads

pub all-rising : (automaton : Automaton) (count : ℕ) (all read : List ℕ) → count ≡ length automaton.obligations → all ≡ range_with_len 0 count → read ≡ all
    → AreRising automaton read
all-rising automaton count all read same is copied =
    subst (AreRising automaton) (sym (copied ∙ is ∙ ap (λ n. range_with_len 0 n) same)) (rising-all automaton)

pub some-rising : (automaton : Automaton) (test : ℕ → Truth) (read found : List ℕ) → AreRising automaton read → found ≡ filter test read → AreRising automaton found
some-rising automaton test read found are is = subst (AreRising automaton) (sym is) (rising-some automaton test read are)

pub all-waiting : (automaton : Automaton) (owed read waiting : List ℕ) → AreRising automaton owed → read ≡ owed → waiting ≡ not_accepting automaton read
    → AreWaiting automaton owed waiting
all-waiting automaton owed read waiting are copied is =
    subst (AreWaiting automaton owed) (sym (is ∙ ap (not_accepting automaton) copied)) (waiting-all automaton owed are)

pub some-waiting : (automaton : Automaton) (test : ℕ → Truth) (owed waiting read found : List ℕ) → AreWaiting automaton owed waiting → read ≡ waiting → found ≡ filter test read
    → AreWaiting automaton owed found
some-waiting automaton test owed waiting read found are copied is =
    subst (AreWaiting automaton owed) (sym (is ∙ ap (filter test) copied)) (waiting-some automaton test owed waiting are)

pub below-bound : (automaton : Automaton) (numbers read : List ℕ) (bound : ℕ) → AreRising automaton numbers → read ≡ numbers → bound ≡ length automaton.obligations
    → All (λ number. number < bound) read
below-bound automaton numbers read bound are copied same =
    subst (λ (list : List ℕ). All (λ number. number < bound) list) (sym copied)
    (subst (λ n. All (λ number. number < n) numbers) (sym same) are.below)

-- what passes the test of asking is asked for
pub some-asked : (automaton : Automaton) (letter : Letter) (by read others found : List ℕ) → read ≡ by → found ≡ filter (is_asked automaton letter read) others
    → AreAsked automaton letter by found
some-asked automaton letter by read others found copied is =
    subst (AreAsked automaton letter by) (sym is)
    (subst (λ (list : List ℕ). AreAsked automaton letter by (filter (is_asked automaton letter list) others)) (sym copied) (filter_passes (is_asked automaton letter by) others))

pub pending-by : (automaton : Automaton) (letter : Letter) (now : JointState) (test : ℕ → Truth) (owed read waiting by among asked found : List ℕ)
    → AreRising automaton owed → read ≡ owed → waiting ≡ not_accepting automaton read → by ≡ now.pending → among ≡ waiting
    → asked ≡ filter (is_asked automaton letter by) (filter test among)
    → (length now.pending ≡ 0 → found ≡ waiting) → (0 < length now.pending → found ≡ asked) → IsPendingBy automaton letter now owed found
pending-by automaton letter now test owed read waiting by among asked found are copied is same kept some anew more = record {
  waiting = elim (cases_lt 0 (length now.pending)) [
    | inl k ↦ subst (AreWaiting automaton owed) (sym (more k)) asked-waiting
    | inr k ↦ subst (AreWaiting automaton owed) (sym (anew (omega arith))) all
  ];
  anew = λ none. anew none ∙ is ∙ ap (not_accepting automaton) copied;
  asked = λ k. subst (AreAsked automaton letter now.pending) (sym (more k)) (some-asked automaton letter now.pending by (filter test among) asked same some);
}
  where
    all : AreWaiting automaton owed waiting
    all = all-waiting automaton owed read waiting are copied is

    asked-waiting : AreWaiting automaton owed asked
    asked-waiting = some-waiting automaton (is_asked automaton letter by) owed (filter test among) (filter test among) asked
        (some-waiting automaton test owed waiting among (filter test among) all kept refl) refl some
