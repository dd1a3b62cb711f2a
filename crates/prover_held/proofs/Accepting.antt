-- An automaton accepts the word of a run that holds its inputs where what is owed along the path is met and lasts.
use Rattle.std.proofs.Common.{subst, ◌≡◌, inl, inr, ℕ, suc, ◌-◌, ◌<◌, ◌≤◌, Bool, true, ◌&&◌, ◌||◌, List, length, refl, sym, ap, ◌∙◌, arith}
use Rattle.std.specs.Prelude.{◌==◌, nat_lt, if◌then◌else◌, IsTrue}
use Rattle.std.proofs.lemmas.Bool.{and_from, cases_lt, le-ltb, lt-ltb, ne_eqb, or_left, or_right}
use Rattle.alternating_theory.specs.Acceptance.{Accepts}
use Rattle.alternating_theory.specs.Courses as lasso
use Rattle.alternating_theory.specs.Obligations.{Automaton, Obligation, obligation_at}
use Rattle.alternating_theory.specs.Positive.{met}
use Rattle.alternating_theory.proofs.MetLaws.{met-more}
use Rattle.netlist.specs.Design.{Design}
use Rattle.netlist.specs.Runs.{valuation_at, word}
use Rattle.netlist.specs.declared.run.Run.{Run}
use Rattle.psl_tree.specs.Names.{AtomInRange}
use Rattle.psl_tree.specs.declared.letter.Letter.{Letter}
use Rattle.run_terms.specs.Automata.{IsSound, TestsSignals}
use Rattle.run_terms.specs.Letters.{before_at}
use Rattle.bounded_theory.specs.Numbers.{serves, IsSearched}
use Rattle.bounded_theory.proofs.Atoms.{atoms-of}
use Rattle.bounded_theory.proofs.Ranks.{numbers-accepted}
use Rattle.gates_frames.specs.Paths.{valuation_of}
use Rattle.prover_held.specs.Held.{IsHeldRun}
use Rattle.prover_held.specs.Lasting.{before_in, letter_in, IsMet, IsMetWhenHeld}
use Rattle.prover_held.proofs.SameInputs.{met-same}
use Rattle.prover_held.proofs.Places.{after, after-behind, after-path, again, behind-path, last, letter-in_path, letter-is, loop-some, places-are, stem-length}

module _ (d : Design) (a : Automaton) (path : List (List Bool)) (run : Run) (good : IsSound a) (tests : TestsSignals d a) (some : 0 < length path)
    (owed : ℕ → ℕ → Bool) (m : IsMet d a path owed) (held : IsHeldRun d path run) where
  abbrev n : ℕ
  n = length path

  abbrev len : ℕ
  len = length a.obligations

  abbrev look : ℕ → Obligation
  look = obligation_at a.obligations

  abbrev high : ℕ
  high = last d path run held

  abbrev next : ℕ → ℕ
  next = after d path run held

  abbrev letter : ℕ → Letter
  letter = lasso.letter_at (word d run)

  -- what lasts is owed at each place behind the path
  abbrev owing : ℕ → ℕ → Bool
  owing place number = if nat_lt place n then owed place number else owed n number

  early : (place number : ℕ) → place < n → owing place number ≡ owed place number
  early place number low = rw (lt-ltb place n low) refl

  late : (place number : ℕ) → n ≤ place → owing place number ≡ owed n number
  late place number low = rw (le-ltb place n low) refl

  abbrev served : ℕ → ℕ → ℕ → Bool
  served place number other = serves a (place == high) number 0 other 0

  served-early : (place number other : ℕ) → place < n → IsTrue (served place number other)
  served-early place number other low =
      subst (λ (t : Bool). IsTrue (serves a t number 0 other 0)) (sym (ne_eqb place high (λ e. omega (arith, stem-length d path run held, held.is.loops))))
      (or_right ((look number).accepting || (look other).accepting) true refl)

  owing-next : (place number : ℕ) → place < n → IsTrue (owed (suc place) number) → IsTrue (owing (next place) number)
  owing-next place number low v = ap (λ p. owing p number) (after-path d path run held place low) ∙ elim (cases_lt (suc place) n) [
    | inl k ↦ early (suc place) number k ∙ v
    | inr k ↦ let e : n ≡ suc place = omega arith in late (suc place) number k ∙ ap (λ p. owed p number) e ∙ v
  ]

  meets-early : (place number : ℕ) → place < n → number < len → IsTrue (owing place number)
      → IsTrue (met (look number).delta (letter place) (λ other. owing (next place) other && served place number other))
  meets-early place number low small v =
      met-more 0 len (look number).delta (good.owed number small) (letter place) (owed (suc place)) (λ other. owing (next place) other && served place number other)
      (λ other _ _ w. and_from (owing (next place) other) (served place number other) (owing-next place other low w) (served-early place number other low))
      (subst (λ (x : Letter). IsTrue (met (look number).delta x (owed (suc place)))) (sym (letter-in_path d path run held place low))
      (m.meets place number low small (sym (early place number low) ∙ v)))

  meets-late : (place number : ℕ) → n ≤ place → place ≤ high → number < len → IsTrue (owing place number)
      → IsTrue (met (look number).delta (letter place) (λ other. owing (next place) other && served place number other))
  meets-late place number low below small v =
      let asked : IsTrue (owed n number) = sym (late place number low) ∙ v in
      let same : met (look number).delta (letter place) (owed n) ≡ met (look number).delta (letter_in d path (n - 1)) (owed n) =
      ap (λ (x : Letter). met (look number).delta x (owed n)) (letter-is d path run held place below)
      ∙ met-same d.names d.inputs (before_at run place) (before_in path (n - 1)) (valuation_at run place) (valuation_of path (n - 1))
      (behind-path d path run held place low below) (owed n) (look number).delta (atoms-of (AtomInRange d.names) a.obligations tests number small)
      (m.lasts.inputs number small asked) in
      met-more 0 len (look number).delta (good.owed number small) (letter place) (owed n) (λ other. owing (next place) other && served place number other)
      (λ other _ fits w. and_from (owing (next place) other) (served place number other) (late (next place) other (after-behind d path run held place low below) ∙ w)
      (or_left ((look number).accepting || (look other).accepting) _ (or_right (look number).accepting (look other).accepting (m.lasts.accepting other fits w))))
      (same ∙ m.lasts.met number small asked)

  searched : IsSearched a high (again d path run held) letter owing (λ place number. 0)
  searched = record {
    begins = early 0 a.start some ∙ m.begins;
    meets = λ place number below small v. elim (cases_lt place n) [
      | inl k ↦ meets-early place number k small v
      | inr k ↦ meets-late place number k below small v
    ];
  }

  accepted : Accepts a (word d run)
  accepted = numbers-accepted a (word d run) high owing (λ place number. 0) good (loop-some d path run held) (places-are d path run held) searched

pub held-accepted : (d : Design) (a : Automaton) (path : List (List Bool)) (run : Run) → IsSound a → TestsSignals d a → 0 < length path
    → IsMetWhenHeld d a path → IsHeldRun d path run → Accepts a (word d run)
held-accepted d a path run good tests some found held = accepted d a path run good tests some found.0 found.1 held
