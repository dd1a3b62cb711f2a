-- What feeds signals through more and more tables and latches is the least closed cone in the end.
use Rattle.std.proofs.Common.{◌≡◌, ℕ, zero, suc, ◌<◌, ◌≤◌, ◌==◌, nat_lt, Bool, true, ◌||◌, ◌⊎◌, List, get_or, refl, sym, ap, ◌∙◌, subst, inl, inr, ⊎_elim, arith}
use Rattle.std.specs.Bool.{IsTrue}
use Rattle.std.specs.List.{All}
use Rattle.std.proofs.lemmas.Bool.{cases_Bool, eq-eqb, eqb-true, false≢true, lt-ltb, ltb-true}
use Rattle.netlist.specs.Design.{Design}
use Rattle.netlist.specs.Sound.{IsSound}
use Rattle.gates_frames.specs.Frames.{Cone, IsClosed}
use Rattle.gates_cone.specs.Cones.{HasAll, IsIn, IsLeast}
use Rattle.gates_cone.specs.Fed.{cone_in, fed, is_read}
use Rattle.gates_cone.proofs.Counting.{IsNew, count, count-all, count-new, in-or-new}
use Rattle.gates_cone.proofs.Reading.{at-some, closed-from, either-of, or-right, read-closed, read-more, some-at}

or-left : (a b : Bool) → a ≡ true → (a || b) ≡ true
or-left a b is = ap (λ x. x || b) is

module _ (design : Design) (signals : List ℕ) where
  fed-more : (k : ℕ) → IsIn (fed design signals k) (fed design signals (suc k))
  fed-more k signal is = or-left (fed design signals k signal) (is_read design (fed design signals k) signal) is

  fed-has : (k : ℕ) → HasAll (fed design signals k) signals
  fed-has zero i d lt = at-some (λ other. other == get_or signals i d) signals i d lt (eq-eqb (get_or signals i d) (get_or signals i d) refl)
  fed-has (suc k) i d lt = fed-more k (get_or signals i d) (fed-has k i d lt)

  fed-only : (other : Cone) → IsClosed design other → HasAll other signals → (k : ℕ) → IsIn (fed design signals k) other
  fed-only other closed has zero signal is =
      let at = some-at (λ s. s == signal) signals 0 is in
      subst (λ s. IsTrue (other s)) (eqb-true (get_or signals at.0 0) signal at.2) (has at.0 0 at.1)
  fed-only other closed has (suc k) signal is = ⊎_elim
      (λ old. fed-only other closed has k signal old)
      (λ new. read-closed design other closed signal (read-more design (fed design signals k) other (fed-only other closed has k) signal new))
      (either-of (fed design signals k signal) (is_read design (fed design signals k) signal) is)

  -- where a step finds nothing, no later one does
  abbrev Stays : ℕ → Type 0
  Stays k = IsIn (fed design signals (suc k)) (fed design signals k)

  stays-on : (k : ℕ) → Stays k → Stays (suc k)
  stays-on k stays signal is = ⊎_elim
      (λ old. old)
      (λ new. or-right (fed design signals k signal) (is_read design (fed design signals k) signal) (read-more design (fed design signals (suc k)) (fed design signals k) stays signal new))
      (either-of (fed design signals (suc k) signal) (is_read design (fed design signals (suc k)) signal) is)

  closed-where : (k : ℕ) → Stays k → IsClosed design (fed design signals k)
  closed-where k stays = closed-from design (fed design signals k) (λ signal is. stays signal (or-right (fed design signals k signal) (is_read design (fed design signals k) signal) is))

  module _ (sound : IsSound design) (inside : All (λ signal. signal < design.signals) signals) where
    -- all are signals of the netlist
    abbrev of_netlist : Cone
    of_netlist signal = nat_lt signal design.signals

    netlist-closed : IsClosed design of_netlist
    netlist-closed = record {
      tables = λ i d lt is place e below. lt-ltb (get_or (get_or design.tables i d).inputs place e) design.signals (sound.table_inputs i d lt place e below);
      latches = λ i d lt is. lt-ltb (get_or design.latches i d).input design.signals (sound.latch_inputs i d lt);
    }

    pub fed-within : (k signal : ℕ) → IsTrue (fed design signals k signal) → signal < design.signals
    fed-within k signal is =
        ltb-true signal design.signals (fed-only of_netlist netlist-closed (λ i d lt. lt-ltb (get_or signals i d) design.signals (inside i d lt)) k signal is)

    -- each step before one that finds nothing finds a signal
    abbrev Finds : ℕ → Type 0
    Finds k = Stays k ⊎ (k ≤ count (fed design signals k) design.signals)

    finds-next : (k : ℕ) → Finds k → Finds (suc k)
    finds-next k (inl stays) = inl (stays-on k stays)
    finds-next k (inr many) = ⊎_elim
        (λ all. inl (stays-on k (λ signal is. all signal (fed-within (suc k) signal is) is)))
        (λ (new : IsNew (fed design signals k) (fed design signals (suc k)) design.signals).
        (let more = count-new (fed design signals k) (fed design signals (suc k)) design.signals new.number (fed-more k) new.below new.old new.new in
        let enough : suc k ≤ count (fed design signals (suc k)) design.signals = omega arith in
        inr enough))
        (in-or-new (fed design signals k) (fed design signals (suc k)) design.signals)

    finds : (k : ℕ) → Finds k
    finds zero = inr (omega arith)
    finds (suc k) = finds-next k (finds k)

    stays-in_end : Finds design.signals → Stays design.signals
    stays-in_end (inl stays) = stays
    stays-in_end (inr all) = λ signal is. count-all (fed design signals design.signals) design.signals signal all (fed-within (suc design.signals) signal is)

    pub fed-least : IsLeast design signals (cone_in design signals)
    fed-least = record {
      has = fed-has design.signals;
      closed = closed-where design.signals (stays-in_end (finds design.signals));
      least = λ other closed has. fed-only other closed has design.signals;
    }

-- there is just one least cone
pub least-same : (design : Design) (signals : List ℕ) (cone other : Cone) → IsLeast design signals cone → IsLeast design signals other → (signal : ℕ) → cone signal ≡ other signal
least-same design signals cone other one two signal = elim (cases_Bool (cone signal)) [
  | inl is ↦ is ∙ sym (one.least other two.closed two.has signal is)
  | inr none ↦ elim (cases_Bool (other signal)) [
    | inl is ↦ absurd (false≢true (sym none ∙ two.least cone one.closed one.has signal is))
    | inr fails ↦ none ∙ sym fails
  ]
]
