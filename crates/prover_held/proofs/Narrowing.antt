-- Dropping the obligations that do not last.
use Rattle.std.proofs.Common.{subst, ◌≡◌, inl, inr, ℕ, zero, suc, ◌+◌, ◌<◌, ◌≤◌, Bool, true, false, not, ◌&&◌, ◌||◌, List, [], ◌∷◌, length, set, refl, sym, ap, ◌∙◌, arith, length-set, get_or-set_same, get_or-set_other}
use Rattle.std.specs.Prelude.{if◌then◌else◌, IsTrue}
use Rattle.std.proofs.lemmas.Bool.{both_ways, cases_lt, false≢true}
use Rattle.alternating_theory.specs.Obligations.{Automaton, Obligation, obligation_at}
use Rattle.alternating_theory.specs.Positive.{met}
use Rattle.alternating_theory.proofs.MetLaws.{met-more}
use Rattle.netlist.specs.Design.{Design}
use Rattle.netlist.specs.Valuations.{bit}
use Rattle.psl_tree.specs.declared.letter.Letter.{Letter}
use Rattle.run_terms.specs.Automata.{IsSound}
use Rattle.prover_held.specs.Judged.{count_kept, last_letter, AreCandidates, IsLargest, Narrows, Sweeps}
use Rattle.prover_held.proofs.Pigeons.{equal_cases}

-- dropping one lessens the count
count-drop : (kept : List Bool) (number : ℕ) → IsTrue (bit kept number) → count_kept (set kept number false) < count_kept kept
count-drop [] number h = absurd (false≢true h)
count-drop (true ∷ kept) zero h = omega arith
count-drop (false ∷ kept) zero h = absurd (false≢true h)
count-drop (true ∷ kept) (suc number) h = let rest = count-drop kept number h in omega arith
count-drop (false ∷ kept) (suc number) h = let rest = count-drop kept number h in omega arith

-- what is not so
unmet-false : (here now : Bool) → (here && not now) ≡ false → IsTrue here → IsTrue now
unmet-false true true h k = refl
unmet-false true false h k = absurd (false≢true (sym h))
unmet-false false now h k = absurd (false≢true k)

unmet-true : (here now : Bool) → (here && not now) ≡ true → IsTrue here × (now ≡ false)
unmet-true true true h = absurd (false≢true h)
unmet-true true false h = (refl, refl)
unmet-true false now h = absurd (false≢true h)

module _ (d : Design) (a : Automaton) (path : List (List Bool)) where
  abbrev look : ℕ → Obligation
  look = obligation_at a.obligations

  abbrev len : ℕ
  len = length a.obligations

  abbrev letter : Letter
  letter = last_letter d path

  pub sweep-begun : (kept : List Bool) → Sweeps d a path 0 kept kept false
  sweep-begun kept = record {
    long = refl;
    below = λ number h. h;
    largest = λ other lasts among. among;
    same = λ _. refl;
    meets = λ _ number low h. absurd (omega arith);
    fewer = λ h. absurd (false≢true h);
  }

  -- an obligation that stays
  sweep-stays : (upto : ℕ) (old new : List Bool) (more : Bool) → Sweeps d a path upto old new more
      → (bit new upto && not (met (look upto).delta letter (bit new))) ≡ false → Sweeps d a path (upto + 1) old new more
  sweep-stays upto old new more swept stays = record {
    long = swept.long;
    below = swept.below;
    largest = swept.largest;
    same = swept.same;
    meets = λ none number low h. elim (cases_lt number upto) [
      | inl k ↦ swept.meets none number k h
      | inr k ↦
          let e : upto ≡ number = omega arith in
          subst (λ (n : ℕ). IsTrue (bit new n) → IsTrue (met (look n).delta letter (bit new))) e
          (unmet-false (bit new upto) (met (look upto).delta letter (bit new)) stays) h
    ];
    fewer = swept.fewer;
  }

  count-swept : (upto : ℕ) (old new : List Bool) (more : Bool) → Sweeps d a path upto old new more → count_kept new ≤ count_kept old
  count-swept upto old new true swept = let less = swept.fewer refl in omega arith
  count-swept upto old new false swept = let e = ap count_kept (swept.same refl) in omega arith

  -- an obligation that is dropped
  sweep-drops : IsSound a → (upto : ℕ) (old new : List Bool) (more : Bool) → upto < len → length old ≡ len → Sweeps d a path upto old new more
      → (bit new upto && not (met (look upto).delta letter (bit new))) ≡ true → Sweeps d a path (upto + 1) old (set new upto false) true
  sweep-drops good upto old new more small size swept drops = record {
    long = length-set new upto false ∙ swept.long;
    below = λ number h. swept.below number (kept number h);
    largest = λ other lasts among number low h. elim (equal_cases number upto) [
      | inl e ↦
          let here : IsTrue (other upto) = sym (ap other e) ∙ h in
          let now : IsTrue (met (look upto).delta letter (bit new)) =
          met-more 0 len (look upto).delta (good.owed upto small) letter other (bit new) (λ q _ fits v. swept.largest other lasts among q fits v)
          (lasts.met upto small here) in
          absurd (both_ways (met (look upto).delta letter (bit new)) parts.1 now)
      | inr apart ↦ get_or-set_other new upto number false false apart ∙ swept.largest other lasts among number low h
    ];
    same = λ h. absurd (false≢true (sym h));
    meets = λ h number low v. absurd (false≢true (sym h));
    fewer = λ _. omega (arith, count-drop new upto parts.0, count-swept upto old new more swept);
  }
    where
      parts : IsTrue (bit new upto) × (met (look upto).delta letter (bit new) ≡ false)
      parts = unmet-true (bit new upto) (met (look upto).delta letter (bit new)) drops

      kept : (number : ℕ) → IsTrue (bit (set new upto false) number) → IsTrue (bit new number)
      kept number h = elim (equal_cases number upto) [
        | inl e ↦
            absurd (false≢true (sym (get_or-set_same new upto false false (omega (arith, size, swept.long))) ∙ sym (ap (bit (set new upto false)) e) ∙ h))
        | inr apart ↦ sym (get_or-set_other new upto number false false apart) ∙ h
      ]

  sweep-more : IsSound a → (upto : ℕ) (old new later : List Bool) (more dropped : Bool) → upto < len → length old ≡ len → Sweeps d a path upto old new more
      → dropped ≡ (bit new upto && not (met (look upto).delta letter (bit new))) → later ≡ (if dropped then set new upto false else new)
      → Sweeps d a path (upto + 1) old later (dropped || more)
  sweep-more good upto old new later more true small size swept unmet is =
      subst (λ (v : List Bool). Sweeps d a path (upto + 1) old v true) (sym is) (sweep-drops good upto old new more small size swept (sym unmet))
  sweep-more good upto old new later more false small size swept unmet is =
      subst (λ (v : List Bool). Sweeps d a path (upto + 1) old v more) (sym is) (sweep-stays upto old new more swept (sym unmet))

  pub sweep-then : IsSound a → (upto : ℕ) (old new later : List Bool) (more dropped : Bool) → upto < len → length old ≡ len → Sweeps d a path upto old new more
      → dropped ≡ (bit new upto && not (met (look upto).delta letter (bit new))) → later ≡ (if dropped then set new upto false else new)
      → dropped ≡ true → Sweeps d a path (upto + 1) old later true
  sweep-then good upto old new later more dropped small size swept unmet is so =
      subst (λ (t : Bool). Sweeps d a path (upto + 1) old later (t || more)) so (sweep-more good upto old new later more dropped small size swept unmet is)

  pub sweep-else : IsSound a → (upto : ℕ) (old new later : List Bool) (more dropped : Bool) → upto < len → length old ≡ len → Sweeps d a path upto old new more
      → dropped ≡ (bit new upto && not (met (look upto).delta letter (bit new))) → later ≡ (if dropped then set new upto false else new)
      → dropped ≡ false → Sweeps d a path (upto + 1) old later more
  sweep-else good upto old new later more dropped small size swept unmet is so =
      subst (λ (t : Bool). Sweeps d a path (upto + 1) old later (t || more)) so (sweep-more good upto old new later more dropped small size swept unmet is)

  pub narrows-begun : (kept : List Bool) → AreCandidates d a kept → Narrows d a path kept true
  narrows-begun kept found = record {
    long = found.long;
    candidates = λ number low h. (found.each number low).0 h;
    largest = λ other lasts number low h. (found.each number low).1 (lasts.accepting number low h, lasts.inputs number low h);
    meets = λ h number low v. absurd (false≢true (sym h));
  }

  pub narrows-more : (kept later : List Bool) (more again : Bool) → Narrows d a path kept more → Sweeps d a path len kept later again → Narrows d a path later again
  narrows-more kept later more again narrow swept = record {
    long = swept.long ∙ narrow.long;
    candidates = λ number low h. narrow.candidates number low (swept.below number h);
    largest = λ other lasts. swept.largest other lasts (narrow.largest other lasts);
    meets = swept.meets;
  }

  -- each pass but the last one lessens the count
  pub narrows-less : (kept later : List Bool) (again : Bool) → Sweeps d a path len kept later again
      → count_kept later + (if again then 1 else 0) < count_kept kept + 1
  narrows-less kept later true swept = let less = swept.fewer refl in omega arith
  narrows-less kept later false swept = let e = ap count_kept (swept.same refl) in omega arith

  pub narrows-done : (kept : List Bool) → Narrows d a path kept false → IsLargest d a path kept
  narrows-done kept narrow = record {
    long = narrow.long;
    lasts = record {
      accepting = λ number low h. (narrow.candidates number low h).0;
      inputs = λ number low h. (narrow.candidates number low h).1;
      met = narrow.meets refl;
    };
    largest = narrow.largest;
  }
