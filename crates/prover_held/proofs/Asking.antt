-- What is met at the places of a path, from its end to its beginning.
use Rattle.std.proofs.Common.{subst, ◌≡◌, ℕ, zero, suc, ◌+◌, ◌-◌, ◌<◌, Bool, List, length, sym, ap, ◌∙◌, arith}
use Rattle.std.specs.Prelude.{IsTrue, ◌↔◌}
use Rattle.alternating_theory.specs.Obligations.{Automaton, Obligation, obligation_at}
use Rattle.alternating_theory.specs.Positive.{met}
use Rattle.alternating_theory.proofs.MetLaws.{met-more, met-same}
use Rattle.netlist.specs.Design.{Design}
use Rattle.netlist.specs.Valuations.{bit}
use Rattle.run_terms.specs.Automata.{IsSound}
use Rattle.prover_held.specs.Judged.{asked, last_letter, AreAsked, IsLargest}
use Rattle.prover_held.specs.Lasting.{letter_in, IsMet, IsMetWhenHeld, Last}

module _ (d : Design) (a : Automaton) (path : List (List Bool)) (good : IsSound a) where
  abbrev n : ℕ
  n = length path

  abbrev look : ℕ → Obligation
  look = obligation_at a.obligations

  abbrev len : ℕ
  len = length a.obligations

  pub asked-begun : (kept found : List Bool) → length kept ≡ len → found ≡ kept → AreAsked d a path (bit kept) 0 found
  asked-begun kept found size is = record {
    long = ap (λ (v : List Bool). length v) is ∙ size;
    each = λ number low. ap (λ (v : List Bool). bit v number) is;
  }

  pub asked-more : (kept : ℕ → Bool) (count place : ℕ) (next found : List Bool) → suc (place + count) ≡ n → AreAsked d a path kept count next → length found ≡ len
      → ((number : ℕ) → number < len → bit found number ≡ met (look number).delta (letter_in d path place) (bit next))
      → AreAsked d a path kept (suc count) found
  asked-more kept count place next found here before size each = record {
    long = size;
    each = λ number low.
        let e : place ≡ n - suc count = omega arith in
        each number low
        ∙ met-same 0 len (look number).delta (good.owed number low) (letter_in d path place) (bit next) (asked d a path kept count) (λ q _ fits. before.each q fits)
        ∙ ap (λ p. met (look number).delta (letter_in d path p) (asked d a path kept count)) e;
  }

  -- what is owed is asked
  owed-asked : (owed : ℕ → ℕ → Bool) (kept : ℕ → Bool) → IsMet d a path owed → ((number : ℕ) → number < len → IsTrue (owed n number) → IsTrue (kept number))
      → (count place number : ℕ) → place + count ≡ n → number < len → IsTrue (owed place number) → IsTrue (asked d a path kept count number)
  owed-asked owed kept m last zero place number here low h = let e : place ≡ n = omega arith in last number low (sym (ap (λ p. owed p number) e) ∙ h)
  owed-asked owed kept m last (suc count) place number here low h =
      let e : place ≡ n - suc count = omega arith in
      subst (λ p. IsTrue (met (look number).delta (letter_in d path p) (asked d a path kept count))) e
      (met-more 0 len (look number).delta (good.owed number low) (letter_in d path place) (owed (suc place)) (asked d a path kept count)
      (λ q _ fits v. owed-asked owed kept m last count (suc place) q (omega arith) fits v)
      (m.meets place number (omega arith) low h))

  -- what is asked at each place
  abbrev owing : (ℕ → Bool) → ℕ → ℕ → Bool
  owing kept place number = asked d a path kept (n - place) number

  asked-met : (kept : ℕ → Bool) → IsTrue (asked d a path kept n a.start) → Last d a (last_letter d path) kept → IsMet d a path (owing kept)
  asked-met kept begin lasts = record {
    begins = let e : n ≡ n - 0 = omega arith in subst (λ k. IsTrue (asked d a path kept k a.start)) e begin;
    meets = λ place number here low h.
        let e : n - place ≡ suc (n - suc place) = omega arith in
        let back : n - suc (n - suc place) ≡ place = omega arith in
        subst (λ p. IsTrue (met (look number).delta (letter_in d path p) (asked d a path kept (n - suc place)))) back
        (subst (λ k. IsTrue (asked d a path kept k number)) e h);
    lasts = let e : 0 ≡ n - n = omega arith in subst (λ k. Last d a (last_letter d path) (asked d a path kept k)) e lasts;
  }

  pub asked-tells : (kept found : List Bool) → IsLargest d a path kept → AreAsked d a path (bit kept) n found → IsTrue (bit found a.start) ↔ IsMetWhenHeld d a path
  asked-tells kept found largest all = (
    (λ h. (owing (bit kept), asked-met (bit kept) (sym (all.each a.start good.start) ∙ h) largest.lasts)),
    (λ m. all.each a.start good.start
        ∙ owed-asked m.0 (bit kept) m.1 (λ number low h. largest.largest (m.0 n) m.1.lasts number low h) n 0 a.start (omega arith) good.start m.1.begins),
  )
