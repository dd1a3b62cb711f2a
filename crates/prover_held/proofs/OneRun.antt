-- Two runs that hold the inputs of one path go through the same valuations.
use Rattle.std.proofs.Common.{subst, ◌≡◌, ◌⊎◌, inl, inr, ℕ, zero, suc, ◌<◌, ◌≤◌, Bool, List, [], ◌∷◌, ◌++◌, map, length, Option, Some, refl, sym, ap, ◌∙◌, arith}
use Rattle.std.proofs.lemmas.Bool.{cases_lt}
use Rattle.std.proofs.lemmas.List.{map-append}
use Rattle.alternating_theory.specs.Courses as lasso
use Rattle.alternating_theory.specs.Courses.{next_place, walk}
use Rattle.alternating_theory.proofs.Words.{word_read}
use Rattle.netlist.specs.Design.{Design, free_of}
use Rattle.netlist.specs.Runs.{valuation_at, word}
use Rattle.netlist.specs.Sound.{IsOrder, IsSound}
use Rattle.netlist.specs.Valuations.{bit, values, IsStep, Move}
use Rattle.netlist.specs.declared.latch.Latch.{Latch}
use Rattle.netlist.specs.declared.run.Run.{Run}
use Rattle.netlist.proofs.Uniqueness.{one-valuation}
use Rattle.psl_tree.specs.Trace.{trace_of}
use Rattle.run_terms.specs.Letters.{before_at, letter_after}
use Rattle.bounded_theory.proofs.Ranks.{next-after}
use Rattle.prover_held.specs.Held.{IsHeldRun}
use Rattle.prover_held.proofs.Places.{after, after-behind, after-path, after-within, before-after, behind-path, in-path, last, letter-is, loop-some, places-are, step-after}

-- the outputs of latches that moved from one valuation
moved : (latches : List Latch) (earlier left right : List Bool) → Move latches earlier left → Move latches earlier right
    → values left (map (λ latch. latch.output) latches) ≡ values right (map (λ latch. latch.output) latches)
moved [] earlier left right one two = refl
moved (latch ∷ latches) earlier left right one two =
    let here : bit left latch.output ≡ bit right latch.output = one 0 latch (omega arith) ∙ sym (two 0 latch (omega arith)) in
    let rest = moved latches earlier left right (λ k other low. one (suc k) other (omega arith)) (λ k other low. two (suc k) other (omega arith)) in
    cc

-- the valuation after another one follows from its inputs
pub same-next : (d : Design) (order : List ℕ) → IsSound d → IsOrder d.tables order → (earlier left right : List Bool)
    → IsStep d earlier left → IsStep d earlier right → values left d.inputs ≡ values right d.inputs → left ≡ right
same-next d order sound ordered earlier left right one two same =
    let outputs = map (λ (latch : Latch). latch.output) d.latches in
    let free : values right (free_of d) ≡ values left (free_of d) =
    map-append (bit right) d.inputs outputs
    ∙ ap (λ (front : List Bool). front ++ values right outputs) (sym same)
    ∙ ap (λ (back : List Bool). values left d.inputs ++ back) (sym (moved d.latches earlier left right one.latches two.latches))
    ∙ sym (map-append (bit left) d.inputs outputs) in
    one-valuation d order sound ordered (values left (free_of d)) left right (record { is = one.after; has = refl }) (record { is = two.after; has = free })

module _ (d : Design) (order : List ℕ) (sound : IsSound d) (ordered : IsOrder d.tables order) (path : List (List Bool)) (some : 0 < length path)
    (first second : Run) (one : IsHeldRun d path first) (two : IsHeldRun d path second) where
  abbrev n : ℕ
  n = length path

  -- both places are one of the path, or both are behind it
  abbrev Abreast : ℕ → ℕ → Type 0
  Abreast p q = ((p ≡ q) × (p < n)) ⊎ ((n ≤ p) × (n ≤ q))

  -- places of both runs with one letter
  record Paired (p q : ℕ) : Type 0 where
    left : p ≤ last d path first one
    right : q ≤ last d path second two
    abreast : Abreast p q
    before : before_at first p ≡ before_at second q
    now : valuation_at first p ≡ valuation_at second q

  abbrev next_first : ℕ → ℕ
  next_first = after d path first one

  abbrev next_second : ℕ → ℕ
  next_second = after d path second two

  abreast-next : (p q : ℕ) → p ≤ last d path first one → q ≤ last d path second two → Abreast p q → Abreast (next_first p) (next_second q)
  abreast-next p q high below (inl both) =
      let right : next_second q ≡ suc p = after-path d path second two q (omega (arith, both.0, both.1)) ∙ ap suc (sym both.0) in
      elim (cases_lt (suc p) n) [
        | inl k ↦ inl (after-path d path first one p both.1 ∙ sym right, omega (arith, after-path d path first one p both.1))
        | inr k ↦ inr (omega (arith, after-path d path first one p both.1), omega (arith, right))
      ]
  abreast-next p q high below (inr both) = inr (after-behind d path first one p both.0 high, after-behind d path second two q both.1 below)

  same-inputs : (p q : ℕ) → p ≤ last d path first one → q ≤ last d path second two → Abreast p q → values (valuation_at first p) d.inputs ≡ values (valuation_at second q) d.inputs
  same-inputs p q high below (inl both) =
      ap (λ (v : List Bool). values v d.inputs) (in-path d path first one p both.1 ∙ sym (in-path d path second two p both.1) ∙ ap (valuation_at second) both.0)
  same-inputs p q high below (inr both) = behind-path d path first one p both.0 high ∙ sym (behind-path d path second two q both.1 below)

  paired-next : (p q : ℕ) → Paired p q → Paired (next_first p) (next_second q)
  paired-next p q pair =
      let high = after-within d path first one p pair.left in
      let below = after-within d path second two q pair.right in
      let abreast = abreast-next p q pair.left pair.right pair.abreast in
      record {
        left = high;
        right = below;
        abreast = abreast;
        before = before-after d path first one p pair.left ∙ ap (λ (v : List Bool). Some v) pair.now ∙ sym (before-after d path second two q pair.right);
        now = same-next d order sound ordered (valuation_at first p) (valuation_at first (next_first p)) (valuation_at second (next_second q))
            (step-after d path first one p pair.left)
            (subst (λ (v : List Bool). IsStep d v (valuation_at second (next_second q))) (sym pair.now) (step-after d path second two q pair.right))
            (same-inputs (next_first p) (next_second q) high below abreast);
      }

  walk-paired : (k p q : ℕ) → Paired p q → Paired (walk (next_place (word d first)) k p) (walk (next_place (word d second)) k q)
  walk-paired zero p q pair = pair
  walk-paired (suc k) p q pair =
      let left : next_place (word d first) p ≡ next_first p =
      next-after (word d first) (last d path first one) p (loop-some d path first one) (places-are d path first one) pair.left in
      let right : next_place (word d second) q ≡ next_second q =
      next-after (word d second) (last d path second two) q (loop-some d path second two) (places-are d path second two) pair.right in
      walk-paired k (next_place (word d first) p) (next_place (word d second) q)
      (subst (λ i. Paired i (next_place (word d second) q)) (sym left) (subst (λ i. Paired (next_first p) i) (sym right) (paired-next p q pair)))

  begun : Paired 0 0
  begun = record {
    left = omega arith;
    right = omega arith;
    abreast = inl (refl, some);
    before = refl;
    now = in-path d path first one 0 some ∙ sym (in-path d path second two 0 some);
  }

  pub same-trace : (place : ℕ) → trace_of (word d first) place ≡ trace_of (word d second) place
  same-trace place =
      let pair = walk-paired place 0 0 begun in
      let p = walk (next_place (word d first)) place 0 in
      let q = walk (next_place (word d second)) place 0 in
      let same : lasso.letter_at (word d first) p ≡ lasso.letter_at (word d second) q =
      letter-is d path first one p pair.left
      ∙ ap (λ (b : Option (List Bool)). letter_after d.names b (valuation_at first p)) pair.before
      ∙ ap (λ (v : List Bool). letter_after d.names (before_at second q) v) pair.now
      ∙ sym (letter-is d path second two q pair.right) in
      ap (λ trace. trace place) (word_read (word d first) (loop-some d path first one))
      ∙ ap Some same
      ∙ sym (ap (λ trace. trace place) (word_read (word d second) (loop-some d path second two)))
