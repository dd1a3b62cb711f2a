-- The obligations of r! and of r, from any edges on.
use Rattle.std.proofs.Common.{◌≡◌, ◌⊎◌, inl, inr, refl, sym, subst, ℕ, zero, suc, ◌+◌, ◌<◌, Bool as Truth, true, false, List, [], ◌∷◌, length}
use Rattle.std.specs.Prelude.{◌↔◌, IsTrue, is_some}
use Rattle.std.proofs.lemmas.Bool.{both_ways}
use Rattle.psl_tree.specs.Followed.{Past, Nothing, Tops, Bottoms, followed}
use Rattle.psl_tree.specs.Trace.{Trace, is_place, cut}
use Rattle.psl_tree.proofs.Choice.{from-exists}
use Rattle.psl_tree.proofs.Traces.{behind, followed-behind, cut-zero, cut-tops, cut-behind}
use Rattle.psl_tree.specs.declared.letter.Letter.{Letter}
use Rattle.psl_tree.specs.declared.letter.Letter.TheVariants.{Top, Bottom}
use Rattle.psl_tree.specs.SequenceAutomata.{Edge, State, state_at, Steps}
use Rattle.psl_tree.proofs.SequenceSteps.{Steps-map, take-step}
use Rattle.alternating_theory.specs.Construction.{prefix_obligation, taken}
use Rattle.alternating_theory.specs.Going.{goes_on, is_alive}
use Rattle.alternating_theory.specs.Obligations.{Obligation, value_of}
use Rattle.alternating_theory.specs.Positive.{met}
use Rattle.alternating_theory.proofs.Aborts.{same-test}
use Rattle.alternating_theory.proofs.Edges.{LeadBelow, alive-closed, alive-final, alive-split, leads-step, step-leads, step-below, step-bottom}
use Rattle.alternating_theory.proofs.Reading.{Reads, begins, reads-end, reads-more, reads-split, reads-goes, goes-reads}
use Rattle.alternating_theory.proofs.Taken.{Ends, GoesOn, taken-steps, steps-taken, taken-within}
use Rattle.alternating_theory.proofs.Values.{Right}

module _ (states : List State) (below : (q : ℕ) → LeadBelow (length states) (state_at states q).edges) (offset : ℕ) (end : Truth) (look : ℕ → Obligation)
    (placed : (q : ℕ) → q < length states → look (offset + q) ≡ prefix_obligation states offset end (state_at states q).edges) where
  abbrev over : List Edge → Obligation
  over = λ es. prefix_obligation states offset end es

  abbrev prefix-value : Past → List Edge → List Letter → Truth
  prefix-value p es xs = value_of look p (over es) xs

  -- a step to a final state, or to one from which the rest has the value
  Goes : Past → List Letter → ℕ → Type 0
  Goes p xs t = Ends states t ⊎ (GoesOn states t × IsTrue (prefix-value p (state_at states t).edges xs))

  pub value-steps : (p : Past) (es : List Edge) → LeadBelow (length states) es → (x : Letter) (xs : List Letter) → IsTrue (prefix-value p es (x ∷ xs))
      → Steps es x (λ t. (t < length states) × (Ends states t ⊎ (GoesOn states t × IsTrue (prefix-value p (state_at states t).edges xs))))
  value-steps p es w x xs h =
      Steps-map es x (λ t. (t < length states) × (Ends states t ⊎ (GoesOn states t × IsTrue (value_of look p (look (offset + t)) xs))))
      (λ t. (t < length states) × (Ends states t ⊎ (GoesOn states t × IsTrue (prefix-value p (state_at states t).edges xs))))
      (λ t u. (u.0, subst (λ (o : Obligation). Ends states t ⊎ (GoesOn states t × IsTrue (value_of look p o xs))) (placed t u.0) u.1))
      (step-below (length states) es x (λ t. Ends states t ⊎ (GoesOn states t × IsTrue (value_of look p (look (offset + t)) xs))) w
      (taken-steps states offset x (λ q. value_of look p (look q) xs) es h))

  pub steps-value : (p : Past) (es : List Edge) → LeadBelow (length states) es → (x : Letter) (xs : List Letter)
      → Steps es x (λ t. Ends states t ⊎ (GoesOn states t × IsTrue (prefix-value p (state_at states t).edges xs))) → IsTrue (prefix-value p es (x ∷ xs))
  steps-value p es w x xs s =
      steps-taken states offset x (λ q. value_of look p (look q) xs) es
      (Steps-map es x (λ t. (t < length states) × (Ends states t ⊎ (GoesOn states t × IsTrue (prefix-value p (state_at states t).edges xs))))
      (λ t. Ends states t ⊎ (GoesOn states t × IsTrue (value_of look p (look (offset + t)) xs)))
      (λ t u. subst (λ (o : Obligation). Ends states t ⊎ (GoesOn states t × IsTrue (value_of look p o xs))) (sym (placed t u.0)) u.1)
      (step-below (length states) es x (λ t. Ends states t ⊎ (GoesOn states t × IsTrue (prefix-value p (state_at states t).edges xs))) w s))

  pub prefix-right : (es : List Edge) → LeadBelow (length states) es → Right look offset (offset + length states) (over es)
  prefix-right es w = record {
    within = taken-within states offset (length states) es w;
    at_top = same-test (met (taken states offset es) Top (λ q. (look q).top)) (goes_on states es) top-there top-back;
    at_bottom = same-test (met (taken states offset es) Bottom (λ q. (look q).bottom)) false
        (λ h. absurd (step-bottom es (λ t. Ends states t ⊎ (GoesOn states t × IsTrue (look (offset + t)).bottom)) (taken-steps states offset Bottom (λ q. (look q).bottom) es h)))
        (λ h. absurd (both_ways false refl h));
    order = λ h. absurd (both_ways false refl h);
  }
    where
      top-there : IsTrue (met (taken states offset es) Top (λ q. (look q).top)) → IsTrue (goes_on states es)
      top-there h = leads-step (is_alive states) es Top (λ t. Ends states t ⊎ (GoesOn states t × IsTrue (look (offset + t)).top))
          (λ q k. elim k as (λ _. IsTrue (is_alive states q)) [ inl a ↦ alive-final states below q a | inr a ↦ alive-closed states below q a.0 ])
          (taken-steps states offset Top (λ q. (look q).top) es h)

      ahead : (q : ℕ) → (q < length states) × IsTrue (is_alive states q) → Ends states q ⊎ (GoesOn states q × IsTrue (look (offset + q)).top)
      ahead q u = elim (alive-split states below q u.1) as (λ _. Ends states q ⊎ (GoesOn states q × IsTrue (look (offset + q)).top)) [
        | inl a ↦ inl a
        | inr a ↦ inr (a, subst (λ (o : Obligation). IsTrue o.top) (sym (placed q u.0)) a)
      ]

      top-back : IsTrue (goes_on states es) → IsTrue (met (taken states offset es) Top (λ q. (look q).top))
      top-back h = steps-taken states offset Top (λ q. (look q).top) es
          (Steps-map es Top (λ q. (q < length states) × IsTrue (is_alive states q)) (λ t. Ends states t ⊎ (GoesOn states t × IsTrue (look (offset + t)).top)) ahead
          (step-below (length states) es Top (λ q. IsTrue (is_alive states q)) w (step-leads (is_alive states) es h)))

-- r!: a prefix is read

module _ (states : List State) (below : (q : ℕ) → LeadBelow (length states) (state_at states q).edges) (offset : ℕ) (look : ℕ → Obligation)
    (placed : (q : ℕ) → q < length states → look (offset + q) ≡ prefix_obligation states offset false (state_at states q).edges) where
  abbrev strong : Past → List Edge → List Letter → Truth
  strong p es xs = value_of look p (prefix_obligation states offset false es) xs

  strong-there : (xs : List Letter) (p : Past) (es : List Edge) → LeadBelow (length states) es → IsTrue (strong p es xs) → Reads states (followed xs p) es
  strong-there [] Nothing es w h = absurd (both_ways false refl h)
  strong-there [] Tops es w h = goes-reads states below es h
  strong-there [] Bottoms es w h = absurd (both_ways false refl h)
  strong-there (x ∷ xs) p es w h =
      let t = take-step es x (λ t. (t < length states) × (Ends states t ⊎ (GoesOn states t × IsTrue (strong p (state_at states t).edges xs))))
      (value-steps states below offset false look placed p es w x xs h) in
      subst (λ (v : Trace). Reads states v es) (sym (followed-behind x xs p)) (elim t.2.1 as (λ _. Reads states (behind x (followed xs p)) es) [
        | inl a ↦ reads-end states x (followed xs p) es t.0 t.1 a
        | inr a ↦ reads-more states x (followed xs p) es t.0 t.1 (strong-there xs p (state_at states t.0).edges (below t.0) a.1)
      ])

  strong-back : (xs : List Letter) (p : Past) (es : List Edge) → LeadBelow (length states) es → Reads states (followed xs p) es → IsTrue (strong p es xs)
  strong-back [] Nothing es w r = from-exists false r (λ j u. u.0)
  strong-back [] Tops es w r = reads-goes states below (followed [] Tops) es r
  strong-back [] Bottoms es w r = from-exists false r (λ j u. absurd (step-bottom es _ u.1))
  strong-back (x ∷ xs) p es w r =
      reads-split states x (followed xs p) es (begins xs p) (strong p es (x ∷ xs))
      (λ s. steps-value states below offset false look placed p es w x xs
      (Steps-map es x (λ t. Ends states t ⊎ Reads states (followed xs p) (state_at states t).edges)
      (λ t. Ends states t ⊎ (GoesOn states t × IsTrue (strong p (state_at states t).edges xs)))
      (λ t u. elim u as (λ _. Ends states t ⊎ (GoesOn states t × IsTrue (strong p (state_at states t).edges xs))) [
        | inl a ↦ inl a
        | inr a ↦ inr (reads-goes states below (followed xs p) (state_at states t).edges a, strong-back xs p (state_at states t).edges (below t) a)
      ]) s))
      (subst (λ (v : Trace). Reads states v es) (followed-behind x xs p) r)

  pub strong-means : (xs : List Letter) (p : Past) (es : List Edge) → LeadBelow (length states) es → IsTrue (strong p es xs) ↔ Reads states (followed xs p) es
  strong-means xs p es w = (strong-there xs p es w, strong-back xs p es w)

-- r: a prefix is read wherever the trace is cut

-- the place where a finite word is cut last, so that the letters are all there, and one past them
abbrev far : List Letter → Past → ℕ
far [] p = 0
far (x ∷ y ∷ xs) p = suc (far (y ∷ xs) p)
far (x ∷ []) Nothing = 0
far (x ∷ []) Tops = 1
far (x ∷ []) Bottoms = 1

module _ (states : List State) (below : (q : ℕ) → LeadBelow (length states) (state_at states q).edges) (offset : ℕ) (look : ℕ → Obligation)
    (placed : (q : ℕ) → q < length states → look (offset + q) ≡ prefix_obligation states offset true (state_at states q).edges) where
  abbrev weak : Past → List Edge → List Letter → Truth
  weak p es xs = value_of look p (prefix_obligation states offset true es) xs

  abbrev pub ReadsEach : Trace → List Edge → Type 0
  ReadsEach w es = (j : ℕ) → IsTrue (is_place w j) → Reads states (cut w (suc j)) es

  one-step : (x : Letter) (xs : List Letter) (p : Past) (es : List Edge) (t : ℕ) → Steps es x (λ r. r ≡ t)
      → (Ends states t ⊎ (GoesOn states t × ReadsEach (followed xs p) (state_at states t).edges)) → ReadsEach (followed (x ∷ xs) p) es
  one-step x xs p es t s (inl a) j l = subst (λ (v : Trace). Reads states v es) (sym (cut-behind x xs p j)) (reads-end states x (cut (followed xs p) j) es t s a)
  one-step x xs p es t s (inr a) zero l = subst (λ (v : Trace). Reads states v es) (sym (cut-behind x xs p zero))
      (reads-more states x (cut (followed xs p) zero) es t s
      (subst (λ (v : Trace). Reads states v (state_at states t).edges) (sym (cut-zero (followed xs p))) (goes-reads states below (state_at states t).edges a.0)))
  one-step x xs p es t s (inr a) (suc j) l = subst (λ (v : Trace). Reads states v es) (sym (cut-behind x xs p (suc j)))
      (reads-more states x (cut (followed xs p) (suc j)) es t s (a.1 j l))

  weak-there : (xs : List Letter) (p : Past) (es : List Edge) → LeadBelow (length states) es → IsTrue (weak p es xs) → ReadsEach (followed xs p) es
  weak-there [] Nothing es w h j l = absurd (both_ways false refl l)
  weak-there [] Tops es w h j l = subst (λ (v : Trace). Reads states v es) (sym (cut-tops (suc j))) (goes-reads states below es h)
  weak-there [] Bottoms es w h j l = absurd (both_ways false refl h)
  weak-there (x ∷ xs) p es w h j l =
      let t = take-step es x (λ t. (t < length states) × (Ends states t ⊎ (GoesOn states t × IsTrue (weak p (state_at states t).edges xs))))
      (value-steps states below offset true look placed p es w x xs h) in
      one-step x xs p es t.0 t.1 (elim t.2.1 as (λ _. Ends states t.0 ⊎ (GoesOn states t.0 × ReadsEach (followed xs p) (state_at states t.0).edges)) [
        | inl a ↦ inl a
        | inr a ↦ inr (a.0, weak-there xs p (state_at states t.0).edges (below t.0) a.1)
      ]) j l

  -- from the rest's value on
  split-off : (x : Letter) (xs : List Letter) (p : Past) (es : List Edge) → LeadBelow (length states) es → (v : Trace)
      → ((i : ℕ) → IsTrue (is_place v i) → IsTrue (is_place v 0))
      → ((fs : List Edge) → LeadBelow (length states) fs → Reads states v fs → IsTrue (weak p fs xs)) → Reads states (behind x v) es → IsTrue (weak p es (x ∷ xs))
  split-off x xs p es w v starts k r =
      reads-split states x v es starts (weak p es (x ∷ xs))
      (λ s. steps-value states below offset true look placed p es w x xs
      (Steps-map es x (λ t. Ends states t ⊎ Reads states v (state_at states t).edges)
      (λ t. Ends states t ⊎ (GoesOn states t × IsTrue (weak p (state_at states t).edges xs)))
      (λ t u. elim u as (λ _. Ends states t ⊎ (GoesOn states t × IsTrue (weak p (state_at states t).edges xs))) [
        | inl a ↦ inl a
        | inr a ↦ inr (reads-goes states below v (state_at states t).edges a, k (state_at states t).edges (below t) a)
      ]) s)) r

  starts-far : (xs : List Letter) (p : Past) (i : ℕ) → IsTrue (is_some (followed xs p 0)) → IsTrue (is_place (cut (followed xs p) (suc (far xs p))) 0)
  starts-far [] p i h = h
  starts-far (x ∷ xs) p i h = subst (λ (v : Trace). IsTrue (is_place v 0)) (sym (cut-behind x xs p (far (x ∷ xs) p))) refl

  weak-far : (xs : List Letter) (p : Past) (es : List Edge) → LeadBelow (length states) es → Reads states (cut (followed xs p) (suc (far xs p))) es → IsTrue (weak p es xs)
  weak-far [] Nothing es w r = refl
  weak-far [] Tops es w r = reads-goes states below (cut (followed [] Tops) 1) es r
  weak-far [] Bottoms es w r = from-exists false r (λ j u. absurd (step-bottom es _ u.1))
  weak-far (x ∷ []) Nothing es w r =
      split-off x [] Nothing es w (followed [] Tops) (λ i l. l) (λ fs u s. refl)
      (subst (λ (v : Trace). Reads states (behind x v) es) (cut-zero (followed [] Nothing))
      (subst (λ (v : Trace). Reads states v es) (cut-behind x [] Nothing 0) r))
  weak-far (x ∷ []) Tops es w r =
      split-off x [] Tops es w (cut (followed [] Tops) 1) (λ i l. refl) (λ fs u s. weak-far [] Tops fs u s)
      (subst (λ (v : Trace). Reads states v es) (cut-behind x [] Tops 1) r)
  weak-far (x ∷ []) Bottoms es w r =
      split-off x [] Bottoms es w (cut (followed [] Bottoms) 1) (λ i l. refl) (λ fs u s. weak-far [] Bottoms fs u s)
      (subst (λ (v : Trace). Reads states v es) (cut-behind x [] Bottoms 1) r)
  weak-far (x ∷ y ∷ xs) p es w r =
      split-off x (y ∷ xs) p es w (cut (followed (y ∷ xs) p) (suc (far (y ∷ xs) p))) (λ i l. starts-far (y ∷ xs) p i refl)
      (λ fs u s. weak-far (y ∷ xs) p fs u s)
      (subst (λ (v : Trace). Reads states v es) (cut-behind x (y ∷ xs) p (suc (far (y ∷ xs) p))) r)

  place-far : (xs : List Letter) (p : Past) → IsTrue (is_place (followed xs p) 0) → IsTrue (is_place (followed xs p) (far xs p))
  place-far [] p h = h
  place-far (x ∷ []) Nothing h = refl
  place-far (x ∷ []) Tops h = refl
  place-far (x ∷ []) Bottoms h = refl
  place-far (x ∷ y ∷ xs) p h = place-far (y ∷ xs) p refl

  weak-back : (xs : List Letter) (p : Past) (es : List Edge) → LeadBelow (length states) es → ReadsEach (followed xs p) es → IsTrue (weak p es xs)
  weak-back [] Nothing es w r = refl
  weak-back [] Tops es w r = weak-far [] Tops es w (r 0 refl)
  weak-back [] Bottoms es w r = weak-far [] Bottoms es w (r 0 refl)
  weak-back (x ∷ xs) p es w r = weak-far (x ∷ xs) p es w (r (far (x ∷ xs) p) (place-far (x ∷ xs) p refl))

  pub weak-means : (xs : List Letter) (p : Past) (es : List Edge) → LeadBelow (length states) es → IsTrue (weak p es xs) ↔ ReadsEach (followed xs p) es
  weak-means xs p es w = (weak-there xs p es w, weak-back xs p es w)
