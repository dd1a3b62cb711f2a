-- The obligations of r |-> f, from any edges on.
use Rattle.std.proofs.Common.{◌≡◌, inl, inr, refl, sym, ap, ◌∙◌, subst, ℕ, zero, suc, ◌+◌, ◌≤◌, ◌<◌, Bool as Truth, false, List, [], ◌∷◌, length}
use Rattle.std.specs.Prelude.{◌↔◌, IsTrue, not, ◌||◌}
use Rattle.std.proofs.lemmas.Bool.{both_ways, or_cases, or_left, or_right, and_parts, and_from, not-true, not_from_false, cases_Bool}
use Rattle.psl_tree.specs.Followed.{Past, Nothing, Tops, Bottoms, followed}
use Rattle.psl_tree.specs.Trace.{Trace, suffix, first, dual, dual_letter, is_place}
use Rattle.psl_tree.proofs.Traces.{behind, followed-behind, suffix-behind, suffix-zero}
use Rattle.psl_tree.specs.declared.letter.Letter.{Letter}
use Rattle.psl_tree.specs.declared.letter.Letter.TheVariants.{Top, Bottom}
use mathlib.Core.Path.{fun_ext}
use Rattle.psl_tree.specs.SequenceAutomata.{Edge, State, state_at, AcceptsFrom}
use Rattle.psl_tree.proofs.SequenceSteps.{StepTo, take-step, make-step}
use Rattle.alternating_theory.specs.Construction.{suffix_obligation, going, quiet}
use Rattle.alternating_theory.specs.Going.{goes_on, is_alive}
use Rattle.alternating_theory.specs.Obligations.{Obligation, value_of}
use Rattle.alternating_theory.specs.Positive.{met}
use Rattle.alternating_theory.proofs.Aborts.{same-test}
use Rattle.alternating_theory.proofs.Edges.{On, LeadBelow, on-goes, goes-tops, alive-closed, alive-final, alive-split, leads-step, step-leads, step-below, step-bottom}
use Rattle.alternating_theory.proofs.MetLaws.{within-wider}
use Rattle.alternating_theory.proofs.Reading.{first-behind, tops-first, on-accepts, accepts-on}
use Rattle.alternating_theory.proofs.Taken.{Ends, GoesOn, going-tells, tells-going, quiet-tells, tells-quiet, going-within, quiet-within}
use Rattle.alternating_theory.proofs.Values.{Right}

-- the dual of letters behind a first one
dual-behind : (x : Letter) (w : Trace) → dual (behind x w) ≡ behind (dual_letter x) (dual w)
dual-behind x w = fun_ext (λ k. at k)
  where
    at : (k : ℕ) → dual (behind x w) k ≡ behind (dual_letter x) (dual w) k
    at zero = refl
    at (suc k) = refl

dual-first : (x : Letter) (xs : List Letter) (p : Past) (n : ℕ) → first (suc n) (dual (followed (x ∷ xs) p)) ≡ dual_letter x ∷ first n (dual (followed xs p))
dual-first x xs p n =
    ap (λ (v : Trace). first (suc n) v) (ap (λ (v : Trace). dual v) (followed-behind x xs p) ∙ dual-behind x (followed xs p))
    ∙ first-behind (dual_letter x) (dual (followed xs p)) n

pub dual-place : (xs : List Letter) (p : Past) (j : ℕ) → IsTrue (is_place (followed xs p) j) → IsTrue (is_place (dual (followed xs p)) 0)
dual-place [] Nothing j h = h
dual-place [] Tops j h = refl
dual-place [] Bottoms j h = refl
dual-place (x ∷ xs) p j h = refl

step-within : (n : ℕ) (es : List Edge) (x : Letter) (t : ℕ) → LeadBelow n es → StepTo es x t → t < n
step-within n es x t w s = let u = take-step es x (λ q. (q < n) × (q ≡ t)) (step-below n es x (λ q. q ≡ t) w s) in subst (λ (k : ℕ). k < n) u.2.1 u.2.0

module _ (states : List State) (below : (q : ℕ) → LeadBelow (length states) (state_at states q).edges) (offset : ℕ) (accepting : Truth) (look : ℕ → Obligation) (part : Obligation)
    (placed : (q : ℕ) → q < length states → look (offset + q) ≡ suffix_obligation states offset accepting part (state_at states q).edges) where
  abbrev over : List Edge → Obligation
  over = λ es. suffix_obligation states offset accepting part es

  abbrev pub suffix-value : Past → List Edge → List Letter → Truth
  suffix-value p es xs = value_of look p (suffix_obligation states offset accepting part es) xs

  ahead : (p : Past) (t : ℕ) (xs : List Letter) → t < length states → value_of look p (look (offset + t)) xs ≡ suffix-value p (state_at states t).edges xs
  ahead p t xs h = ap (λ (o : Obligation). value_of look p o xs) (placed t h)

  pub suffix-right : (low high : ℕ) → low ≤ offset → offset + length states ≤ high → (es : List Edge) → LeadBelow (length states) es → (begun : Truth)
      → Right look low high part → Right look low high (suffix_obligation states offset begun part es)
  suffix-right low high l h es w begun r = record {
    within = (within-wider offset (offset + length states) low high l h (going states offset es) (going-within states offset (length states) es w), (quiet-within states low high es, r.within));
    at_top = and_from (met (going states offset es) Top (λ q. (look q).top)) (met (quiet states es) Top (λ q. (look q).top) || met part.delta Top (λ q. (look q).top))
        (tells-going states offset Top (λ q. (look q).top) es (λ t s g. absurd (step-bottom es (λ q. q ≡ t) s)))
        (or_left (met (quiet states es) Top (λ q. (look q).top)) (met part.delta Top (λ q. (look q).top))
        (tells-quiet states offset Top (λ q. (look q).top) es (λ t s g. step-bottom es (λ q. q ≡ t) s)));
    at_bottom = same-test (met (over es).delta Bottom (λ q. (look q).bottom)) (not (goes_on states es) || part.bottom) there back;
    order = λ _. refl;
  }
    where
      below-bottom : ℕ → Truth
      below-bottom q = (look q).bottom

      found : (t : ℕ) → StepTo es Top t → IsTrue (is_alive states t) → IsTrue (met (going states offset es) Bottom (λ q. (look q).bottom))
          → IsTrue (met (quiet states es) Bottom (λ q. (look q).bottom) || met part.delta Bottom (λ q. (look q).bottom)) → IsTrue part.bottom
      found t s a g k = elim (alive-split states below t a) [
        | inl e ↦ elim (or_cases (met (quiet states es) Bottom (λ q. (look q).bottom)) (met part.delta Bottom (λ q. (look q).bottom)) k) [
          | inl u ↦ absurd (quiet-tells states offset Bottom (λ q. (look q).bottom) es u t s e)
          | inr u ↦ sym r.at_bottom ∙ u
        ]
        | inr e ↦ elim (or_cases (not (goes_on states (state_at states t).edges)) part.bottom
            (subst (λ (o : Obligation). IsTrue o.bottom) (placed t (step-within (length states) es Top t w s)) (going-tells states offset Bottom (λ q. (look q).bottom) es g t s e))) [
              | inl u ↦ absurd (both_ways (goes_on states (state_at states t).edges) (not-true (goes_on states (state_at states t).edges) u) e)
              | inr u ↦ u
            ]
      ]

      there : IsTrue (met (over es).delta Bottom (λ q. (look q).bottom)) → IsTrue (not (goes_on states es) || part.bottom)
      there k = elim (cases_Bool (goes_on states es)) [
        | inl e ↦ (let t = take-step es Top (λ q. IsTrue (is_alive states q)) (step-leads (is_alive states) es e) in
            let parts = and_parts (met (going states offset es) Bottom (λ q. (look q).bottom)) (met (quiet states es) Bottom (λ q. (look q).bottom) || met part.delta Bottom (λ q. (look q).bottom)) k in
            or_right (not (goes_on states es)) part.bottom (found t.0 t.1 t.2 parts.0 parts.1))
        | inr e ↦ or_left (not (goes_on states es)) part.bottom (not_from_false (goes_on states es) e)
      ]

      none-alive : IsTrue (not (goes_on states es)) → (t : ℕ) → StepTo es Top t → IsTrue (is_alive states t) → ⊥
      none-alive k t s a = both_ways (goes_on states es) (not-true (goes_on states es) k)
          (leads-step (is_alive states) es Top (λ q. q ≡ t) (λ q e. subst (λ (n : ℕ). IsTrue (is_alive states n)) (sym e) a) s)

      back : IsTrue (not (goes_on states es) || part.bottom) → IsTrue (met (over es).delta Bottom (λ q. (look q).bottom))
      back k = elim (or_cases (not (goes_on states es)) part.bottom k) [
        | inl a ↦ and_from (met (going states offset es) Bottom (λ q. (look q).bottom)) (met (quiet states es) Bottom (λ q. (look q).bottom) || met part.delta Bottom (λ q. (look q).bottom))
            (tells-going states offset Bottom (λ q. (look q).bottom) es (λ t s g. absurd (none-alive a t s (alive-closed states below t g))))
            (or_left (met (quiet states es) Bottom (λ q. (look q).bottom)) (met part.delta Bottom (λ q. (look q).bottom))
            (tells-quiet states offset Bottom (λ q. (look q).bottom) es (λ t s g. none-alive a t s (alive-final states below t g))))
        | inr a ↦ and_from (met (going states offset es) Bottom (λ q. (look q).bottom)) (met (quiet states es) Bottom (λ q. (look q).bottom) || met part.delta Bottom (λ q. (look q).bottom))
            (tells-going states offset Bottom (λ q. (look q).bottom) es (λ t s g.
            subst (λ (o : Obligation). IsTrue o.bottom) (sym (placed t (step-within (length states) es Top t w s)))
            (or_right (not (goes_on states (state_at states t).edges)) part.bottom a)))
            (or_right (met (quiet states es) Bottom (λ q. (look q).bottom)) (met part.delta Bottom (λ q. (look q).bottom)) (r.at_bottom ∙ a))
      ]

  module _ (F : Trace → Type 0) (f : (p : Past) (xs : List Letter) → IsTrue (value_of look p part xs) ↔ F (followed xs p)) where
    -- each prefix whose dual is read over these edges is followed by F, from its last letter on
    abbrev pub Follows : Trace → List Edge → Type 0
    Follows w es = (j : ℕ) → IsTrue (is_place w j) → On states es (first (suc j) (dual w)) → F (suffix w j)

    follows-there : (xs : List Letter) (p : Past) (es : List Edge) → LeadBelow (length states) es → IsTrue (suffix-value p es xs) → Follows (followed xs p) es
    follows-there [] Nothing es w h j l k = absurd (both_ways false refl l)
    follows-there [] Tops es w h j l k = absurd (step-bottom es _ k)
    follows-there [] Bottoms es w h j l k = elim (or_cases (not (goes_on states es)) part.bottom h) [
      | inl a ↦ absurd (both_ways (goes_on states es) (not-true (goes_on states es) a) (on-goes states below es (first (suc j) (dual (followed [] Bottoms))) k))
      | inr a ↦ (f Bottoms []).0 a
    ]
    follows-there (x ∷ xs) p es w h zero l k =
        let parts = and_parts (met (going states offset es) x (λ q. value_of look p (look q) xs))
        (met (quiet states es) x (λ q. value_of look p (look q) xs) || value_of look p part (x ∷ xs)) h in
        let t = take-step es (dual_letter x) (λ q. AcceptsFrom states q []) (subst (λ (ys : List Letter). On states es ys) (dual-first x xs p 0) k) in
        subst F (sym (suffix-zero (followed (x ∷ xs) p)))
        (elim (or_cases (met (quiet states es) x (λ q. value_of look p (look q) xs)) (value_of look p part (x ∷ xs)) parts.1) [
          | inl a ↦ absurd (quiet-tells states offset x (λ q. value_of look p (look q) xs) es a t.0 t.1 t.2)
          | inr a ↦ (f p (x ∷ xs)).0 a
        ])
    follows-there (x ∷ xs) p es w h (suc j) l k =
        let parts = and_parts (met (going states offset es) x (λ q. value_of look p (look q) xs))
        (met (quiet states es) x (λ q. value_of look p (look q) xs) || value_of look p part (x ∷ xs)) h in
        let t = take-step es (dual_letter x) (λ q. AcceptsFrom states q (first (suc j) (dual (followed xs p))))
        (subst (λ (ys : List Letter). On states es ys) (dual-first x xs p (suc j)) k) in
        let on : On states (state_at states t.0).edges (first (suc j) (dual (followed xs p))) = accepts-on states t.0 j (dual (followed xs p)) (dual-place xs p j l) t.2 in
        let goes : GoesOn states t.0 = on-goes states below (state_at states t.0).edges (first (suc j) (dual (followed xs p))) on in
        subst F (sym (suffix-behind x xs p j))
        (follows-there xs p (state_at states t.0).edges (below t.0)
        (sym (ahead p t.0 xs (step-within (length states) es (dual_letter x) t.0 w t.1))
        ∙ going-tells states offset x (λ q. value_of look p (look q) xs) es parts.0 t.0 t.1 goes) j l on)

    follows-back : (xs : List Letter) (p : Past) (es : List Edge) → LeadBelow (length states) es → Follows (followed xs p) es → IsTrue (suffix-value p es xs)
    follows-back [] Nothing es w k = refl
    follows-back [] Tops es w k = refl
    follows-back [] Bottoms es w k = elim (cases_Bool (goes_on states es)) [
      | inl e ↦ (let c = goes-tops states below es e in or_right (not (goes_on states es)) part.bottom
          ((f Bottoms []).1 (k c.0 refl (subst (λ (ys : List Letter). On states es ys) (sym (tops-first (suc c.0))) c.1))))
      | inr e ↦ or_left (not (goes_on states es)) part.bottom (not_from_false (goes_on states es) e)
    ]
    follows-back (x ∷ xs) p es w k =
        and_from (met (going states offset es) x (λ q. value_of look p (look q) xs)) (met (quiet states es) x (λ q. value_of look p (look q) xs) || value_of look p part (x ∷ xs))
        (tells-going states offset x (λ q. value_of look p (look q) xs) es (λ t s g.
        ahead p t xs (step-within (length states) es (dual_letter x) t w s) ∙ follows-back xs p (state_at states t).edges (below t) (later t s)))
        (elim (cases_Bool (value_of look p part (x ∷ xs))) [
          | inl e ↦ or_right (met (quiet states es) x (λ q. value_of look p (look q) xs)) (value_of look p part (x ∷ xs)) e
          | inr e ↦ or_left (met (quiet states es) x (λ q. value_of look p (look q) xs)) (value_of look p part (x ∷ xs))
              (tells-quiet states offset x (λ q. value_of look p (look q) xs) es (λ t s g. both_ways (value_of look p part (x ∷ xs)) e (here t s g)))
        ])
      where
        later : (t : ℕ) → StepTo es (dual_letter x) t → Follows (followed xs p) (state_at states t).edges
        later t s j l on = subst F (suffix-behind x xs p j) (k (suc j) l
            (subst (λ (ys : List Letter). On states es ys) (sym (dual-first x xs p (suc j)))
            (make-step es (dual_letter x) t (λ q. AcceptsFrom states q (first (suc j) (dual (followed xs p)))) s
            (on-accepts states t (first (suc j) (dual (followed xs p))) on))))

        here : (t : ℕ) → StepTo es (dual_letter x) t → Ends states t → IsTrue (value_of look p part (x ∷ xs))
        here t s g = (f p (x ∷ xs)).1 (subst F (suffix-zero (followed (x ∷ xs) p)) (k 0 refl
            (subst (λ (ys : List Letter). On states es ys) (sym (dual-first x xs p 0)) (make-step es (dual_letter x) t (λ q. AcceptsFrom states q []) s g))))

    pub follows-means : (xs : List Letter) (p : Past) (es : List Edge) → LeadBelow (length states) es → IsTrue (suffix-value p es xs) ↔ Follows (followed xs p) es
    follows-means xs p es w = (follows-there xs p es w, follows-back xs p es w)
