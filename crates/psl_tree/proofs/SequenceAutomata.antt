-- The finished automaton: what it accepts, and that its numbers are those of its states.
use Rattle.std.proofs.Common.{◌≡◌, ◌↔◌, inl, inr, ℕ, zero, suc, ◌+◌, ◌-◌, ◌≤◌, ◌<◌, List, [], ◌∷◌, ◌++◌, length, map, IsTrue, refl, ap, sym, subst, ◌∙◌, arith}
use Rattle.std.specs.List.{AllByRecursion}
use Rattle.std.proofs.lemmas.List.{length-append, length-map}
use Rattle.std.proofs.lemmas.List.Elements.{All-from_recursion}
use Rattle.psl_tree.specs.Counts.{states_of}
use Rattle.psl_tree.specs.Trees.{Sequence}
use Rattle.psl_tree.specs.declared.letter.Letter.{Letter}
use Rattle.psl_tree.specs.Tight.{Tight}
use Rattle.std.specs.Prelude.{None}
use Rattle.psl_tree.specs.SequenceAutomata.{Edge, State, state_at, Steps, AcceptsFrom, Accepts, IsSound}
use Rattle.psl_tree.specs.SequenceConstruction.{Draft, draft_at, shown, Part, finished}
use Rattle.psl_tree.proofs.SequenceSteps.{From, Within, Within-wider, Steps-map_within, same-trans}
use Rattle.psl_tree.proofs.SequenceNumbers.{numbered, EachWithin, each-at, EachWithin-wider}
use Rattle.psl_tree.proofs.SequenceMeans.{IsPartOf}

-- the state of a number in the shown list, with the start after it
shown-at : (ss : List Draft) (start : Draft) (k : ℕ) → k < length ss → state_at (map (λ state. shown state) ss ++ shown start ∷ []) k ≡ shown (draft_at ss k)
shown-at [] start k h = absurd (omega arith)
shown-at (s ∷ ss) start zero h = refl
shown-at (s ∷ ss) start (suc k) h = shown-at ss start k (omega arith)

shown-last : (ss : List Draft) (start : Draft) (k : ℕ) → k ≡ length ss → state_at (map (λ state. shown state) ss ++ shown start ∷ []) k ≡ shown start
shown-last [] start zero e = refl
shown-last [] start (suc k) e = absurd (omega arith)
shown-last (s ∷ ss) start zero e = absurd (omega arith)
shown-last (s ∷ ss) start (suc k) e = shown-last ss start k (omega arith)

-- acceptance from a state of the shown automaton is acceptance from its draft
accepts-from : (part : Part) → EachWithin 0 (length part.states) part.states → (xs : List Letter) (q : ℕ) (s : Draft) → state_at (finished part).states q ≡ shown s
    → Within 0 (length part.states) s.edges → AcceptsFrom (finished part).states q xs ↔ From (numbered 0 part.states) s xs
accepts-from part each [] q s e w =
    (λ h. subst (λ (t : State). IsTrue t.is_final) e h, λ h. subst (λ (t : State). IsTrue t.is_final) (sym e) h)
accepts-from part each (x ∷ xs) q s e w =
    let all = (finished part).states in
    let look : ℕ → Draft = numbered 0 part.states in
    let next : (k : ℕ) → 0 ≤ k → k < length part.states → AcceptsFrom all k xs ↔ From look (look k) xs =
    λ k l h. accepts-from part each xs k (look k) (shown-at part.states part.start k h ∙ ap (λ j. shown (draft_at part.states j)) (same k)) (each-at 0 (length part.states) part.states each (k - 0)) in (
      λ h. Steps-map_within 0 (length part.states) s.edges x (λ k. AcceptsFrom all k xs) (λ k. From look (look k) xs) w (λ k l b g. (next k l b).0 g)
          (subst (λ (t : State). Steps t.edges x (λ k. AcceptsFrom all k xs)) e h),
      λ h. subst (λ (t : State). Steps t.edges x (λ k. AcceptsFrom all k xs)) (sym e)
          (Steps-map_within 0 (length part.states) s.edges x (λ k. From look (look k) xs) (λ k. AcceptsFrom all k xs) w (λ k l b g. (next k l b).1 g) h),
    )
  where
    same : (k : ℕ) → k ≡ k - 0
    same k = omega arith

narrow : (part : Part) (r : Sequence) → IsPartOf 0 part r → Within 0 (length part.states) part.start.edges × EachWithin 0 (length part.states) part.states
narrow part r p = (
  Within-wider 0 (0 + length part.states) 0 (length part.states) (omega arith) (omega arith) part.start.edges p.start_within,
  EachWithin-wider 0 (0 + length part.states) 0 (length part.states) (omega arith) (omega arith) part.states p.each_within,
)

pub finished-accepts : (part : Part) (r : Sequence) → IsPartOf 0 part r → (xs : List Letter) → Accepts (finished part) xs ↔ Tight None r xs
finished-accepts part r p xs =
    let w = narrow part r p in
    same-trans _ _ _ first (same-trans _ _ _
    (accepts-from part w.1 xs (length part.states) part.start (shown-last part.states part.start (length part.states) refl) w.0) (p.means xs))
  where
    first : Accepts (finished part) xs ↔ AcceptsFrom (finished part).states (length part.states) xs
    first = (λ h. elim h as (λ _. AcceptsFrom (finished part).states (length part.states) xs) [ inl k ↦ k | inr z ↦ absurd z ], λ h. inl h)

leads-recursion : (low high : ℕ) (es : List Edge) → Within low high es → AllByRecursion (λ edge. (low ≤ edge.target) × (edge.target < high)) es
leads-recursion low high [] w = tt
leads-recursion low high (e ∷ es) w = ((w.0, w.1), leads-recursion low high es w.2)

shown-within : (low high : ℕ) (ss : List Draft) (start : Draft) → EachWithin low high ss → Within low high start.edges
    → (k : ℕ) → Within low high (state_at (map (λ state. shown state) ss ++ shown start ∷ []) k).edges
shown-within low high [] start w v zero = v
shown-within low high [] start w v (suc k) = tt
shown-within low high (s ∷ ss) start w v zero = w.0
shown-within low high (s ∷ ss) start w v (suc k) = shown-within low high ss start w.1 v k

length-finished : (part : Part) → length (finished part).states ≡ length part.states + 1
length-finished part =
    length-append (map (λ state. shown state) part.states) (shown part.start ∷ []) ∙ ap (λ n. n + 1) (length-map part.states (λ (state : Draft). shown state))

pub finished-sound : (part : Part) (r : Sequence) → IsPartOf 0 part r → IsSound (finished part)
finished-sound part r p =
    let all = (finished part).states in
    let w = narrow part r p in
    let more = length-finished part in
    record {
      initial_below = All-from_recursion (λ number. number < length all) (length part.states ∷ []) (omega (arith, more), tt);
      targets_below = λ q. All-from_recursion (λ edge. (0 ≤ edge.target) × (edge.target < length all)) (state_at all q).edges
          (leads-recursion 0 (length all) (state_at all q).edges
          (Within-wider 0 (length part.states) 0 (length all) (omega arith) (omega (arith, more)) (state_at all q).edges
          (shown-within 0 (length part.states) part.states part.start w.1 w.0 q)));
    }

pub finished-count : (part : Part) (r : Sequence) → IsPartOf 0 part r → length (finished part).states ≤ states_of r
finished-count part r p = omega (arith, length-finished part, p.count)
