-- Combinations with their Booleans apart, as Booleans are added.
use Rattle.std.proofs.Common.{◌≡◌, inl, inr, refl, ap, ◌∙◌, ℕ, ◌<◌, ◌≤◌, List, [], ◌∷◌, ◌++◌, length, get_or, arith, length-append, append_assoc, false, Result, Ok, Err}
use Rattle.std.specs.Prelude.{IfOk}
use Rattle.std.proofs.lemmas.Bool.{cases_lt}
use Rattle.std.proofs.lemmas.List.{get_or_append_left, get_or_push, length_push}
use Rattle.psl_tree.specs.Trees.{boolean_of}
use Rattle.psl_tree.specs.declared.boolean.Bool as code_boolean
use Rattle.alternating_theory.specs.Obligations.{Automaton, obligation_at}
use Rattle.alternating_theory.specs.Positive.{Positive, And, Or, Holds, Owed}
use Rattle.alternating_blocks.specs.Plan.{test_at, bare_positive, combination_of, NodeWithin, IsGrown, StandFor}
use Rattle.alternating_blocks.specs.declared.plan.Node as code_node

pub same-test : (old new : List code_boolean.Bool) → IsGrown old new → (k : ℕ) → k < length old → test_at new k ≡ test_at old k
same-test old new grown k h =
    ap (λ (l : List code_boolean.Bool). test_at l k) grown.1 ∙ ap (λ (b : code_boolean.Bool). boolean_of b) (get_or_append_left old grown.0 (code_boolean.Const false) k h)

pub longer : (old new : List code_boolean.Bool) → IsGrown old new → length old ≤ length new
longer old new grown = omega (arith, ap length grown.1, length-append old grown.0)

pub kept-node : (old new : List code_boolean.Bool) → IsGrown old new → (count : ℕ) (node : code_node.Node) → NodeWithin count (length old) node → combination_of new node ≡ combination_of old node
kept-node old new grown count (code_node.Const _) h = refl
kept-node old new grown count (code_node.Holds k) h = ap Holds (same-test old new grown k h)
kept-node old new grown count (code_node.Owed _) h = refl
kept-node old new grown count (code_node.Both k n) h = ap (λ b. And (Holds b) (Owed n)) (same-test old new grown k h.0)
kept-node old new grown count (code_node.Either k n) h = ap (λ b. Or (Holds b) (Owed n)) (same-test old new grown k h.0)
kept-node old new grown count (code_node.And' _ left _ right) h =
    let x = kept-node old new grown count left h.0 in let y = kept-node old new grown count right h.1 in cc
kept-node old new grown count (code_node.Or' _ left _ right) h =
    let x = kept-node old new grown count left h.0 in let y = kept-node old new grown count right h.1 in cc

pub kept-within : (tests more count : ℕ) → tests ≤ more → (node : code_node.Node) → NodeWithin count tests node → NodeWithin count more node
kept-within tests more count le (code_node.Const _) h = tt
kept-within tests more count le (code_node.Holds k) h = omega (arith, h)
kept-within tests more count le (code_node.Owed _) h = h
kept-within tests more count le (code_node.Both k _) h = (omega (arith, h.0), h.1)
kept-within tests more count le (code_node.Either k _) h = (omega (arith, h.0), h.1)
kept-within tests more count le (code_node.And' _ left _ right) h = (kept-within tests more count le left h.0, kept-within tests more count le right h.1)
kept-within tests more count le (code_node.Or' _ left _ right) h = (kept-within tests more count le left h.0, kept-within tests more count le right h.1)

pub grown-twice : (one two three : List code_boolean.Bool) → IsGrown one two → IsGrown two three → IsGrown one three
grown-twice one two three g h = (g.0 ++ h.0, h.1 ∙ ap (λ (l : List code_boolean.Bool). l ++ h.0) g.1 ∙ append_assoc one g.0 h.0)

-- one obligation more
pub one-stands : (a : Automaton) (old new : List code_boolean.Bool) (deltas : List code_node.Node) (node : code_node.Node) (number : ℕ) → length deltas ≡ number
    → IsGrown old new → StandFor a old deltas → combination_of new node ≡ bare_positive (obligation_at a.obligations number).delta → NodeWithin (length a.obligations) (length new) node
    → StandFor a new (deltas ++ node ∷ [])
one-stands a old new deltas node number many grown stands same within k other h =
    elim (cases_lt k (length deltas)) as (λ _. (combination_of new (get_or (deltas ++ node ∷ []) k other) ≡ bare_positive (obligation_at a.obligations k).delta) × NodeWithin (length a.obligations) (length new) (get_or (deltas ++ node ∷ []) k other)) [
      | inl lt ↦ (let before = stands k other lt in
          let e : get_or (deltas ++ node ∷ []) k other ≡ get_or deltas k other = get_or_append_left deltas (node ∷ []) other k lt in
          rw e (kept-node old new grown (length a.obligations) (get_or deltas k other) before.1 ∙ before.0, kept-within (length old) (length new) (length a.obligations) (longer old new grown) (get_or deltas k other) before.1))
      | inr ge ↦ (let last : length deltas ≡ k = omega (arith, length_push deltas node) in
          let e : get_or (deltas ++ node ∷ []) k other ≡ node = get_or_push deltas node other k last in
          let is : number ≡ k = omega arith in
          rw e (same ∙ ap (λ n. bare_positive (obligation_at a.obligations n).delta) is, within))
    ]

-- what is made of two parts, where the Booleans of the second were added after those of the first
module _ {E : Type 0} (old new : List code_boolean.Bool) (grown : IsGrown old new) (count : ℕ) (first second : code_node.Node)
    (within : NodeWithin count (length old) first) (also : NodeWithin count (length new) second) where
  pub all-same : (made : Result code_node.Node E) (left right : Positive) → combination_of old first ≡ left → combination_of new second ≡ right
      → IfOk made (λ node. (tests : List code_boolean.Bool) → combination_of tests node ≡ And (combination_of tests first) (combination_of tests second))
      → IfOk made (λ node. combination_of new node ≡ And left right)
  all-same (Ok node) left right l r same =
      same new ∙ ap (λ x. And x (combination_of new second)) (kept-node old new grown count first within ∙ l) ∙ ap (λ x. And left x) r
  all-same (Err _) left right l r same = tt

  pub one-same : (made : Result code_node.Node E) (left right : Positive) → combination_of old first ≡ left → combination_of new second ≡ right
      → IfOk made (λ node. (tests : List code_boolean.Bool) → combination_of tests node ≡ Or (combination_of tests first) (combination_of tests second))
      → IfOk made (λ node. combination_of new node ≡ Or left right)
  one-same (Ok node) left right l r same =
      same new ∙ ap (λ x. Or x (combination_of new second)) (kept-node old new grown count first within ∙ l) ∙ ap (λ x. Or left x) r
  one-same (Err _) left right l r same = tt

  pub both-within : (made : Result code_node.Node E)
      → IfOk made (λ node. (count tests : ℕ) → NodeWithin count tests first → NodeWithin count tests second → NodeWithin count tests node)
      → IfOk made (λ node. NodeWithin count (length new) node)
  both-within (Ok node) made = made count (length new) (kept-within (length old) (length new) count (longer old new grown) first within) also
  both-within (Err _) made = tt
