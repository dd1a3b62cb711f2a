-- The values of nodes behind others.
use Rattle.std.proofs.Common.{◌≡◌, ℕ, zero, suc, ◌+◌, ◌≤◌, true, ◌&&◌, List, [], ◌∷◌, ◌++◌, length, slice_get, Some, refl, sym, ap, ◌∙◌, subst, arith, length-append}
use Rattle.std.specs.Bool.{IsTrue}
use Rattle.std.proofs.lemmas.Bool.{and_from, and_parts}
use Rattle.clauses.specs.Models.{Assignment}
use Rattle.gates_theory.specs.Circuits.{same}
use Rattle.gates_theory.proofs.Parts.{same-from, same-is}
use Rattle.gates_nodes.specs.declared.cover.Cover.{Cover}
use Rattle.gates_nodes.specs.declared.node.Node.{Node}
use Rattle.gates_nodes.specs.declared.node.Node.TheVariants.{Free, And, Lut}
use Rattle.gates_nodes.specs.Nodes.{IsEvaluation, Source, any, node_value, node_within, nodes_hold, nodes_within, variables_of}
use Rattle.gates_nodes.proofs.Literals.{and_assoc}

module _ (covers : List Cover) (source : Source) (v : Assignment) where
  pub nodes_hold-append : (before after : ℕ) (nodes more : List Node) → after ≡ before + length nodes →
      nodes_hold covers source v before (nodes ++ more) ≡ (nodes_hold covers source v before nodes && nodes_hold covers source v after more)
  nodes_hold-append before after [] more e = let same_place : before ≡ after = omega arith in ap (λ n. nodes_hold covers source v n more) same_place
  nodes_hold-append before after (node ∷ nodes) more e =
      let here = same (v (suc before)) (node_value covers source v before node) in
      ap (λ b. here && b) (nodes_hold-append (suc before) after nodes more (omega arith))
      ∙ sym (and_assoc here (nodes_hold covers source v (suc before) nodes) (nodes_hold covers source v after more))

  pub value-at : (before at place : ℕ) (nodes : List Node) (node : Node) → at ≡ before + place → slice_get nodes place ≡ Some node →
      IsTrue (nodes_hold covers source v before nodes) → v (suc at) ≡ node_value covers source v at node
  value-at before at place [] node e found hold = cc
  value-at before at zero (first ∷ nodes) node e found hold =
      let parts = and_parts (same (v (suc before)) (node_value covers source v before first)) (nodes_hold covers source v (suc before) nodes) hold in
      let here : first ≡ node = cc in
      let place : before ≡ at = omega arith in
      let value = same-is (v (suc before)) (node_value covers source v before first) parts.0 in
      subst (λ k. v (suc k) ≡ node_value covers source v k node) place (subst (λ n. v (suc before) ≡ node_value covers source v before n) here value)
  value-at before at (suc place) (first ∷ nodes) node e found hold =
      let parts = and_parts (same (v (suc before)) (node_value covers source v before first)) (nodes_hold covers source v (suc before) nodes) hold in
      value-at (suc before) at place nodes node (omega arith) found parts.1

  pub both-hold : (given : ℕ) (nodes more : List Node) → IsEvaluation covers given source v (nodes ++ more) →
      IsTrue (nodes_hold covers source v (suc given) nodes) × IsTrue (nodes_hold covers source v (variables_of given nodes) more)
  both-hold given nodes more is =
      and_parts (nodes_hold covers source v (suc given) nodes) (nodes_hold covers source v (variables_of given nodes) more)
      (sym (nodes_hold-append (suc given) (variables_of given nodes) nodes more (omega arith)) ∙ is.hold)

  pub before-evaluation : (given : ℕ) (nodes more : List Node) → IsEvaluation covers given source v (nodes ++ more) → IsEvaluation covers given source v nodes
  before-evaluation given nodes more is = record { yes = is.yes; hold = (both-hold given nodes more is).0 }

  -- the value of one node more
  pub new-value : (given : ℕ) (nodes : List Node) (node : Node) → IsEvaluation covers given source v (nodes ++ node ∷ []) →
      v (suc (variables_of given nodes)) ≡ node_value covers source v (variables_of given nodes) node
  new-value given nodes node is =
      let last = (both-hold given nodes (node ∷ []) is).1 in
      let at = variables_of given nodes in
      same-is (v (suc at)) (node_value covers source v at node) (and_parts (same (v (suc at)) (node_value covers source v at node)) true last).0

  -- with values of their own, free nodes are as they should be
  any-value : (before : ℕ) (node : Node) → IsTrue (same (v (suc before)) (node_value covers source v before node)) →
      IsTrue (same (v (suc before)) (node_value covers any v before node))
  any-value before (Free frame bit) holds = same-from (v (suc before)) (v (suc before)) refl
  any-value before (And first second) holds = holds
  any-value before (Lut cover a b c d) holds = holds

  pub any-hold : (before : ℕ) (nodes : List Node) → IsTrue (nodes_hold covers source v before nodes) → IsTrue (nodes_hold covers any v before nodes)
  any-hold before [] hold = refl
  any-hold before (node ∷ nodes) hold =
      let parts = and_parts (same (v (suc before)) (node_value covers source v before node)) (nodes_hold covers source v (suc before) nodes) hold in
      and_from (same (v (suc before)) (node_value covers any v before node)) (nodes_hold covers any v (suc before) nodes)
      (any-value before node parts.0) (any-hold (suc before) nodes parts.1)

  pub any-evaluation : (given : ℕ) (nodes : List Node) → IsEvaluation covers given source v nodes → IsEvaluation covers given any v nodes
  any-evaluation given nodes is = record { yes = is.yes; hold = any-hold (suc given) nodes is.hold }

pub nodes_within-append : (before after : ℕ) (nodes more : List Node) → after ≡ before + length nodes → IsTrue (nodes_within before nodes) → IsTrue (nodes_within after more) →
    IsTrue (nodes_within before (nodes ++ more))
nodes_within-append before after [] more e first second = let same_place : after ≡ before = omega arith in subst (λ n. IsTrue (nodes_within n more)) same_place second
nodes_within-append before after (node ∷ nodes) more e first second =
    let parts = and_parts (node_within before node) (nodes_within (suc before) nodes) first in
    and_from (node_within before node) (nodes_within (suc before) (nodes ++ more)) parts.0 (nodes_within-append (suc before) after nodes more (omega arith) parts.1 second)

pub variables-more : (given : ℕ) (nodes more : List Node) → variables_of given nodes ≤ variables_of given (nodes ++ more)
variables-more given nodes more = omega (arith, length-append nodes more)
