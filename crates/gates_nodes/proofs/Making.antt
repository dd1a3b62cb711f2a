-- Literals that are made one behind another.
use Rattle.std.proofs.Common.{◌≡◌, ℕ, zero, suc, ◌+◌, ◌<◌, ◌≤◌, ℤ, pos, neg_ℤ, Bool, true, false, not, cond, ◌&&◌, List, [], ◌∷◌, ◌++◌, length, slice_get, Option, None, Some, refl, sym, ap, ◌∙◌, subst, arith, append_assoc, length-append}
use Rattle.std.specs.Bool.{IsTrue}
use Rattle.std.specs.List.{position_from}
use Rattle.std.specs.Ordering.{int_eq}
use Rattle.std.proofs.lemmas.Bool.{and_from, and_parts}
use Rattle.std.proofs.lemmas.Bool.Decides.{Decides-int_eq}
use Rattle.std.proofs.lemmas.List.{append-nil}
use Rattle.clauses.specs.Literals.{is_within}
use Rattle.clauses.specs.Models.{Assignment, is_true}
use Rattle.gates_theory.proofs.Literals.{true-neg, within_from}
use Rattle.gates_theory.proofs.Within.{negated_within}
use Rattle.gates_nodes.specs.declared.cover.Cover.{Cover}
use Rattle.gates_nodes.specs.declared.node.Node.{Node}
use Rattle.gates_nodes.specs.declared.node.Node.TheVariants.{Free, And, Lut}
use Rattle.gates_nodes.specs.Folding.{Built, at_place, is_conjunction, place_of, shared, with_node}
use Rattle.gates_nodes.specs.Makes.{AreSound, Makes}
use Rattle.gates_nodes.specs.Nodes.{IsEvaluation, Source, node_value, node_within, variables_of}
use Rattle.gates_nodes.proofs.Literals.{positive, wider_literal}
use Rattle.gates_nodes.proofs.Values.{before-evaluation, new-value, nodes_within-append, value-at, variables-more}

-- a conjunction that is found is there
is_conjunction-true : (first second : ℤ) (node : Node) → is_conjunction first second node ≡ true → node ≡ And first second
is_conjunction-true first second (Free frame bit) e = cc
is_conjunction-true first second (And other_first other_second) e =
    let parts = and_parts (int_eq first other_first) (int_eq second other_second) e in
    rw ((Decides-int_eq first other_first).0 parts.0, (Decides-int_eq second other_second).0 parts.1) refl
is_conjunction-true first second (Lut cover a b c d) e = cc

record IsThere (nodes : List Node) (node : Node) (start at : ℕ) : Type 0 where
  place : ℕ
  is : at ≡ start + place
  found : slice_get nodes place ≡ Some node

there-by : (b : Bool) (first second : ℤ) (other : Node) (nodes : List Node) (start at : ℕ) → is_conjunction first second other ≡ b →
    cond b (Some start) (position_from (is_conjunction first second) (start + 1) nodes) ≡ Some at →
    (position_from (is_conjunction first second) (start + 1) nodes ≡ Some at → IsThere nodes (And first second) (start + 1) at) → IsThere (other ∷ nodes) (And first second) start at
there-by true first second other nodes start at e found later =
    let here : start ≡ at = cc in
    record { place = 0; is = omega arith; found = ap Some (is_conjunction-true first second other e) }
there-by false first second other nodes start at e found later =
    let rest = later found in
    record { place = suc rest.place; is = omega (arith, rest.is); found = rest.found }

there : (first second : ℤ) (nodes : List Node) (start at : ℕ) → position_from (is_conjunction first second) start nodes ≡ Some at → IsThere nodes (And first second) start at
there first second [] start at found = let no : None ≡ Some at = found in cc
there first second (other ∷ nodes) start at found =
    there-by (is_conjunction first second other) first second other nodes start at refl found (there first second nodes (start + 1) at)

place_within : (nodes : List Node) (place : ℕ) (node : Node) → slice_get nodes place ≡ Some node → place < length nodes
place_within [] place node found = let no : None ≡ Some node = found in cc
place_within (first ∷ nodes) zero node found = omega arith
place_within (first ∷ nodes) (suc place) node found = omega (arith, place_within nodes place node found)

module _ (covers : List Cover) (given : ℕ) where
  -- the value stays with more nodes
  pub value-kept : (old : List Node) (built : Built) (meaning : Assignment → Bool) (more new : List Node) → Makes covers given old built meaning → new ≡ built.nodes ++ more →
      (source : Source) (v : Assignment) → IsEvaluation covers given source v new → is_true v built.output ≡ meaning v
  value-kept old built meaning more new makes e source v is =
      makes.value source v (before-evaluation covers source v given built.nodes more (subst (λ n. IsEvaluation covers given source v n) e is))

  pub names-kept : (nodes more new : List Node) (literal : ℤ) → new ≡ nodes ++ more → IsTrue (is_within (variables_of given nodes) literal) → IsTrue (is_within (variables_of given new) literal)
  names-kept nodes more new literal e names =
      let order : variables_of given nodes ≤ variables_of given new = rw e (variables-more given nodes more) in
      wider_literal (variables_of given nodes) (variables_of given new) order literal names

  -- a literal that is there
  pub makes-literal : (nodes : List Node) (literal : ℤ) (meaning : Assignment → Bool) → AreSound given nodes → IsTrue (is_within (variables_of given nodes) literal) →
      ((source : Source) (v : Assignment) → IsEvaluation covers given source v nodes → is_true v literal ≡ meaning v) → Makes covers given nodes (record { nodes = nodes; output = literal }) meaning
  makes-literal nodes literal meaning sound names value = record {
    more = [];
    grown = sym (append-nil nodes);
    sound = sound;
    names = names;
    value = value;
  }

  -- another meaning that is the same
  pub makes-as : (old : List Node) (built : Built) (meaning other : Assignment → Bool) → Makes covers given old built meaning →
      ((source : Source) (v : Assignment) → IsEvaluation covers given source v built.nodes → meaning v ≡ other v) → Makes covers given old built other
  makes-as old built meaning other makes alike = record {
    more = makes.more;
    grown = makes.grown;
    sound = makes.sound;
    names = makes.names;
    value = λ source v is. makes.value source v is ∙ alike source v is;
  }

  -- one behind another
  pub makes-then : (old : List Node) (first second : Built) (meaning other : Assignment → Bool) → Makes covers given old first meaning → Makes covers given first.nodes second other →
      Makes covers given old second other
  makes-then old first second meaning other a b = record {
    more = a.more ++ b.more;
    grown = b.grown ∙ ap (λ n. n ++ b.more) a.grown ∙ append_assoc old a.more b.more;
    sound = b.sound;
    names = b.names;
    value = b.value;
  }

  pub makes-negated : (old : List Node) (built : Built) (meaning : Assignment → Bool) → Makes covers given old built meaning →
      Makes covers given old (record { nodes = built.nodes; output = neg_ℤ built.output }) (λ v. not (meaning v))
  makes-negated old built meaning makes = record {
    more = makes.more;
    grown = makes.grown;
    sound = makes.sound;
    names = negated_within (variables_of given built.nodes) built.output makes.names;
    value = λ source v is.
        true-neg v built.output (positive (variables_of given built.nodes) built.output makes.names) ∙ ap not (makes.value source v is);
  }

  -- one node more
  pub makes-node : (nodes : List Node) (node : Node) (meaning : Assignment → Bool) → AreSound given nodes → IsTrue (node_within (variables_of given nodes) node) →
      ((source : Source) (v : Assignment) (before : ℕ) → IsEvaluation covers given source v (nodes ++ node ∷ []) → before ≡ variables_of given nodes → node_value covers source v before node ≡ meaning v) →
      Makes covers given nodes (with_node given nodes node) meaning
  makes-node nodes node meaning sound names steady =
      let n = variables_of given nodes in
      let size : variables_of given (nodes ++ node ∷ []) ≡ suc n = omega (arith, length-append nodes (node ∷ [])) in
      record {
        more = node ∷ [];
        grown = refl;
        sound = nodes_within-append (suc given) n nodes (node ∷ []) (omega arith) sound (and_from (node_within n node) true names refl);
        names = rw size (within_from (suc n) (pos (suc n)) (omega arith) (omega arith));
        value = λ source v is. new-value covers source v given nodes node is ∙ steady source v n is refl;
      }

  -- a conjunction that is shared
  by_place : (place : Option ℕ) (nodes : List Node) (first second : ℤ) → place_of first second nodes ≡ place → AreSound given nodes → IsTrue (node_within (variables_of given nodes) (And first second)) →
      Makes covers given nodes (at_place given nodes first second place) (λ v. is_true v first && is_true v second)
  by_place None nodes first second e sound names = makes-node nodes (And first second) (λ v. is_true v first && is_true v second) sound names (λ source v before is at. refl)
  by_place (Some place) nodes first second e sound names =
      let at = there first second nodes 0 place e in
      let n = variables_of given nodes in
      let below = place_within nodes at.place (And first second) at.found in
      makes-literal nodes (pos (suc (suc given + place))) (λ v. is_true v first && is_true v second) sound
      (within_from n (pos (suc (suc given + place))) (omega arith) (omega (arith, at.is)))
      (λ source v is. value-at covers source v (suc given) (suc given + place) at.place nodes (And first second) (omega (arith, at.is)) at.found is.hold)

  pub makes-shared : (nodes : List Node) (first second : ℤ) → AreSound given nodes → IsTrue (node_within (variables_of given nodes) (And first second)) →
      Makes covers given nodes (shared given nodes first second) (λ v. is_true v first && is_true v second)
  makes-shared nodes first second sound names = by_place (place_of first second nodes) nodes first second refl sound names
