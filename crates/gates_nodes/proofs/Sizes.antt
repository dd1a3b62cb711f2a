-- The literals of a formula over nodes.
use Rattle.std.proofs.Common.{ℕ, suc, ◌+◌, ◌≤◌, ℤ, pos, negsuc, neg_ℤ, cond, List, [], ◌∷◌, ◌++◌, map, length, refl, arith}
use Rattle.std.specs.Bool.{IsTrue}
use Rattle.std.specs.List.{flat_map}
use Rattle.std.proofs.lemmas.Bool.{and_from, and_parts, cond_both}
use Rattle.clauses.specs.Literals.{clause_within, clauses_within, is_within}
use Rattle.gates_theory.specs.Unrolled.{conjunction}
use Rattle.gates_theory.proofs.Literals.{within_from}
use Rattle.gates_theory.proofs.Within.{both_within, negated_within, wider}
use Rattle.gates_nodes.specs.declared.cover.Cover.{Cover}
use Rattle.gates_nodes.specs.declared.node.Node.{Node}
use Rattle.gates_nodes.specs.declared.node.Node.TheVariants.{Free, And, Lut}
use Rattle.gates_nodes.specs.Clauses.{asked_clauses, asks, formula, implied, node_clauses, wanted}
use Rattle.gates_nodes.specs.Makes.{AreSound}
use Rattle.gates_nodes.specs.Nodes.{cover_at, node_within, nodes_within, variables_of, yes}
use Rattle.gates_nodes.specs.Tables.{cubes}
use Rattle.gates_nodes.proofs.Cubes.{cubes-within}
use Rattle.gates_nodes.proofs.Literals.{first_within, more_within, rest_within, wider_literal, yes-within}

pub negated_all : (n : ℕ) (literals : List ℤ) → IsTrue (clause_within n literals) → IsTrue (clause_within n (map neg_ℤ literals))
negated_all n [] within = refl
negated_all n (l ∷ literals) within =
    more_within n (neg_ℤ l) (map neg_ℤ literals) (negated_within n l (first_within n l literals within)) (negated_all n literals (rest_within n l literals within))

implied-within : (n : ℕ) (l : ℤ) (cubes : List (List ℤ)) → IsTrue (is_within n l) → IsTrue (clauses_within n cubes) → IsTrue (clauses_within n (implied l cubes))
implied-within n l [] here within = refl
implied-within n l (cube ∷ cubes) here within =
    let parts = and_parts (clause_within n cube) (clauses_within n cubes) within in
    and_from (clause_within n (l ∷ map neg_ℤ cube)) (clauses_within n (implied l cubes)) (more_within n l (map neg_ℤ cube) here (negated_all n cube parts.0)) (implied-within n l cubes here parts.1)

conjunction-within : (n : ℕ) (c a b : ℤ) → IsTrue (is_within n c) → IsTrue (is_within n a) → IsTrue (is_within n b) → IsTrue (clauses_within n (conjunction c a b))
conjunction-within n c a b result first second =
    let none : IsTrue (clause_within n []) = refl in
    let low = negated_within n c result in
    and_from (clause_within n (neg_ℤ c ∷ a ∷ [])) _ (more_within n (neg_ℤ c) (a ∷ []) low (more_within n a [] first none))
    (and_from (clause_within n (neg_ℤ c ∷ b ∷ [])) _ (more_within n (neg_ℤ c) (b ∷ []) low (more_within n b [] second none))
    (and_from (clause_within n (c ∷ neg_ℤ a ∷ neg_ℤ b ∷ [])) _
    (more_within n c (neg_ℤ a ∷ neg_ℤ b ∷ []) result (more_within n (neg_ℤ a) (neg_ℤ b ∷ []) (negated_within n a first) (more_within n (neg_ℤ b) [] (negated_within n b second) none))) refl))

module _ (covers : List Cover) (given : ℕ) where
  pub node_clauses-within : (n before : ℕ) (node : Node) → suc given ≤ before → suc before ≤ n → IsTrue (node_within before node) → IsTrue (clauses_within n (node_clauses covers given before node))
  node_clauses-within n before (Free frame bit) few fits within = refl
  node_clauses-within n before (And first second) few fits within =
      let parts = and_parts (is_within before first) (is_within before second) within in
      conjunction-within n (pos (suc before)) first second (within_from n (pos (suc before)) (omega arith) fits)
      (wider_literal before n (omega arith) first parts.0) (wider_literal before n (omega arith) second parts.1)
  node_clauses-within n before (Lut number a b c d) few fits within =
      let cover = cover_at covers number in
      let literals = a ∷ b ∷ c ∷ d ∷ [] in
      let here = wider before n (omega arith) literals within in
      both_within n (implied (pos (suc before)) (cubes given cover.on literals)) (implied (negsuc before) (cubes given cover.off literals))
      (implied-within n (pos (suc before)) (cubes given cover.on literals) (within_from n (pos (suc before)) (omega arith) fits) (cubes-within n given cover.on literals (omega arith) here))
      (implied-within n (negsuc before) (cubes given cover.off literals) (within_from n (negsuc before) (omega arith) fits) (cubes-within n given cover.off literals (omega arith) here))

  asked-within : (n before : ℕ) (nodes : List Node) (literals : List ℤ) → suc given ≤ before → before + length nodes ≤ n → IsTrue (nodes_within before nodes) →
      IsTrue (clauses_within n (asked_clauses covers given before nodes literals))
  asked-within n before [] literals few fits within = refl
  asked-within n before (node ∷ nodes) literals few fits within =
      let names = and_parts (node_within before node) (nodes_within (suc before) nodes) within in
      let is_asked = asks (wanted (suc before) nodes literals) (suc before) in
      let clauses = node_clauses covers given before node in
      both_within n (asked_clauses covers given (suc before) nodes literals) (cond is_asked clauses [])
      (asked-within n (suc before) nodes literals (omega arith) (omega arith) names.1)
      (cond_both is_asked clauses [] (λ c. IsTrue (clauses_within n c)) (λ _. node_clauses-within n before node few (omega arith) names.0) (λ _. refl))

  pub formula-within : (nodes : List Node) (clauses : List (List ℤ)) → AreSound given nodes → IsTrue (clauses_within (variables_of given nodes) clauses) →
      IsTrue (clauses_within (variables_of given nodes) (formula covers given nodes clauses))
  formula-within nodes clauses sound within =
      let n = variables_of given nodes in
      let asked = asked_clauses covers given (suc given) nodes (flat_map (λ (c : List ℤ). c) clauses) in
      and_from (clause_within n (yes given ∷ [])) (clauses_within n (asked ++ clauses)) (more_within n (yes given) [] (yes-within n given (omega arith)) refl)
      (both_within n asked clauses (asked-within n (suc given) nodes (flat_map (λ (c : List ℤ). c) clauses) (omega arith) (omega arith) sound) within)
