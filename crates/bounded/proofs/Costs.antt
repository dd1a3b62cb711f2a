-- What nodes cost: each one, and the words of its clauses. A conjunction costs 11, a free node 1.
use Rattle.std.proofs.Common.{◌≡◌, ℕ, suc, ◌+◌, ◌*◌, ◌≤◌, ℤ, pos, negsuc, neg_ℤ, cond, List, [], ◌∷◌, ◌++◌, map, fold, length, Option, None, Some, refl, arith}
use Rattle.std.specs.List.{sum_by}
use Rattle.std.proofs.lemmas.Bool.{cond_both}
use Rattle.std.proofs.lemmas.List.Sums.{sum_by-cons, sum_by_push}
use Rattle.clauses.specs.Literals.{clause_words}
use Rattle.gates_letters.specs.Booleans.{joined}
use Rattle.gates_nodes.specs.declared.cover.Cover.{Cover}
use Rattle.gates_nodes.specs.declared.node.Node.{Node}
use Rattle.gates_nodes.specs.declared.node.Node.TheVariants.{Free, And, Lut}
use Rattle.gates_nodes.specs.Clauses.{asked_clauses, asks, implied, node_clauses, wanted}
use Rattle.gates_nodes.specs.Folding.{Built, at_place, conjoined, either, folded, higher, lower, place_of, unless_folded}
use Rattle.gates_nodes.specs.Nodes.{cover_at}
use Rattle.gates_nodes.specs.Tables.{cubes}
use Rattle.gates_theory.specs.Unrolled.{conjunction}
use Rattle.gates_theory.proofs.Sizes.{words-append, words-cons}

-- the words of a node's clauses hang on no number of a variable
implied-same : (x y : ℤ) (cubes : List (List ℤ)) → clause_words (implied x cubes) ≡ clause_words (implied y cubes)
implied-same x y [] = refl
implied-same x y (cube ∷ cubes) =
    omega (arith, words-cons (x ∷ map neg_ℤ cube) (implied x cubes), words-cons (y ∷ map neg_ℤ cube) (implied y cubes), implied-same x y cubes)

conjunction-words : (c a b : ℤ) → clause_words (conjunction c a b) ≡ 10
conjunction-words c a b =
    omega (
      arith,
      words-cons (neg_ℤ c ∷ a ∷ []) ((neg_ℤ c ∷ b ∷ []) ∷ (c ∷ neg_ℤ a ∷ neg_ℤ b ∷ []) ∷ []),
      words-cons (neg_ℤ c ∷ b ∷ []) ((c ∷ neg_ℤ a ∷ neg_ℤ b ∷ []) ∷ []),
      words-cons (c ∷ neg_ℤ a ∷ neg_ℤ b ∷ []) [],
    )

-- one side of a cover, and both, over the literals of its inputs
abbrev pub side_words : List (List ℤ) → ℕ
side_words cubes = clause_words (implied (pos 1) cubes)

abbrev pub cover_words : Cover → List ℤ → ℕ
cover_words cover literals = side_words (cubes 0 cover.on literals) + side_words (cubes 0 cover.off literals)

abbrev pub cost : List Cover → Node → ℕ
cost covers (Free frame bit) = 1
cost covers (And first second) = 11
cost covers (Lut cover a b c d) = suc (cover_words (cover_at covers cover) (a ∷ b ∷ c ∷ d ∷ []))

abbrev pub costs : List Cover → List Node → ℕ
costs covers nodes = sum_by (cost covers) nodes

module _ (covers : List Cover) where
  node-words : (before : ℕ) (node : Node) → suc (clause_words (node_clauses covers 0 before node)) ≡ cost covers node
  node-words before (Free frame bit) = refl
  node-words before (And first second) = omega (arith, conjunction-words (pos (suc before)) first second)
  node-words before (Lut cover a b c d) =
      let on = cubes 0 (cover_at covers cover).on (a ∷ b ∷ c ∷ d ∷ []) in
      let off = cubes 0 (cover_at covers cover).off (a ∷ b ∷ c ∷ d ∷ []) in
      omega (
        arith,
        words-append (implied (pos (suc before)) on) (implied (negsuc before) off),
        implied-same (pos (suc before)) (pos 1) on,
        implied-same (negsuc before) (pos 1) off,
      )

  -- the nodes and the words of the clauses of those that are asked for
  pub asked-words : (before : ℕ) (nodes : List Node) (literals : List ℤ) → clause_words (asked_clauses covers 0 before nodes literals) + length nodes ≤ costs covers nodes
  asked-words before [] literals = omega arith
  asked-words before (node ∷ nodes) literals =
      let is_asked = asks (wanted (suc before) nodes literals) (suc before) in
      let clauses = node_clauses covers 0 before node in
      let few = cond_both is_asked clauses [] (λ c. clause_words c ≤ clause_words clauses) (λ e. omega arith) (λ e. omega arith) in
      omega (
        arith,
        words-append (asked_clauses covers 0 (suc before) nodes literals) (cond is_asked clauses []),
        few,
        node-words before node,
        asked-words (suc before) nodes literals,
        sum_by-cons (cost covers) node nodes,
      )

  pub nodes-few : (nodes : List Node) → length nodes ≤ costs covers nodes
  nodes-few nodes = let e = asked-words 0 nodes [] in omega (arith, e)

  pub costs-push : (nodes : List Node) (node : Node) → costs covers (nodes ++ node ∷ []) ≡ costs covers nodes + cost covers node
  costs-push nodes node = sum_by_push (cost covers) nodes node

  -- conjunctions
  at-costs : (nodes : List Node) (a b : ℤ) (place : Option ℕ) → costs covers (at_place 0 nodes a b place).nodes ≤ costs covers nodes + 11
  at-costs nodes a b None = omega (arith, costs-push nodes (And a b))
  at-costs nodes a b (Some place) = omega arith

  folded-costs : (nodes : List Node) (a b : ℤ) (found : Option ℤ) → costs covers (unless_folded 0 nodes a b found).nodes ≤ costs covers nodes + 11
  folded-costs nodes a b None = at-costs nodes (lower a b) (higher a b) (place_of (lower a b) (higher a b) nodes)
  folded-costs nodes a b (Some literal) = omega arith

  pub conjoined-costs : (nodes : List Node) (a b : ℤ) → costs covers (conjoined 0 nodes a b).nodes ≤ costs covers nodes + 11
  conjoined-costs nodes a b = folded-costs nodes a b (folded 0 a b)

  pub either-costs : (nodes : List Node) (a b : ℤ) → costs covers (either 0 nodes a b).nodes ≤ costs covers nodes + 11
  either-costs nodes a b = conjoined-costs nodes (neg_ℤ a) (neg_ℤ b)

  pub all-costs : (literals : List ℤ) (now : Built) →
      costs covers (fold (λ (more : Built) literal. conjoined 0 more.nodes more.output literal) now literals).nodes ≤ costs covers now.nodes + 11 * length literals
  all-costs [] now = omega arith
  all-costs (literal ∷ literals) now =
      let one = conjoined-costs now.nodes now.output literal in
      let rest = all-costs literals (conjoined 0 now.nodes now.output literal) in
      omega (arith, one, rest)

  -- what is made behind any nodes costs at most so much
  abbrev pub PartCosts : ℕ → (List Node → Built) → Type 0
  PartCosts most part = (nodes : List Node) → costs covers (part nodes).nodes ≤ costs covers nodes + most

  pub joined-costs : (join : List Node → ℤ → ℤ → Built) (first second : List Node → Built) (m n : ℕ)
      → ((nodes : List Node) (a b : ℤ) → costs covers (join nodes a b).nodes ≤ costs covers nodes + 11)
      → PartCosts m first → PartCosts n second → PartCosts (m + n + 11) (joined join first second)
  joined-costs join first second m n joins one two nodes =
      let left = first nodes in
      let right = second left.nodes in
      omega (arith, one nodes, two left.nodes, joins right.nodes left.output right.output)
