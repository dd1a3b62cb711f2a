-- The literals of nodes and of cubes are literals.
use Rattle.std.proofs.Common.{◌≡◌, ℕ, zero, suc, ◌+◌, ◌<◌, ℤ, List, [], ◌∷◌, length, drop, drop-cons, get_or, sym, ap, ◌∙◌, subst, arith}
use Rattle.std.specs.Bool.{IsTrue}
use Rattle.std.specs.Prelude.{slice_index_or}
use Rattle.std.proofs.lemmas.Bool.{and_parts}
use Rattle.clauses.specs.Literals.{clause_within, clauses_within}
use Rattle.gates_nodes.specs.declared.node.Node.{Node}
use Rattle.gates_nodes.specs.declared.node.Node.TheVariants.{Free}
use Rattle.gates_nodes.specs.Nodes.{node_within, nodes_within}

abbrev pub node_at : List Node → ℕ → Node
node_at nodes place = slice_index_or nodes place (Free 0 0)

-- the node at a place names earlier literals
pub within-at : (before place : ℕ) (nodes : List Node) → place < length nodes → IsTrue (nodes_within before nodes) → IsTrue (node_within (before + place) (node_at nodes place))
within-at before place [] below within = absurd (omega arith)
within-at before zero (node ∷ nodes) below within =
    let e : before ≡ before + 0 = omega arith in
    subst (λ n. IsTrue (node_within n node)) e (and_parts (node_within before node) (nodes_within (suc before) nodes) within).0
within-at before (suc place) (node ∷ nodes) below within =
    let e : suc before + place ≡ before + suc place = omega arith in
    subst (λ n. IsTrue (node_within n (node_at nodes place))) e
    (within-at (suc before) place nodes (omega arith) (and_parts (node_within before node) (nodes_within (suc before) nodes) within).1)

item-at : {X : Type 0} (xs : List X) (i : ℕ) (x : X) → i < length xs → x ≡ get_or xs i x → drop i xs ≡ x ∷ drop (suc i) xs
item-at xs i x below is = drop-cons xs i x below ∙ ap (λ y. y ∷ drop (suc i) xs) (sym is)

-- the first of the clauses that are left, and the others
pub item-within : (n : ℕ) (clauses : List (List ℤ)) (i : ℕ) (clause : List ℤ) → i < length clauses → clause ≡ get_or clauses i clause → IsTrue (clauses_within n (drop i clauses)) →
    IsTrue (clause_within n clause) × IsTrue (clauses_within n (drop (suc i) clauses))
item-within n clauses i clause below is within =
    and_parts (clause_within n clause) (clauses_within n (drop (suc i) clauses)) (subst (λ (left : List (List ℤ)). IsTrue (clauses_within n left)) (item-at clauses i clause below is) within)
