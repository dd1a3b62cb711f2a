-- The clauses of nodes, and of those nodes alone that other clauses ask for.
use Rattle.std.specs.Prelude.{ℕ, suc, ◌==◌, ℤ, pos, negsuc, neg_ℤ, Bool, cond, List, [], ◌∷◌, ◌++◌, map}
use Rattle.std.specs.List.{flat_map, list_any}
use Rattle.clauses.specs.Literals.{variable_of}
use Rattle.clauses.specs.Models.{Assignment}
use Rattle.gates_theory.specs.Unrolled.{conjunction}
use Rattle.gates_nodes.specs.declared.cover.Cover.{Cover}
use Rattle.gates_nodes.specs.declared.node.Node.{Node}
use Rattle.gates_nodes.specs.declared.node.Node.TheVariants.{Free, And, Lut}
use Rattle.gates_nodes.specs.Nodes.{Source, cover_at, node_value, yes}
use Rattle.gates_nodes.specs.Tables.{cubes}

-- for each of some cubes: where its literals are true, so is another literal
abbrev pub implied : ℤ → List (List ℤ) → List (List ℤ)
implied literal cubes = map (λ cube. literal ∷ map neg_ℤ cube) cubes

-- the clauses of a node that follows so many variables: those of Tseitin for a conjunction, and one for each row of a cover
abbrev pub node_clauses : List Cover → ℕ → ℕ → Node → List (List ℤ)
node_clauses covers given before (Free frame bit) = []
node_clauses covers given before (And first second) = conjunction (pos (suc before)) first second
node_clauses covers given before (Lut cover a b c d) =
    implied (pos (suc before)) (cubes given (cover_at covers cover).on (a ∷ b ∷ c ∷ d ∷ []))
    ++ implied (negsuc before) (cubes given (cover_at covers cover).off (a ∷ b ∷ c ∷ d ∷ []))

-- the literals that a node names
abbrev pub named : Node → List ℤ
named (Free frame bit) = []
named (And first second) = first ∷ second ∷ []
named (Lut cover a b c d) = a ∷ b ∷ c ∷ d ∷ []

-- whether a variable is among those of literals
abbrev pub asks : List ℤ → ℕ → Bool
asks literals variable = list_any (λ literal. variable_of literal == variable) literals

-- the literals that are asked for, with those that the asked ones of some nodes name; the nodes follow so many variables
abbrev pub wanted : ℕ → List Node → List ℤ → List ℤ
wanted before [] literals = literals
wanted before (node ∷ nodes) literals =
    cond (asks (wanted (suc before) nodes literals) (suc before)) (named node ++ wanted (suc before) nodes literals)
    (wanted (suc before) nodes literals)

-- the clauses of the nodes that are asked for, those of the last one first
abbrev pub asked_clauses : List Cover → ℕ → ℕ → List Node → List ℤ → List (List ℤ)
asked_clauses covers given before [] literals = []
asked_clauses covers given before (node ∷ nodes) literals =
    asked_clauses covers given (suc before) nodes literals
    ++ cond (asks (wanted (suc before) nodes literals) (suc before)) (node_clauses covers given before node) []

-- the formula of some clauses over nodes
abbrev pub formula : List Cover → ℕ → List Node → List (List ℤ) → List (List ℤ)
formula covers given nodes clauses =
    (yes given ∷ []) ∷ asked_clauses covers given (suc given) nodes (flat_map (λ clause. clause) clauses) ++ clauses

-- an assignment in which a variable has a value
abbrev pub with_value : Assignment → ℕ → Bool → Assignment
with_value values variable value other = cond (other == variable) value (values other)

-- the values of nodes that follow so many variables, computed one by one
abbrev pub evaluated : List Cover → Source → Assignment → ℕ → List Node → Assignment
evaluated covers source values before [] = values
evaluated covers source values before (node ∷ nodes) =
    evaluated covers source (with_value values (suc before) (node_value covers source values before node)) (suc before) nodes
