-- The nodes of tables. A table of at most four inputs is one node, unless a literal says what it says: where a row is met
-- by constants alone, or where one side has one row that asks one literal. A table of more is made of conjunctions.
use Rattle.std.specs.Prelude.{ℕ, ℤ, neg_ℤ, Bool, true, false, cond, ◌||◌, List, [], ◌∷◌, ◌++◌, fold, Option, None, Some}
use Rattle.std.specs.List.{filter_map, list_any}
use Rattle.std.specs.Option.{option_map, option_or}
use Rattle.std.specs.Ordering.{int_eq}
use Rattle.netlist.specs.declared.rows.Mark.{Mark}
use Rattle.netlist.specs.declared.rows.Mark.TheVariants as marks
use Rattle.gates_nodes.specs.declared.cover.Cover.{Cover}
use Rattle.gates_nodes.specs.declared.node.Node.{Node}
use Rattle.gates_nodes.specs.declared.node.Node.TheVariants.{Lut}
use Rattle.gates_nodes.specs.Folding.{Built, conjoined_all, either, with_node}
use Rattle.gates_nodes.specs.Nodes.{yes, no, cover_at}

-- the literal that a mark asks to be true, of that of an input
abbrev pub marked : ℕ → Mark → ℤ → ℤ
marked given marks.Zero literal = neg_ℤ literal
marked given marks.One literal = literal
marked given marks.Any literal = yes given

-- the literals that a row asks to be true
abbrev pub asked : ℕ → List Mark → List ℤ → List ℤ
asked given (mark ∷ row) (literal ∷ literals) = marked given mark literal ∷ asked given row literals
asked given _ _ = []

-- whether a literal is among some
abbrev pub has_literal : List ℤ → ℤ → Bool
has_literal literals literal = list_any (int_eq literal) literals

-- One literal more is to be true with others: it is left out where it is true or there already, and they are not true
-- together where it is false or the opposite of one.
abbrev pub with_literal : ℕ → Option (List ℤ) → ℤ → Option (List ℤ)
with_literal given None literal = None
with_literal given (Some literals) literal =
    cond (int_eq literal (yes given) || has_literal literals literal) (Some literals)
    (cond (int_eq literal (no given) || has_literal literals (neg_ℤ literal)) None (Some (literals ++ literal ∷ [])))

-- what is left of literals that are to be true together, if they can be
abbrev pub left_of : ℕ → List ℤ → Option (List ℤ)
left_of given literals = fold (with_literal given) (Some []) literals

-- what is left of each row that can fit
abbrev pub cubes : ℕ → List (List Mark) → List ℤ → List (List ℤ)
cubes given rows literals = filter_map (λ row. left_of given (asked given row literals)) rows

abbrev pub is_nil : List ℤ → Bool
is_nil [] = true
is_nil (_ ∷ _) = false

-- the one literal of the one cube
abbrev pub sole_of : List ℤ → Option ℤ
sole_of [] = None
sole_of (literal ∷ []) = Some literal
sole_of (_ ∷ _ ∷ _) = None

abbrev pub sole : List (List ℤ) → Option ℤ
sole [] = None
sole (cube ∷ []) = sole_of cube
sole (_ ∷ _ ∷ _) = None

-- the literal that says what two sides say, if one does
abbrev pub told_by : ℕ → List (List ℤ) → List (List ℤ) → Option ℤ
told_by given on off =
    cond (list_any is_nil on) (Some (yes given))
    (cond (list_any is_nil off) (Some (no given)) (option_or (sole on) (option_map neg_ℤ (sole off))))

-- a table by the number of its cover
abbrev pub unless_told : ℕ → List Node → Node → Option ℤ → Built
unless_told given nodes node None = with_node given nodes node
unless_told given nodes node (Some literal) = record { nodes = nodes; output = literal }

abbrev pub tabled : List Cover → ℕ → List Node → ℕ → ℤ → ℤ → ℤ → ℤ → Built
tabled covers given nodes cover a b c d =
    unless_told given nodes (Lut cover a b c d)
    (told_by given (cubes given (cover_at covers cover).on (a ∷ b ∷ c ∷ d ∷ []))
    (cubes given (cover_at covers cover).off (a ∷ b ∷ c ∷ d ∷ [])))

-- some row fits, of any number of inputs
abbrev pub with_row : ℕ → List ℤ → Built → List Mark → Built
with_row given literals now row =
    either given (conjoined_all given now.nodes (asked given row literals)).nodes now.output
    (conjoined_all given now.nodes (asked given row literals)).output

abbrev pub some_row : ℕ → List Node → List (List Mark) → List ℤ → Built
some_row given nodes rows literals = fold (with_row given literals) (record { nodes = nodes; output = no given }) rows
