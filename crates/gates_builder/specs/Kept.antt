-- What a builder keeps.
use Rattle.std.specs.Prelude.{◌≡◌, ◌≤◌, ℤ}
use Rattle.std.specs.BTreeMap.{get_by}
use Rattle.std.specs.Ordering.{int_cmp, ordering_then}
use Rattle.clauses.specs.declared.flat.TheConstants.{MOST_VARIABLES}
use Rattle.gates_nodes.specs.Folding.{place_of}
use Rattle.gates_nodes.specs.Makes.{AreSound}
use Rattle.gates_nodes.specs.Nodes.{variables_of}
use Rattle.gates_builder.specs.declared.builder.Builder.TheInside.{Inside}
use Rattle.gates_builder.specs.Adding.{Making}

-- what contracts see of it
abbrev pub making_of : Inside → Making
making_of builder = record { given = builder.given; covers = builder.covers; nodes = builder.nodes.items }

-- there are no more variables than there may be, the map has the first place of each conjunction, and the nodes name
-- earlier literals
abbrev pub IsKept : Inside → Type 0
IsKept builder = (variables_of builder.given builder.nodes.items ≤ MOST_VARIABLES)
    × ((first second : ℤ) → get_by (λ key. ordering_then (int_cmp first key.0) (int_cmp second key.1)) builder.places
    ≡ place_of first second builder.nodes.items)
    × AreSound builder.given builder.nodes.items
