-- Which entries of a list of names a text matches, and what they say.
use Rattle.std.specs.Prelude.{Bool as Truth, ℕ, List, [], ◌∷◌, ◌==◌, ◌&&◌, nat_eq, if◌then◌else◌}
use Rattle.std.specs.List.{filter, list_all, ends_with}
use Rattle.std.specs.Str.{bytes_eq}
use Rattle.psl_tree.specs.declared.name.Name.{Name}
use Rattle.psl_layer_theory.specs.declared.found.Found.{Found}
use Rattle.psl_layer_theory.specs.declared.found.Found.TheVariants as finds

-- an entry has this text
abbrev pub is_named : List ℕ → Name → Truth
is_named text name = bytes_eq name.text text

-- an entry ends with a dot and this text
abbrev pub ends_named : List ℕ → Name → Truth
ends_named text name = ends_with nat_eq name.text (46 ∷ text)

-- the first list, if it has a member, else the second
abbrev pub first_filled : List Name → List Name → List Name
first_filled [] second = second
first_filled (name ∷ more) second = name ∷ more

-- the entries that a text matches: those that have it, or, if none has it, those that end with a dot and it
abbrev pub matches : List Name → List ℕ → List Name
matches names text = first_filled (filter (is_named text) names) (filter (ends_named text) names)

-- two entries name the same signal with the same range
abbrev pub is_same_range : Name → Name → Truth
is_same_range first second = (first.signal == second.signal) && (first.left == second.left) && (first.right == second.right)

-- what matching entries say together: those of one signal with one range count as one
abbrev pub found_among : List Name → Found
found_among [] = finds.Nothing
found_among (first ∷ more) =
    if list_all (is_same_range first) more
    then finds.One first.signal first.left first.right
    else finds.Several

-- what a text stands for
abbrev pub look_up : List Name → List ℕ → Found
look_up names text = found_among (matches names text)

-- what a text stands for where the entries have to have it
abbrev pub named : List Name → List ℕ → Found
named names text = found_among (filter (is_named text) names)
