-- Which bits a path stands for.
use Rattle.std.specs.Prelude.{Bool as Truth, ℕ, ◌+◌, ◌-◌, List, [], ◌∷◌, ◌&&◌, ◌||◌, nat_le, if◌then◌else◌, Option, None, Some}
use Rattle.psl_lexer.specs.declared.token.Token.{Token}
use Rattle.psl_sugar.specs.Vectors.{side_by_side}
use Rattle.psl_tree.specs.declared.name.Name.{Name}
use Rattle.psl_layer_theory.specs.Buses.{bus}
use Rattle.psl_layer_theory.specs.LookUp.{look_up}
use Rattle.psl_layer_theory.specs.declared.found.Found.{Found}
use Rattle.psl_layer_theory.specs.declared.found.Found.TheVariants as finds
use Rattle.psl_layer_theory.specs.declared.found.Reference.{Reference}
use Rattle.psl_layer_theory.specs.declared.found.Reference.TheVariants as references
use Rattle.psl_layer_theory.specs.Texts.{path_text, indexed_text, number_of}

-- a number is an index from one end of a range to the other
abbrev pub is_index : ℕ → ℕ → ℕ → Truth
is_index left right index = (nat_le left index && nat_le index right) || (nat_le right index && nat_le index left)

-- how far two numbers are apart
abbrev pub distance : ℕ → ℕ → ℕ
distance first second = (first - second) + (second - first)

-- a signal without an index: all its bits
abbrev pub whole_of : Found → Reference
whole_of finds.Nothing = references.Nothing
whole_of (finds.One signal left right) = references.Bits (side_by_side signal 0 (distance left right + 1))
whole_of finds.Several = references.Several

-- the bit of a signal that an index stands for: its distance from the right end of the range
abbrev pub bit_of : Found → ℕ → Reference
bit_of finds.Nothing index = references.Nothing
bit_of (finds.One signal left right) index =
    if is_index left right index then references.Bits (side_by_side signal (distance index right) 1) else references.Nothing
bit_of finds.Several index = references.Several

-- what a path with an index stands for: a signal named by the path and the index, without an index, if one matches
abbrev pub with_index : Found → Found → ℕ → Reference
with_index finds.Nothing path index = bit_of path index
with_index (finds.One signal left right) path index = whole_of (finds.One signal left right)
with_index finds.Several path index = references.Several

-- what a path without an index stands for: a signal, or, if none matches, a bus
abbrev pub without_index : Found → Reference → Reference
without_index finds.Nothing bus = bus
without_index (finds.One signal left right) bus = whole_of (finds.One signal left right)
without_index finds.Several bus = references.Several

-- what a text stands for, perhaps with an index
abbrev pub refers_to : List Name → List ℕ → Option ℕ → Reference
refers_to names text None = without_index (look_up names text) (bus names text)
refers_to names text (Some index) = with_index (look_up names (indexed_text text index)) (look_up names text) index

-- the number of an index, if there is one
abbrev pub index_number : Option Token → Option ℕ
index_number None = None
index_number (Some token) = Some (number_of token)

-- what a path stands for, perhaps with an index
abbrev pub reference : List Name → List Token → Option Token → Reference
reference names path index = refers_to names (path_text path) (index_number index)
