-- What a path stands for has a bit at least; and the first of some bits.
use Rattle.std.proofs.Common.{◌≡◌, ℕ, ◌+◌, ◌-◌, ◌≤◌, List, [], ◌∷◌, map, length, slice_get, Bool, true, false, if◌then◌else◌, Option, None, Some, refl, sym, ap, arith}
use Rattle.std.proofs.lemmas.List.{length-map}
use Rattle.std.proofs.lemmas.List.FromFn.{length-map-range_with_len}
use Rattle.std.specs.List.{list_any, range_with_len}
use Rattle.psl_sugar.specs.Vectors.{bit_of_signal, only_bit, side_by_side}
use Rattle.psl_sugar.specs.declared.vector.Bit.{Bit}
use Rattle.psl_tree.specs.Trees.{Boolean, Const, Test}
use Rattle.psl_tree.specs.declared.atom.Edge as atom_edge
use Rattle.psl_tree.specs.declared.name.Name.{Name}
use Rattle.psl_layer_theory.specs.Buses.{bit_behind, bits_behind, bus, bus_names, bus_over, is_found, is_hole, is_several, joined, signal_in}
use Rattle.psl_layer_theory.specs.Kernel.{edge_of_first}
use Rattle.psl_layer_theory.specs.LookUp.{look_up, named}
use Rattle.psl_layer_theory.specs.References.{is_index, distance, whole_of, bit_of, with_index, without_index, refers_to}
use Rattle.psl_layer_theory.specs.Texts.{indexed_text}
use Rattle.psl_layer_theory.specs.declared.found.Found.{Found}
use Rattle.psl_layer_theory.specs.declared.found.Found.TheVariants as finds
use Rattle.psl_layer_theory.specs.declared.found.Reference.{Reference}
use Rattle.psl_layer_theory.specs.declared.found.Reference.TheVariants as references
use Rattle.psl_layer.specs.Placed.{bits_in}

whole_some : (found : Found) → 1 ≤ bits_in (whole_of found)
whole_some finds.Nothing = omega arith
whole_some (finds.One signal left right) = omega (arith, length-map-range_with_len (bit_of_signal signal) 0 (distance left right + 1))
whole_some finds.Several = omega arith

some_if : (test : Bool) (signal place : ℕ) → 1 ≤ bits_in (if test then references.Bits (side_by_side signal place 1) else references.Nothing)
some_if true signal place = omega arith
some_if false signal place = omega arith

bit_some : (found : Found) (index : ℕ) → 1 ≤ bits_in (bit_of found index)
bit_some finds.Nothing index = omega arith
bit_some (finds.One signal left right) index = some_if (is_index left right index) signal (distance index right)
bit_some finds.Several index = omega arith

index_some : (found path : Found) (index : ℕ) → 1 ≤ bits_in (with_index found path index)
index_some finds.Nothing path index = bit_some path index
index_some (finds.One signal left right) path index = whole_some (finds.One signal left right)
index_some finds.Several path index = omega arith

joined_if : (hole several : Bool) (bits : List Bit) → 1 ≤ length bits → 1 ≤ bits_in (if hole then references.Nothing else if several then references.Several else references.Bits bits)
joined_if true several bits some = omega arith
joined_if false true bits some = omega arith
joined_if false false bits some = some

joined_some : (bits : List Found) → 1 ≤ length bits → 1 ≤ bits_in (joined bits)
joined_some bits some =
    joined_if (list_any is_hole bits) (list_any is_several bits) (map (λ found. only_bit (signal_in found)) bits)
    (omega (arith, length-map bits (λ (found : Found). only_bit (signal_in found))))

over_some : (names : List Name) (text : List ℕ) (found : Found) → 1 ≤ bits_in (bus_over names text found)
over_some names text finds.Nothing = omega arith
over_some names text (finds.One signal high low) =
    joined_some (bits_behind names text high low)
    (omega (arith, length-map-range_with_len (bit_behind names text (is_found (named names (indexed_text text low)))) low (high - low + 1)))
over_some names text finds.Several = omega arith

without_some : (found : Found) (other : Reference) → 1 ≤ bits_in other → 1 ≤ bits_in (without_index found other)
without_some finds.Nothing other some = some
without_some (finds.One signal left right) other some = whole_some (finds.One signal left right)
without_some finds.Several other some = omega arith

-- what a text stands for
pub text_some : (names : List Name) (text : List ℕ) (index : Option ℕ) → 1 ≤ bits_in (refers_to names text index)
text_some names text None = without_some (look_up names text) (bus names text) (over_some names text (look_up (bus_names names) text))
text_some names text (Some index) = index_some (look_up names (indexed_text text index)) (look_up names text) index

abbrev edge_found : atom_edge.Edge → Option Bit → Boolean
edge_found edge None = Const false
edge_found edge (Some bit) = Test (record { signal = bit.signal; bit = bit.place; edge = edge })

-- an edge of no bits, and of some
pub edge_none : (edge : atom_edge.Edge) (bits : List Bit) → length bits ≡ 0 → Const false ≡ edge_of_first edge bits
edge_none edge [] none = refl
edge_none edge (bit ∷ more) none = absurd (omega arith)

pub edge_some : (edge : atom_edge.Edge) (bits : List Bit) (bit : Bit) → slice_get bits 0 ≡ Some bit →
    Test (record { signal = bit.signal; bit = bit.place; edge = edge }) ≡ edge_of_first edge bits
edge_some edge [] bit is = cc
edge_some edge (first ∷ more) bit is = ap (λ (found : Option Bit). edge_found edge found) (sym is)
