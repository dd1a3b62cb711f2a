-- Bits that stand side by side.
use Rattle.std.proofs.Common.{◌≡◌, ℕ, ◌+◌, ◌<◌, length, get_or, slice_get, Some, ap, ◌∙◌, arith}
use Rattle.std.proofs.lemmas.List.FromFn.{length-map-range_with_len, get_or-map-range_with_len}
use Rattle.std.proofs.lemmas.Option.{slice_get-get_or}
use Rattle.psl_sugar.specs.Vectors.{bit_of_signal, side_by_side}

pub side-length : (signal lowest width : ℕ) → length (side_by_side signal lowest width) ≡ width
side-length signal lowest width = length-map-range_with_len (bit_of_signal signal) lowest width

pub side-at : (signal lowest width place : ℕ) → place < width → slice_get (side_by_side signal lowest width) place ≡ Some (bit_of_signal signal (lowest + place))
side-at signal lowest width place below =
    let bit = bit_of_signal signal (lowest + place) in
    slice_get-get_or (side_by_side signal lowest width) place bit (omega (arith, side-length signal lowest width))
    ∙ ap Some (get_or-map-range_with_len (bit_of_signal signal) lowest width place (lowest + place) bit below (omega arith))
