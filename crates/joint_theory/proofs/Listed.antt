-- Lists of the first so many states of a walk.
use Rattle.std.proofs.Common.{◌≡◌, sym, ap, ◌∙◌, subst, ℕ, ◌<◌, List, length, map, Some, arith}
use Rattle.std.specs.Prelude.{All, slice_get}
use Rattle.std.specs.List.{range_with_len}
use Rattle.std.proofs.lemmas.List.FromFn.{length-map-range_with_len, get_or-map-range_with_len}
use Rattle.std.proofs.lemmas.Option.{slice_get-get_or}

abbrev pub listed : {A : Type 0} → ℕ → (ℕ → A) → List A
listed count walk = map walk (range_with_len 0 count)

pub length-listed : {A : Type 0} (count : ℕ) (walk : ℕ → A) → length (listed count walk) ≡ count
length-listed count walk = length-map-range_with_len walk 0 count

pub get-listed : {A : Type 0} (count : ℕ) (walk : ℕ → A) (place : ℕ) → place < count → slice_get (listed count walk) place ≡ Some (walk place)
get-listed count walk place below =
    let size = length-listed count walk in
    slice_get-get_or (listed count walk) place (walk 0) (omega arith)
    ∙ ap Some (get_or-map-range_with_len walk 0 count place place (walk 0) below (omega arith))

pub all-listed : {A : Type 0} (P : A → Type 0) (count : ℕ) (walk : ℕ → A) → ((place : ℕ) → place < count → P (walk place)) → All P (listed count walk)
all-listed P count walk each place other below =
    let size = length-listed count walk in
    let low : place < count = omega arith in
    subst P (sym (get_or-map-range_with_len walk 0 count place place other low (omega arith))) (each place low)
