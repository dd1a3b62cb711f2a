-- The table of which obligations ask for which, and what is found in it.
use Rattle.std.proofs.Common.{◌≡◌, ◌||◌, ℕ, zero, suc, ◌+◌, ◌<◌, Bool as Truth, true, false, cond, List, [], ◌∷◌, ◌++◌, get_or, length, replicate, Some, refl, sym, ap, ◌∙◌, subst, arith, add-one}
use Rattle.std.specs.Prelude.{filter, slice_get, All}
use Rattle.std.specs.List.{range_with_len}
use Rattle.std.proofs.lemmas.List.{append-nil, get_or-replicate, length-replicate}
use Rattle.std.proofs.lemmas.List.Elements.{filter-append, All-push}
use Rattle.std.proofs.lemmas.List.FromFn.{fill_by_all, get_or-map-range_with_len, length-map-range_with_len}
use Rattle.std.proofs.lemmas.Option.{get_or_from_slice_get}
use Rattle.alternating_theory.specs.Obligations.{Automaton}
use Rattle.alternating_theory.specs.Positive.{owes, Positive}
use Rattle.joint_theory.specs.Bits.{count_of}
use Rattle.joint_theory.specs.States.{delta_of}
use Rattle.joint.specs.Asked.{asked_row, asked_rows}

-- marks that were all false before
pub row-marked : (automaton : Automaton) (number : ℕ) (old new : List Truth) (delta : Positive) → old ≡ replicate (count_of automaton) false → delta ≡ delta_of automaton number
    → length new ≡ length old → ((other : ℕ) → other < length old → get_or new other false ≡ (get_or old other false || owes delta other))
    → new ≡ asked_row automaton number
row-marked automaton number old new delta none is len marks =
    fill_by_all (owes (delta_of automaton number)) new (count_of automaton) false (len ∙ ap length none ∙ length-replicate (count_of automaton) false)
    (λ other below. marks other (omega (arith, ap length none, length-replicate (count_of automaton) false))
    ∙ ap (λ (list : List Truth). get_or list other false || owes delta other) none
    ∙ ap (λ t. t || owes delta other) (get_or-replicate (count_of automaton) other false false below) ∙ ap (λ (p : Positive). owes p other) is)

-- what stands in the table
pub rows-length : (automaton : Automaton) (rows : List (List Truth)) → rows ≡ asked_rows automaton → length rows ≡ count_of automaton
rows-length automaton rows is = ap length is ∙ length-map-range_with_len (asked_row automaton) 0 (count_of automaton)

pub row-is : (automaton : Automaton) (rows : List (List Truth)) (other : ℕ) (row : List Truth) → rows ≡ asked_rows automaton → other < count_of automaton
    → slice_get rows other ≡ Some row → row ≡ asked_row automaton other
row-is automaton rows other row is below found =
    sym (get_or_from_slice_get rows other row [] found) ∙ ap (λ (list : List (List Truth)). get_or list other []) is
    ∙ get_or-map-range_with_len (asked_row automaton) 0 (count_of automaton) other other [] below (omega arith)

pub row-length : (automaton : Automaton) (other : ℕ) (row : List Truth) → row ≡ asked_row automaton other → length row ≡ count_of automaton
row-length automaton other row is = ap length is ∙ length-map-range_with_len (owes (delta_of automaton other)) 0 (count_of automaton)

mark-is : (automaton : Automaton) (other number : ℕ) (row : List Truth) (asks : Truth) → row ≡ asked_row automaton other → number < count_of automaton
    → slice_get row number ≡ Some asks → asks ≡ owes (delta_of automaton other) number
mark-is automaton other number row asks is below found =
    sym (get_or_from_slice_get row number asks false found) ∙ ap (λ (list : List Truth). get_or list number false) is
    ∙ get_or-map-range_with_len (owes (delta_of automaton other)) 0 (count_of automaton) number number false below (omega arith)

-- the obligations so far that ask for one
abbrev pub askers_below : Automaton → ℕ → ℕ → List ℕ
askers_below automaton number most = filter (λ other. owes (delta_of automaton other) number) (range_with_len 0 most)

range-more : (first count : ℕ) → range_with_len first (suc count) ≡ range_with_len first count ++ (first + count) ∷ []
range-more first zero = ap (λ (number : ℕ). number ∷ []) (omega arith)
range-more first (suc count) =
    ap (λ (list : List ℕ). first ∷ list) (range-more (first + 1) count ∙ ap (λ (number : ℕ). range_with_len (first + 1) count ++ number ∷ []) (omega arith))

range-next : (count : ℕ) → range_with_len 0 (count + 1) ≡ range_with_len 0 count ++ count ∷ []
range-next count = ap (range_with_len 0) (add-one count) ∙ range-more 0 count ∙ ap (λ (number : ℕ). range_with_len 0 count ++ number ∷ []) (omega arith)

-- and with the next one, where it asks for it
pub askers-more : (automaton : Automaton) (number other : ℕ) (numbers new : List ℕ) (row : List Truth) (asks : Truth) → other < count_of automaton → number < count_of automaton
    → row ≡ asked_row automaton other → slice_get row number ≡ Some asks → numbers ≡ askers_below automaton number other → All (λ n. n < count_of automaton) numbers
    → new ≡ cond asks (numbers ++ other ∷ []) numbers → (new ≡ askers_below automaton number (other + 1)) × All (λ n. n < count_of automaton) new
askers-more automaton number other numbers new row asks low below is found so_far all push = (
  push
      ∙ ap (λ (list : List ℕ). cond asks (list ++ other ∷ []) list) so_far
      ∙ ap (λ t. cond t (askers_below automaton number other ++ other ∷ []) (askers_below automaton number other)) (mark-is automaton other number row asks is below found)
      ∙ joined (owes (delta_of automaton other) number)
      ∙ sym (ap (filter asks_for) (range-next other) ∙ filter-append asks_for (range_with_len 0 other) (other ∷ [])),
  subst (All (λ n. n < count_of automaton)) (sym push) (each asks),
)
  where
    asks_for : ℕ → Truth
    asks_for by = owes (delta_of automaton by) number

    joined : (t : Truth) → cond t (askers_below automaton number other ++ other ∷ []) (askers_below automaton number other) ≡ askers_below automaton number other ++ cond t (other ∷ []) []
    joined true = refl
    joined false = sym (append-nil (askers_below automaton number other))

    each : (t : Truth) → All (λ n. n < count_of automaton) (cond t (numbers ++ other ∷ []) numbers)
    each true = All-push (λ n. n < count_of automaton) numbers other all low
    each false = all
