-- What closing a list of tables does to marks and to the lowest table on a cycle.
use Rattle.std.proofs.Common.{◌≡◌, ◌≢◌, ℕ, zero, suc, ◌<◌, min, ◌⊎◌, inl, inr, List, [], ◌∷◌, length, get_or, set, Option, Some, None, refl, sym, ap, ◌∙◌, ⊎_elim, arith}
use Rattle.std.proofs.lemmas.List.{length-set, get_or-set_same, get_or-set_other, get_or_past}
use Rattle.std.proofs.lemmas.Bool.{cases_lt, cases_eq}
use Rattle.std.proofs.lemmas.Option.{none-some, same_Some}
use Rattle.netlist_order.specs.declared.search.Visit.{Visit}
use Rattle.netlist_order.specs.declared.search.Visit.TheVariants.{New, Done}
use Rattle.netlist_order.specs.Graph.{Occurs}
use Rattle.netlist_order.specs.State.{mark_done, lower, lowest}
use Rattle.netlist_order.specs.Sound.{IsBelow}

-- a member of a longer list
Occurs-cons : (x y : ℕ) (xs : List ℕ) → Occurs x xs → Occurs x (y ∷ xs)
Occurs-cons x y xs occurs = record { place = suc occurs.place; within = omega (arith, occurs.within); is = occurs.is }

Occurs-head : (x y : ℕ) (xs : List ℕ) → x ≡ y → Occurs x (y ∷ xs)
Occurs-head x y xs is = record { place = 0; within = omega arith; is = sym is }

from_cons : (x y : ℕ) (xs : List ℕ) → Occurs x (y ∷ xs) → (x ≡ y) ⊎ Occurs x xs
from_cons x y xs occurs = by_place occurs.place occurs.within occurs.is where
  by_place : (place : ℕ) → place < length (y ∷ xs) → get_or (y ∷ xs) place 0 ≡ x → (x ≡ y) ⊎ Occurs x xs
  by_place zero within is = inl (sym is)
  by_place (suc place) within is = inr (record { place = place; within = omega arith; is = is })

pub length-mark_done : (marks : List Visit) (tables : List ℕ) → length (mark_done marks tables) ≡ length marks
length-mark_done marks [] = refl
length-mark_done marks (table ∷ tables) = length-mark_done (set marks table Done) tables ∙ length-set marks table Done

-- what has a mark is within
mark-within : (marks : List Visit) (table : ℕ) → get_or marks table New ≡ Done → table < length marks
mark-within marks table done =
    ⊎_elim (λ lt. lt) (λ past. let none = get_or_past marks table New past in cc) (cases_lt table (length marks))

-- what is closed stays so
pub still_done : (marks : List Visit) (tables : List ℕ) (table : ℕ) → get_or marks table New ≡ Done → get_or (mark_done marks tables) table New ≡ Done
still_done marks [] table done = done
still_done marks (other ∷ tables) table done =
    still_done (set marks other Done) tables table
    (⊎_elim (λ same. rw same (get_or-set_same marks other Done New (omega (arith, mark-within marks table done))))
    (λ differs. get_or-set_other marks other table Done New differs ∙ done)
    (cases_eq table other))

-- each table of the list is closed
pub now_done : (marks : List Visit) (tables : List ℕ) (table : ℕ) → table < length marks → Occurs table tables
    → get_or (mark_done marks tables) table New ≡ Done
now_done marks [] table within occurs = absurd (omega (arith, occurs.within))
now_done marks (other ∷ tables) table within occurs =
    ⊎_elim
    (λ same. still_done (set marks other Done) tables table (rw same (get_or-set_same marks other Done New (omega arith))))
    (λ later. now_done (set marks other Done) tables table (omega (arith, length-set marks other Done)) later)
    (from_cons table other tables occurs)

-- and no other mark changes
pub same_or_in : (marks : List Visit) (tables : List ℕ) (table : ℕ)
    → (get_or (mark_done marks tables) table New ≡ get_or marks table New) ⊎ Occurs table tables
same_or_in marks [] table = inl refl
same_or_in marks (other ∷ tables) table =
    ⊎_elim (λ same. inr (Occurs-head table other tables same))
    (λ differs. ⊎_elim (λ kept. inl (kept ∙ get_or-set_other marks other table Done New differs)) (λ later. inr (Occurs-cons table other tables later))
    (same_or_in (set marks other Done) tables table))
    (cases_eq table other)

-- the lowest of some numbers, with one of them to begin with, is there
pub lowest-some : (number : ℕ) (numbers : List ℕ) → lowest (Some number) numbers ≢ None
lowest-some number [] e = none-some number (sym e)
lowest-some number (other ∷ numbers) e = lowest-some (min number other) numbers e

lowest_is_there : (first : Option ℕ) (number : ℕ) (numbers : List ℕ) → lowest first (number ∷ numbers) ≢ None
lowest_is_there first number numbers = lowest-some (lower first number) numbers

pub lowest-within : (first : Option ℕ) (numbers : List ℕ) → 0 < length numbers → lowest first numbers ≢ None
lowest-within first [] some = absurd (omega arith)
lowest-within first (number ∷ numbers) some = lowest_is_there first number numbers

-- what is below the lowest, is below each
IsBelow-lower : (table : ℕ) (first : Option ℕ) (number : ℕ) → table < lower first number → IsBelow table first × (table < number)
IsBelow-lower table None number below = (tt, below)
IsBelow-lower table (Some other) number below = (omega arith, omega arith)

pub IsBelow-lowest : (table : ℕ) (first : Option ℕ) (numbers : List ℕ) → IsBelow table (lowest first numbers) → IsBelow table first
IsBelow-lowest table first [] below = below
IsBelow-lowest table first (number ∷ numbers) below =
    (IsBelow-lower table first number (IsBelow-lowest table (Some (lower first number)) numbers below)).0

pub below-each : (table : ℕ) (first : Option ℕ) (numbers : List ℕ) (number : ℕ) → IsBelow table (lowest first numbers) → Occurs number numbers → table < number
below-each table first [] number below occurs = absurd (omega (arith, occurs.within))
below-each table first (other ∷ numbers) number below occurs =
    ⊎_elim
    (λ same. rw same (IsBelow-lower table first other (IsBelow-lowest table (Some (lower first other)) numbers below)).1)
    (λ later. below-each table (Some (lower first other)) numbers number below later)
    (from_cons number other numbers occurs)

-- the lowest is one of them
lower-is : (first : Option ℕ) (number : ℕ) → (first ≡ Some (lower first number)) ⊎ (lower first number ≡ number)
lower-is None number = inr refl
lower-is (Some other) number =
    ⊎_elim (λ lt. let is : min other number ≡ other = omega arith in inl (ap (λ (n : ℕ). Some n) (sym is)))
    (λ ge. inr (omega arith)) (cases_lt other number)

pub lowest-from : (first : Option ℕ) (numbers : List ℕ) (number : ℕ) → lowest first numbers ≡ Some number → (first ≡ Some number) ⊎ Occurs number numbers
lowest-from first [] number is = inl is
lowest-from first (other ∷ numbers) number is =
    ⊎_elim
    (λ taken. let same : lower first other ≡ number = same_Some (lower first other) number taken in
    ⊎_elim (λ old. inl (old ∙ taken)) (λ newer. inr (Occurs-head number other numbers (sym same ∙ newer))) (lower-is first other))
    (λ later. inr (Occurs-cons number other numbers later))
    (lowest-from (Some (lower first other)) numbers number is)
