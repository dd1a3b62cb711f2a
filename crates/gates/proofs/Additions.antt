-- Adding clauses part by part.
use Rattle.std.proofs.Common.{◌≡◌, ℕ, suc, ◌<◌, ◌≤◌, ℤ, List, [], ◌++◌, length, take, Err, Ok, refl, sym, ap, ◌∙◌, arith, append_assoc}
use Rattle.std.specs.Prelude.{Result}
use Rattle.std.proofs.lemmas.List.{take-append-le, append-nil, length-take, take-take, take_all}
use Rattle.clauses.specs.declared.flat.CnfFault.{CnfFault}
use Rattle.clauses.specs.Literals.{clause_words}
use Rattle.gates_theory.proofs.Sizes.{words-append}
use Rattle.gates_theory.specs.Unrolled.{up_to}
use Rattle.gates.proofs.Words.{words-up}
use Rattle.gates.specs.Adding.{FitsWith, Adds}

abbrev pub Clauses : Type 0
Clauses = List (List ℤ)

-- of some clauses that are to be added, the rest is left
pub record AddsSoFar (old mid rest all : List (List ℤ)) : Type 0 where
  pub kept : take (length old) mid ≡ old
  pub left : mid ++ rest ≡ old ++ all

pub so_far-init : (old all : Clauses) → AddsSoFar old old all all
so_far-init old all = record { kept = take_all (length old) old (omega arith); left = refl }

old_fits : (old mid : Clauses) → take (length old) mid ≡ old → length old ≤ length mid
old_fits old mid kept = omega (arith, ap length kept, length-take (length old) mid)

pub so_far-step : (old mid new part rest all : Clauses) → AddsSoFar old mid (part ++ rest) all → new ≡ mid ++ part → AddsSoFar old new rest all
so_far-step old mid new part rest all sofar added = rw added (record {
  kept = take-append-le (length old) mid part (old_fits old mid sofar.kept) ∙ sofar.kept;
  left = append_assoc mid part rest ∙ sofar.left;
})

pub so_far-fits : (old mid part rest all : Clauses) → AddsSoFar old mid (part ++ rest) all → FitsWith old all → FitsWith mid part
so_far-fits old mid part rest all sofar fits =
    record { few = omega (arith, fits.few, ap clause_words sofar.left, words-append mid (part ++ rest), words-append part rest, words-append mid part) }

pub so_far-err : {A B : Type 0} (old mid new part rest all : Clauses) (fault : CnfFault) → AddsSoFar old mid rest all → Adds {A = A} mid new part (Err fault) → Adds {A = B} old new all (Err fault)
so_far-err old mid new part rest all fault sofar failed =
    let fits = old_fits old mid sofar.kept in
    let e : take (length old) new ≡ take (length old) (take (length mid) new) = sym (take-take (length old) (length mid) new fits) in
    record { ok = tt; err = e ∙ ap (take (length old)) failed.err ∙ sofar.kept; memory = failed.memory }

pub so_far-end : {A : Type 0} (old mid all : Clauses) (value : A) → AddsSoFar old mid [] all → Adds old mid all (Ok value)
so_far-end old mid all value sofar = record { ok = sym (append-nil mid) ∙ sofar.left; err = tt; memory = tt }

pub so_far-last : {A : Type 0} (old mid new part all : Clauses) (result : Result A CnfFault) → AddsSoFar old mid part all → Adds mid new part result → Adds old new all result
so_far-last old mid new part all (Ok value) sofar added = record { ok = added.ok ∙ sofar.left; err = tt; memory = tt }
so_far-last {A} old mid new part all (Err fault) sofar added = so_far-err {A = A} {B = A} old mid new part part all fault sofar added

-- nothing is added
pub adds-none : {A : Type 0} (old : Clauses) (value : A) → Adds old old [] (Ok value)
adds-none old value = record { ok = sym (append-nil old); err = tt; memory = tt }

-- clauses behind those that were added
pub adds-then : {A : Type 0} (old mid new first more : Clauses) (result : Result A CnfFault) → mid ≡ old ++ first → Adds mid new more result → Adds old new (first ++ more) result
adds-then old mid new first more result added then =
    so_far-last old mid new more (first ++ more) result (so_far-step old old mid first more (first ++ more) (so_far-init old (first ++ more)) added) then

-- lists one behind another
pub list-fits : (old mid : Clauses) (list : ℕ → Clauses) (count i : ℕ) → i < count → FitsWith old (up_to count list) → mid ≡ old ++ up_to i list → FitsWith mid (list i)
list-fits old mid list count i below fits added =
    let e : mid ++ list i ≡ old ++ up_to (suc i) list = ap (λ c. c ++ list i) added ∙ append_assoc old (up_to i list) (list i) in
    record {
      few = omega (
        arith,
        fits.few,
        ap clause_words e,
        words-append old (up_to (suc i) list),
        words-append old (up_to count list),
        words-up list (suc i) count below,
      );
    }

pub list-next : (old mid new : Clauses) (list : ℕ → Clauses) (i : ℕ) → mid ≡ old ++ up_to i list → new ≡ mid ++ list i → new ≡ old ++ up_to (suc i) list
list-next old mid new list i before added = added ∙ ap (λ c. c ++ list i) before ∙ append_assoc old (up_to i list) (list i)

pub list-err : {A B : Type 0} (old mid new front part all : Clauses) (fault : CnfFault) → mid ≡ old ++ front → Adds {A = A} mid new part (Err fault) → Adds {A = B} old new all (Err fault)
list-err {A} {B} old mid new front part all fault before failed =
    let sofar : AddsSoFar old mid [] front = so_far-step old old mid front [] front (rw append-nil (so_far-init old front)) before in
    let kept : take (length old) new ≡ old = (so_far-err {A = A} {B = B} old mid new part [] front fault sofar failed).err in
    record { ok = tt; err = kept; memory = failed.memory }
