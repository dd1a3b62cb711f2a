-- Lemmas as they are stored, by their codes: one more and one less.
use Rattle.std.proofs.Common.{◌≡◌, ℕ, zero, suc, ◌+◌, ◌≤◌, ℤ, cond, List, [], ◌∷◌, ◌++◌, map, set, get_or, Option, Some, None, IsSome, is_some, refl, ap, ◌∙◌, subst, arith}
use Rattle.std.specs.Bool.{IsTrue}
use Rattle.std.specs.List.{count_by}
use Rattle.std.specs.Option.{option_map}
use Rattle.std.proofs.lemmas.Bool.{and_parts}
use Rattle.std.proofs.lemmas.List.{map-append, map-set}
use Rattle.std.proofs.lemmas.List.Sums.{sum_by-cons, sum_by-append}
use Rattle.clauses.specs.Literals.{is_within, clause_within}
use Rattle.clauses.specs.Live.{Numbered}
use Rattle.clause_store.specs.Stored.{live_clauses}
use Rattle.clause_log.specs.Codes.{code_of, clause_of_codes, lemmas_of}
use Rattle.clause_log.specs.LiveClauses.{LemmasWithin}
use Rattle.clause_log.proofs.Marking.{literal_of-code_of}

-- the clause of a clause's codes
pub codes_back : (variables : ℕ) (literals : List ℤ) → IsTrue (clause_within variables literals) → clause_of_codes (map code_of literals) ≡ literals
codes_back variables [] within = refl
codes_back variables (literal ∷ literals) within =
    let parts = and_parts (is_within variables literal) (clause_within variables literals) within in
    rw (literal_of-code_of variables literal parts.0, codes_back variables literals parts.1)

-- a lemma more
pub lemmas-push : (variables : ℕ) (stored : List (Option (List ℕ))) (literals : List ℤ) → IsTrue (clause_within variables literals) →
    lemmas_of (stored ++ Some (map code_of literals) ∷ []) ≡ lemmas_of stored ++ Some literals ∷ []
lemmas-push variables stored literals within =
    map-append (option_map clause_of_codes) stored (Some (map code_of literals) ∷ [])
    ∙ ap (λ (clause : List ℤ). lemmas_of stored ++ Some clause ∷ []) (codes_back variables literals within)

-- how many lemmas are live
abbrev live_number : {X : Type 0} → Option X → ℕ
live_number x = cond (is_some x) 1 0

held_one : (one : Option (List ℕ)) → live_number (option_map clause_of_codes one) ≡ live_number one
held_one None = refl
held_one (Some codes) = refl

pub held_of_stored : (stored : List (Option (List ℕ))) → count_by (λ lemma. is_some lemma) (lemmas_of stored) ≡ live_clauses stored
held_of_stored [] = refl
held_of_stored (first ∷ stored) =
    omega (
      arith,
      sum_by-cons (λ (x : Option (List ℤ)). live_number x) (option_map clause_of_codes first) (lemmas_of stored),
      sum_by-cons (λ (x : Option (List ℕ)). live_number x) first stored,
      held_one first,
      held_of_stored stored,
    )

pub live_push : (stored : List (Option (List ℕ))) (codes : List ℕ) → live_clauses (stored ++ Some codes ∷ []) ≡ live_clauses stored + 1
live_push stored codes =
    omega (
      arith,
      sum_by-append (λ (x : Option (List ℕ)). live_number x) stored (Some codes ∷ []),
      sum_by-cons (λ (x : Option (List ℕ)). live_number x) (Some codes) [],
    )

-- a lemma within the variables more
within_at : (variables : ℕ) (lemmas : Numbered ℤ) (new : List ℤ) (place : ℕ) (lemma : List ℤ) → IsTrue (clause_within variables new)
    → (get_or lemmas place None ≡ Some lemma → IsTrue (clause_within variables lemma)) → get_or (lemmas ++ Some new ∷ []) place None ≡ Some lemma → IsTrue (clause_within variables lemma)
within_at variables [] new zero lemma here others at = let same : new ≡ lemma = cc in subst (λ (c : List ℤ). IsTrue (clause_within variables c)) same here
within_at variables [] new (suc place) lemma here others at = cc
within_at variables (first ∷ lemmas) new zero lemma here others at = others at
within_at variables (first ∷ lemmas) new (suc place) lemma here others at = within_at variables lemmas new place lemma here others at

pub within_push : (variables : ℕ) (lemmas : Numbered ℤ) (new : List ℤ) → LemmasWithin variables lemmas → IsTrue (clause_within variables new) → LemmasWithin variables (lemmas ++ Some new ∷ [])
within_push variables lemmas new all here = λ place lemma at. within_at variables lemmas new place lemma here (all place lemma) at

-- a lemma less
gone_at : (lemmas : Numbered ℤ) (gone place : ℕ) (lemma : List ℤ) → get_or (set lemmas gone None) place None ≡ Some lemma → get_or lemmas place None ≡ Some lemma
gone_at [] gone place lemma at = at
gone_at (first ∷ lemmas) zero zero lemma at = cc
gone_at (first ∷ lemmas) zero (suc place) lemma at = at
gone_at (first ∷ lemmas) (suc gone) zero lemma at = at
gone_at (first ∷ lemmas) (suc gone) (suc place) lemma at = gone_at lemmas gone place lemma at

pub within_set : (variables : ℕ) (lemmas : Numbered ℤ) (gone : ℕ) → LemmasWithin variables lemmas → LemmasWithin variables (set lemmas gone None)
within_set variables lemmas gone all = λ place lemma at. all place lemma (gone_at lemmas gone place lemma at)

pub lemmas-set : (stored : List (Option (List ℕ))) (gone : ℕ) → lemmas_of (set stored gone None) ≡ set (lemmas_of stored) gone None
lemmas-set stored gone = map-set (option_map clause_of_codes) stored gone None

pub live_set : (stored : List (Option (List ℕ))) (gone : ℕ) → live_clauses (set stored gone None) ≤ live_clauses stored
live_set [] gone = omega arith
live_set (first ∷ stored) zero =
    omega (
      arith,
      sum_by-cons (λ (x : Option (List ℕ)). live_number x) None stored,
      sum_by-cons (λ (x : Option (List ℕ)). live_number x) first stored,
    )
live_set (first ∷ stored) (suc gone) =
    omega (
      arith,
      sum_by-cons (λ (x : Option (List ℕ)). live_number x) first (set stored gone None),
      sum_by-cons (λ (x : Option (List ℕ)). live_number x) first stored,
      live_set stored gone,
    )

-- a lemma is live where its codes are stored
pub some_stored : (stored : List (Option (List ℕ))) (place : ℕ) → IsSome (get_or (lemmas_of stored) place None) → IsSome (get_or stored place None)
some_stored [] place some = some
some_stored (None ∷ stored) zero some = some
some_stored (Some codes ∷ stored) zero some = some
some_stored (first ∷ stored) (suc place) some = some_stored stored place some
