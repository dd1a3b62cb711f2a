-- Members of lists: literals of clauses and trails, entries of watch lists.
use Rattle.std.proofs.Common.{◌≡◌, ℕ, zero, suc, ◌≤◌, List, [], ◌∷◌, ◌++◌, length, take, drop, Some, Option, subst, ◌⊎◌, inl, inr, ap, ◌∙◌, arith}
use Rattle.std.specs.List.{Contains}
use Rattle.std.proofs.lemmas.Bool.{cases_eq}
use Rattle.std.proofs.lemmas.List.{take-append-drop, take-append-le}
use Rattle.std.proofs.lemmas.List.Elements.{Contains-append_left, Contains-append_right, Contains-append_cases, Contains-push}
use Rattle.cdcl_propagation.specs.declared.watch.Watch.{Watch}
use Rattle.cdcl_propagation.specs.Watching.{Names, HasTrue}

-- the only member of a list of one
pub only_one : {X : Type 0} → (y x : X) → Contains (y ∷ []) x → y ≡ x
only_one y x (zero, within, is) = is
only_one y x (suc k, within, is) = absurd (omega arith)

-- a member of a list is the first or one of the others
pub first_or_later : {X : Type 0} → (y : X) (xs : List X) (x : X) → Contains (y ∷ xs) x → (y ≡ x) ⊎ Contains xs x
first_or_later y xs x there = elim (Contains-append_cases (y ∷ []) xs x there) [ inl first ↦ inl (only_one y x first) | inr later ↦ inr later ]

-- a list has a number or has it not
pub contains_cases : (xs : List ℕ) (x : ℕ) → Contains xs x ⊎ (Contains xs x → ⊥)
contains_cases [] x = inr (λ there. omega (arith, there.1))
contains_cases (y ∷ xs) x =
    elim (cases_eq y x) [
      | inl same ↦ inl (0, omega arith, same)
      | inr differs ↦
          elim (contains_cases xs x) [
            | inl there ↦ inl (Contains-append_right (y ∷ []) xs x there)
            | inr none ↦
                inr (λ there. elim (first_or_later y xs x there) [ inl first ↦ differs first | inr later ↦ none later ])
          ]
    ]

-- the first literals of a trail are some of it
pub take_part : (xs : List ℕ) (n x : ℕ) → Contains (take n xs) x → Contains xs x
take_part xs n x there = let P : List ℕ → Type 0 = λ ys. Contains ys x in subst P (take-append-drop n xs) (Contains-append_left (take n xs) (drop n xs) x there)

-- the first literals stay where a list grows
pub take_grown : (xs ys : List ℕ) (n : ℕ) → n ≤ length xs → take n (xs ++ ys) ≡ take n xs
take_grown xs ys n within = take-append-le n xs ys within

-- a clause with a true literal has it where more is true
pub true-more : (trail more clause : List ℕ) → HasTrue trail clause → HasTrue (trail ++ more) clause
true-more trail more clause has = (has.0, has.1, Contains-append_left trail more has.0 has.2)

pub names-later : (watch : Watch) (rest : List Watch) (number : ℕ) → Names (watch ∷ rest) number → (watch.number ≡ number) ⊎ Names rest number
names-later watch rest number named =
    elim (first_or_later watch rest named.0 named.1) [
      | inl first ↦ inl (ap (λ (w : Watch). w.number) first ∙ named.2)
      | inr later ↦ inr (named.0, later, named.2)
    ]

-- an entry in the middle of a list gave way to one of the same clause
pub names-replaced : (seen rest : List Watch) (old new : Watch) (number : ℕ) → new.number ≡ old.number → Names (seen ++ old ∷ rest) number → Names ((seen ++ new ∷ []) ++ rest) number
names-replaced seen rest old new number same named =
    elim (Contains-append_cases seen (old ∷ rest) named.0 named.1) [
      | inl before ↦ (named.0, Contains-append_left (seen ++ new ∷ []) rest named.0 (Contains-append_left seen (new ∷ []) named.0 before), named.2)
      | inr there ↦
          elim (first_or_later old rest named.0 there) [
            | inl is ↦ (new, Contains-append_left (seen ++ new ∷ []) rest new (Contains-push seen new), same ∙ ap (λ (w : Watch). w.number) is ∙ named.2)
            | inr later ↦ (named.0, Contains-append_right (seen ++ new ∷ []) rest named.0 later, named.2)
          ]
    ]

-- an entry in the middle of a list went
pub names-removed : (seen rest : List Watch) (old : Watch) (number : ℕ) → Names (seen ++ old ∷ rest) number → (old.number ≡ number) ⊎ Names (seen ++ rest) number
names-removed seen rest old number named =
    elim (Contains-append_cases seen (old ∷ rest) named.0 named.1) [
      | inl before ↦ inr (named.0, Contains-append_left seen rest named.0 before, named.2)
      | inr there ↦
          elim (first_or_later old rest named.0 there) [
            | inl is ↦ inl (ap (λ (w : Watch). w.number) is ∙ named.2)
            | inr later ↦ inr (named.0, Contains-append_right seen rest named.0 later, named.2)
          ]
    ]

pub names-more : (list more : List Watch) (number : ℕ) → Names list number → Names (list ++ more) number
names-more list more number named = (named.0, Contains-append_left list more named.0 named.1, named.2)

-- one thing is in an option
pub one_some : {X : Type 0} → (o : Option X) (x y : X) → o ≡ Some x → o ≡ Some y → x ≡ y
one_some o x y here there = cc
