-- What a hint says, by what is left of its clause.
use Rattle.std.proofs.Common.{◌≡◌, ℕ, zero, suc, ◌-◌, ◌≤◌, ℤ, neg_ℤ, Bool, true, false, List, [], ◌∷◌, ◌++◌, length, get_or, slice_get, Option, Some, None, ◌⊎◌, inl, inr, ◌↔◌, refl, sym, ◌∙◌, subst}
use Rattle.std.specs.Bool.{IsTrue}
use Rattle.std.specs.List.{All, Contains}
use Rattle.std.specs.Option.{option_map}
use Rattle.std.proofs.lemmas.Bool.{and_parts}
use Rattle.std.proofs.lemmas.List.{get_or-append_right, length-map}
use Rattle.std.proofs.lemmas.List.Elements.{All-contains}
use Rattle.clauses.specs.Literals.{clause_within, clauses_within}
use Rattle.clauses.specs.Live.{Numbered, all_live, clause_of}
use Rattle.clauses.specs.Passing.{IsLeft, Passes}
use Rattle.clause_log.specs.declared.left.Left.{Left}
use Rattle.clause_log.specs.declared.left.Left.TheVariants.{Nothing, One, Several}
use Rattle.clause_log.specs.Codes.{clause_of_codes, lemmas_of}
use Rattle.clause_log.specs.Lefts.{LeavesOf, is_nothing, only_of}

-- one literal is left
only_left : (set clause : List ℤ) (left : Left) (literal : ℤ) → only_of left ≡ Some literal → LeavesOf set clause left → IsLeft set clause literal
only_left set clause Nothing literal is leaves = cc
only_left set clause (One other) literal is leaves = let same : other ≡ literal = cc in subst (IsLeft set clause) same leaves
only_left set clause Several literal is leaves = cc

-- no other literal is
same_left : (set clause : List ℤ) (first second : ℤ) → IsLeft set clause first → IsLeft set clause second → first ≡ second
same_left set clause first second one other =
    elim (All-contains (λ literal. (literal ≡ second) ⊎ Contains set literal) clause first other.others one.in_clause) [
      | inl same ↦ same
      | inr member ↦ absurd (one.not_in_set member)
    ]

-- not one literal is left
none_left : (set clause : List ℤ) (left : Left) (literal : ℤ) → only_of left ≡ None → LeavesOf set clause left → IsLeft set clause literal → ⊥
none_left set clause Nothing literal is leaves one = one.not_in_set (All-contains (Contains set) clause literal leaves one.in_clause)
none_left set clause (One other) literal is leaves one = cc
none_left set clause Several literal is two one =
    two.4 (one_of two.0 two.2 two.5 ∙ sym (one_of two.1 two.3 two.6))
  where
    one_of : (other : ℤ) → Contains clause other → (Contains set other → ⊥) → other ≡ literal
    one_of other member out =
        elim (All-contains (λ x. (x ≡ literal) ⊎ Contains set x) clause other one.others member) [ inl same ↦ same | inr inside ↦ absurd (out inside) ]

-- a clause of which something is left is not within the set
something_left : (set clause : List ℤ) (left : Left) → is_nothing left ≡ false → LeavesOf set clause left → All (Contains set) clause → ⊥
something_left set clause Nothing some leaves all = cc
something_left set clause (One literal) some leaves all = leaves.not_in_set (All-contains (Contains set) clause literal all leaves.in_clause)
something_left set clause Several some leaves all = leaves.5 (All-contains (Contains set) clause leaves.0 all leaves.2)

nothing_left : (set clause : List ℤ) (left : Left) → is_nothing left ≡ true → LeavesOf set clause left → All (Contains set) clause
nothing_left set clause Nothing none leaves = leaves
nothing_left set clause (One literal) none leaves = cc
nothing_left set clause Several none leaves = cc

-- the last hint
pub last_hint : (live : ℕ → Option (List ℤ)) (set : List ℤ) (hint : ℕ) (clause : List ℤ) (left : Left) → live hint ≡ Some clause → LeavesOf set clause left →
    (is_nothing left ≡ true) ↔ Passes neg_ℤ live set (hint ∷ [])
last_hint live set hint clause left is leaves = (
  λ none. (clause, is, nothing_left set clause left none leaves),
  λ passes. by_cases (is_nothing left) refl passes,
)
  where
    by_cases : (b : Bool) → is_nothing left ≡ b → Passes neg_ℤ live set (hint ∷ []) → b ≡ true
    by_cases true e passes = refl
    by_cases false e passes =
        let same : passes.0 ≡ clause = cc (passes.1, is) in
        absurd (something_left set clause left e leaves (subst (All (Contains set)) same passes.2))

pub no_last_hint : (live : ℕ → Option (List ℤ)) (set : List ℤ) (hint : ℕ) → live hint ≡ None → Passes neg_ℤ live set (hint ∷ []) → ⊥
no_last_hint live set hint none passes = let is = passes.1 in cc

-- a hint before the last
pub next_hint : (live : ℕ → Option (List ℤ)) (set : List ℤ) (hint : ℕ) (clause : List ℤ) (left : Left) (literal : ℤ) (next : ℕ) (hints : List ℕ) →
    live hint ≡ Some clause → only_of left ≡ Some literal → LeavesOf set clause left →
    Passes neg_ℤ live set (hint ∷ (next ∷ hints)) ↔ Passes neg_ℤ live (set ++ neg_ℤ literal ∷ []) (next ∷ hints)
next_hint live set hint clause left literal next hints is only leaves = (
  λ passes.
      let same : passes.0 ≡ clause = cc (passes.2, is) in
      let other : IsLeft set clause passes.1 = subst (λ (c : List ℤ). IsLeft set c passes.1) same passes.3 in
      let one : passes.1 ≡ literal = same_left set clause passes.1 literal other (only_left set clause left literal only leaves) in
      subst (λ (l : ℤ). Passes neg_ℤ live (set ++ neg_ℤ l ∷ []) (next ∷ hints)) one passes.4,
  λ rest. (clause, literal, is, only_left set clause left literal only leaves, rest),
)

pub no_hint : (live : ℕ → Option (List ℤ)) (set : List ℤ) (hint : ℕ) (clause : List ℤ) (left : Left) (next : ℕ) (hints : List ℕ) →
    live hint ≡ Some clause → only_of left ≡ None → LeavesOf set clause left → Passes neg_ℤ live set (hint ∷ (next ∷ hints)) → ⊥
no_hint live set hint clause left next hints is none leaves passes =
    let same : passes.0 ≡ clause = cc (passes.2, is) in
    none_left set clause left passes.1 none leaves (subst (λ (c : List ℤ). IsLeft set c passes.1) same passes.3)

pub gone_hint : (live : ℕ → Option (List ℤ)) (set : List ℤ) (hint next : ℕ) (hints : List ℕ) → live hint ≡ None → Passes neg_ℤ live set (hint ∷ (next ∷ hints)) → ⊥
gone_hint live set hint next hints none passes = let is = passes.2 in cc

-- the clause of a number
pub formula_clause : (formula : List (List ℤ)) (lemmas : Numbered ℤ) (place : ℕ) (clause : List ℤ) → slice_get formula place ≡ Some clause → clause_of (all_live formula ++ lemmas) (suc place) ≡ Some clause
formula_clause [] lemmas place clause at = cc
formula_clause (first ∷ formula) lemmas zero clause at = at
formula_clause (first ∷ formula) lemmas (suc place) clause at = formula_clause formula lemmas place clause at

pub lemma_clause : (formula : List (List ℤ)) (lemmas : Numbered ℤ) (place : ℕ) → length formula ≤ place → clause_of (all_live formula ++ lemmas) (suc place) ≡ get_or lemmas (place - length formula) None
lemma_clause formula lemmas place behind =
    get_or-append_right (all_live formula) lemmas (length formula) place None (length-map formula (λ clause. Some clause)) behind

pub lemma_at : (stored : List (Option (List ℕ))) (place : ℕ) → get_or (lemmas_of stored) place None ≡ option_map clause_of_codes (get_or stored place None)
lemma_at [] place = refl
lemma_at (first ∷ stored) zero = refl
lemma_at (first ∷ stored) (suc place) = lemma_at stored place

pub formula_within : (variables : ℕ) (formula : List (List ℤ)) (place : ℕ) (clause : List ℤ) → IsTrue (clauses_within variables formula) → slice_get formula place ≡ Some clause → IsTrue (clause_within variables clause)
formula_within variables [] place clause all at = cc
formula_within variables (first ∷ formula) zero clause all at =
    let same : first ≡ clause = cc in
    subst (λ (c : List ℤ). IsTrue (clause_within variables c)) same (and_parts (clause_within variables first) (clauses_within variables formula) all).0
formula_within variables (first ∷ formula) (suc place) clause all at =
    formula_within variables formula place clause (and_parts (clause_within variables first) (clauses_within variables formula) all).1 at

-- one hint of several, by what is left of the others
pub hint_step : (live : ℕ → Option (List ℤ)) (set next_set : List ℤ) (rest : List ℕ) (hint : ℕ) (others : List ℕ) (passes : Bool) → rest ≡ hint ∷ others → (others ≡ [] → ⊥) →
    ((next : ℕ) (hints : List ℕ) → Passes neg_ℤ live set (hint ∷ (next ∷ hints)) ↔ (IsTrue passes × Passes neg_ℤ live next_set (next ∷ hints))) →
    Passes neg_ℤ live set rest ↔ (IsTrue passes × Passes neg_ℤ live next_set others)
hint_step live set next_set rest hint [] passes is some step = absurd (some refl)
hint_step live set next_set rest hint (next ∷ hints) passes is some step = rw is (step next hints)
