-- Lemmas that follow by unit propagation, with hints, and lemmas that add a propagation. Over any kind of
-- literal that has negations.
use Rattle.std.specs.Prelude.{◌≡◌, ◌≢◌, ◌⊎◌, ℕ, List, [], ◌∷◌, ◌++◌, Option, Some}
use Rattle.std.specs.List.{All, Contains}

-- all literals of a clause are in a set but one, however often that one stands in it
pub record IsLeft {L : Type 0} (set clause : List L) (literal : L) : Type 0 where
  pub in_clause : Contains clause literal
  pub not_in_set : Contains set literal → ⊥
  pub others : All (λ other. (other ≡ literal) ⊎ Contains set other) clause

-- Reverse unit propagation with hints. `set` are the literals that count as false, and `live` gives the clauses
-- by number. Each hint but the last names a live clause with all literals false but one, whose negation
-- is false from then on; the last names one with all literals false.
abbrev pub Passes : {L : Type 0} → (L → L) → (ℕ → Option (List L)) → List L → List ℕ → Type 0
Passes flip live set [] = ⊥
Passes flip live set (hint ∷ []) = (clause : List _) × (live hint ≡ Some clause) × All (Contains set) clause
Passes flip live set (hint ∷ (next ∷ hints)) =
    (clause : List _) × (literal : _) × (live hint ≡ Some clause) × IsLeft set clause literal
    × Passes flip live (set ++ flip literal ∷ []) (next ∷ hints)

-- Unit propagation along a trail of true literals has nothing to do at a clause: it has a true literal, or two
-- different ones that are not false.
abbrev pub IsOpen : {L : Type 0} → (L → L) → List L → List L → Type 0
IsOpen flip trail clause =
    ((literal : _) × Contains clause literal × Contains trail literal)
    ⊎ ((first : _) × (second : _) × Contains clause first × Contains clause second × (first ≢ second)
    × (Contains trail (flip first) → ⊥) × (Contains trail (flip second) → ⊥))

-- A lemma adds a propagation: along some trail without contradiction that makes all of its literals false but one,
-- and knows nothing of that one, unit propagation over the live clauses has nothing to do.
pub record AddsPropagation {L : Type 0} (flip : L → L) (live : ℕ → Option (List L)) (lemma : List L) : Type 0 where
  pub literal : L
  pub trail : List L
  pub in_lemma : Contains lemma literal
  pub consistent : (other : L) → Contains trail other → Contains trail (flip other) → ⊥
  pub falsified : All (λ other. (other ≡ literal) ⊎ Contains trail (flip other)) lemma
  pub not_true : Contains trail literal → ⊥
  pub not_false : Contains trail (flip literal) → ⊥
  pub ended : (number : ℕ) (clause : List L) → live number ≡ Some clause → IsOpen flip trail clause
