-- Terms of what is kept, one for each number or element.
use Rattle.std.specs.Prelude.{Bool as Truth, if◌then◌else◌, List, [], ◌∷◌, Option, None, Some}
use Rattle.gates_theory.specs.Terms.{Term}

-- the term of what is kept, and none of what is not
abbrev pub kept_term : {A : Type 0} → (A → Truth) → (A → Term) → A → List Term
kept_term keep term element = if keep element then term element ∷ [] else []

-- the terms of an element, and none where there is no element
abbrev pub terms_of : {A : Type 0} → (A → List Term) → Option A → List Term
terms_of terms None = []
terms_of terms (Some element) = terms element
