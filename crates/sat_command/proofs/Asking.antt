-- Words that ask for nothing.
use Rattle.std.proofs.Common.{◌≡◌, refl, ℕ, List, [], ◌∷◌, length, None}
use Rattle.sat_command.specs.Requests.{request_of}

pub request_other : (words : List (List ℕ)) → (length words ≡ 1 → ⊥) → (length words ≡ 3 → ⊥) → (length words ≡ 5 → ⊥) → request_of words ≡ None
request_other [] one three five = refl
request_other (a ∷ []) one three five = absurd (one refl)
request_other (a ∷ b ∷ []) one three five = refl
request_other (a ∷ b ∷ c ∷ []) one three five = absurd (three refl)
request_other (a ∷ b ∷ c ∷ d ∷ []) one three five = refl
request_other (a ∷ b ∷ c ∷ d ∷ e ∷ []) one three five = absurd (five refl)
request_other (a ∷ b ∷ c ∷ d ∷ e ∷ f ∷ words) one three five = refl
