-- Gates one behind another.
use Rattle.std.proofs.Common.{◌≡◌, List, [], ◌∷◌, ◌++◌, ap, ◌∙◌, append_assoc}
use Rattle.gates_theory.specs.declared.circuit.Gate.{Gate}

pub three_gates : (old one two new : List Gate) (x y z : Gate) → one ≡ old ++ x ∷ [] → two ≡ one ++ y ∷ [] → new ≡ two ++ z ∷ [] → new ≡ old ++ x ∷ y ∷ z ∷ []
three_gates old one two new x y z a b c =
    c ∙ ap (λ gates. gates ++ z ∷ []) (b ∙ ap (λ gates. gates ++ y ∷ []) a ∙ append_assoc old (x ∷ []) (y ∷ [])) ∙ append_assoc old (x ∷ y ∷ []) (z ∷ [])
