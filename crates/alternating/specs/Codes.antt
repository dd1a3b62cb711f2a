-- Codes of automata, by which proofs tell two of them apart. A positive combination is coded as the
-- list of its constructors, each after its parts.
use Rattle.std.specs.Prelude.{◌≡◌, ◌⊎◌, ℕ, zero, suc, Bool as Truth, false, List, [], ◌∷◌, refl}
use Rattle.std.specs.Coded.{Coded, code_by, coded×, coded⊎, coded_ℕ, coded_bool, coded_list}
use Rattle.std.proofs.Common.{inl, inr, ap, ◌∙◌}
use Rattle.psl_tree.specs.Trees.{Boolean}
use Rattle.psl_tree.specs.Codes.{boolean_code}
use Rattle.alternating_theory.specs.Obligations.{Obligation, Automaton}
use Rattle.alternating_theory.specs.Positive.{Positive, Const, Holds, Owed, And, Or}

-- a constructor of a combination: a constant, a Boolean, an obligation or the number of another
abbrev pub Token : Type 0
Token = Truth ⊎ (Boolean ⊎ (ℕ ⊎ ℕ))

abbrev pub tokens : Positive → List Token → List Token
tokens (Const value) rest = inl value ∷ rest
tokens (Holds test) rest = inr (inl test) ∷ rest
tokens (Owed number) rest = inr (inr (inl number)) ∷ rest
tokens (And left right) rest = tokens left (tokens right (inr (inr (inr 0)) ∷ rest))
tokens (Or left right) rest = tokens left (tokens right (inr (inr (inr 1)) ∷ rest))

-- what a token makes of the combinations before it
abbrev pub applied : Token → List Positive → List Positive
applied (inl value) stack = Const value ∷ stack
applied (inr (inl test)) stack = Holds test ∷ stack
applied (inr (inr (inl number))) stack = Owed number ∷ stack
applied (inr (inr (inr zero))) (right ∷ left ∷ stack) = And left right ∷ stack
applied (inr (inr (inr (suc _)))) (right ∷ left ∷ stack) = Or left right ∷ stack
applied _ stack = stack

abbrev pub read : List Token → List Positive → List Positive
read [] stack = stack
read (token ∷ rest) stack = read rest (applied token stack)

abbrev pub first_read : List Positive → Positive
first_read [] = Const false
first_read (positive ∷ _) = positive

abbrev read-tokens : (positive : Positive) (rest : List Token) (stack : List Positive) → read (tokens positive rest) stack ≡ read rest (positive ∷ stack)
read-tokens (Const value) rest stack = refl
read-tokens (Holds test) rest stack = refl
read-tokens (Owed number) rest stack = refl
read-tokens (And left right) rest stack =
    read-tokens left (tokens right (inr (inr (inr 0)) ∷ rest)) stack ∙ read-tokens right (inr (inr (inr 0)) ∷ rest) (left ∷ stack)
read-tokens (Or left right) rest stack =
    read-tokens left (tokens right (inr (inr (inr 1)) ∷ rest)) stack ∙ read-tokens right (inr (inr (inr 1)) ∷ rest) (left ∷ stack)

abbrev pub token_code : Coded Token
token_code = coded⊎ coded_bool (coded⊎ boolean_code (coded⊎ coded_ℕ coded_ℕ))

abbrev pub positive_code : Coded Positive
positive_code = code_by (List Token) (coded_list token_code) (λ positive. tokens positive []) (λ read_of. first_read (read read_of [])) (λ positive. ap first_read (read-tokens positive [] []))

abbrev pub obligation_code : Coded Obligation
obligation_code = code_by (Positive × (Truth × (Truth × (Truth × Truth))))
    (coded× positive_code (coded× coded_bool (coded× coded_bool (coded× coded_bool coded_bool))))
    (λ o. (o.delta, (o.accepting, (o.end, (o.top, o.bottom)))))
    (λ p. record { delta = p.0; accepting = p.1.0; end = p.1.1.0; top = p.1.1.1.0; bottom = p.1.1.1.1 }) (λ _. refl)

abbrev pub automaton_code : Coded Automaton
automaton_code = code_by (ℕ × List Obligation) (coded× coded_ℕ (coded_list obligation_code)) (λ automaton. (automaton.start, automaton.obligations))
    (λ pair. record { start = pair.0; obligations = pair.1 }) (λ _. refl)
