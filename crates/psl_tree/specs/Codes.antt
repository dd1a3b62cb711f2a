-- A code of Booleans, by which proofs tell two of them apart. A Boolean is coded as the list of its
-- constructors, each after its parts.
use Rattle.std.specs.Prelude.{◌≡◌, ◌⊎◌, ℕ, zero, suc, Bool as Truth, false, List, [], ◌∷◌, refl}
use Rattle.std.specs.Coded.{Coded, code_by, coded×, coded⊎, coded_ℕ, coded_bool, coded_list}
use Rattle.std.proofs.Common.{inl, inr, ap, ◌∙◌}
use Rattle.psl_tree.specs.Trees.{Boolean, Const, Test, Not, And, Or}
use Rattle.psl_tree.specs.declared.atom.Edge as atom_edge
use Rattle.psl_tree.specs.declared.atom.Edge.TheVariants.{Value, Rise, Fall}
use Rattle.psl_tree.specs.Holds.{edge_number}

-- a constructor of a Boolean: a constant, an atom, or the number of another
abbrev pub BooleanToken : Type 0
BooleanToken = Truth ⊎ ((ℕ × (ℕ × ℕ)) ⊎ ℕ)

abbrev pub boolean_tokens : Boolean → List BooleanToken → List BooleanToken
boolean_tokens (Const value) rest = inl value ∷ rest
boolean_tokens (Test atom) rest = inr (inl (atom.signal, (atom.bit, edge_number atom.edge))) ∷ rest
boolean_tokens (Not part) rest = boolean_tokens part (inr (inr 0) ∷ rest)
boolean_tokens (And left right) rest = boolean_tokens left (boolean_tokens right (inr (inr 1) ∷ rest))
boolean_tokens (Or left right) rest = boolean_tokens left (boolean_tokens right (inr (inr 2) ∷ rest))

abbrev pub numbered_edge : ℕ → atom_edge.Edge
numbered_edge zero = Value
numbered_edge (suc zero) = Rise
numbered_edge (suc (suc _)) = Fall

-- what a token makes of the Booleans before it
abbrev pub boolean_step : BooleanToken → List Boolean → List Boolean
boolean_step (inl value) stack = Const value ∷ stack
boolean_step (inr (inl atom)) stack =
    Test (record { signal = atom.0; bit = atom.1.0; edge = numbered_edge atom.1.1 }) ∷ stack
boolean_step (inr (inr zero)) (part ∷ stack) = Not part ∷ stack
boolean_step (inr (inr (suc zero))) (right ∷ left ∷ stack) = And left right ∷ stack
boolean_step (inr (inr (suc (suc _)))) (right ∷ left ∷ stack) = Or left right ∷ stack
boolean_step _ stack = stack

abbrev pub read_booleans : List BooleanToken → List Boolean → List Boolean
read_booleans [] stack = stack
read_booleans (token ∷ rest) stack = read_booleans rest (boolean_step token stack)

abbrev pub first_boolean : List Boolean → Boolean
first_boolean [] = Const false
first_boolean (test ∷ _) = test

abbrev numbered_edge-number : (edge : atom_edge.Edge) → numbered_edge (edge_number edge) ≡ edge
numbered_edge-number Value = refl
numbered_edge-number Rise = refl
numbered_edge-number Fall = refl

abbrev read-boolean : (test : Boolean) (rest : List BooleanToken) (stack : List Boolean)
    → read_booleans (boolean_tokens test rest) stack ≡ read_booleans rest (test ∷ stack)
read-boolean (Const value) rest stack = refl
read-boolean (Test atom) rest stack =
    let with_edge = λ (edge : atom_edge.Edge). Test (record { signal = atom.signal; bit = atom.bit; edge = edge }) in
    ap (λ (edge : atom_edge.Edge). read_booleans rest (with_edge edge ∷ stack)) (numbered_edge-number atom.edge)
read-boolean (Not part) rest stack = read-boolean part (inr (inr 0) ∷ rest) stack
read-boolean (And left right) rest stack =
    read-boolean left (boolean_tokens right (inr (inr 1) ∷ rest)) stack ∙ read-boolean right (inr (inr 1) ∷ rest) (left ∷ stack)
read-boolean (Or left right) rest stack =
    read-boolean left (boolean_tokens right (inr (inr 2) ∷ rest)) stack ∙ read-boolean right (inr (inr 2) ∷ rest) (left ∷ stack)

abbrev pub boolean_token_code : Coded BooleanToken
boolean_token_code = coded⊎ coded_bool (coded⊎ (coded× coded_ℕ (coded× coded_ℕ coded_ℕ)) coded_ℕ)

abbrev pub boolean_code : Coded Boolean
boolean_code = code_by (List BooleanToken) (coded_list boolean_token_code) (λ test. boolean_tokens test [])
    (λ tokens. first_boolean (read_booleans tokens [])) (λ test. ap first_boolean (read-boolean test [] []))
