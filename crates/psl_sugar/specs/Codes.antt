-- Codes of sequences and formulas, by which proofs tell two of them apart. A tree is coded as the list of its
-- constructors, each after its parts.
use Rattle.std.specs.Prelude.{◌≡◌, ◌⊎◌, ℕ, zero, suc, false, List, [], ◌∷◌, refl}
use Rattle.std.specs.Coded.{Coded, code_by, coded×, coded⊎, coded_ℕ, coded_list}
use Rattle.std.proofs.Common.{inl, inr, ap, ◌∙◌}
use Rattle.psl_tree.specs.Trees.{Boolean, Sequence, Formula}
use Rattle.psl_tree.specs.Trees.{Const, Not, And, Empty, One, Concat, Fuse, Either, Both, Star, Clocked, Now, NowStrong, Weak, Strong, Next, Until, Suffix, Abort, SyncAbort}
use Rattle.psl_tree.specs.Codes.{boolean_code}

-- a constructor of a sequence: a letter, a clock, or the number of another
abbrev pub SequenceToken : Type 0
SequenceToken = Boolean ⊎ (Boolean ⊎ ℕ)

abbrev pub sequence_tokens : Sequence → List SequenceToken → List SequenceToken
sequence_tokens Empty rest = inr (inr 0) ∷ rest
sequence_tokens (One test) rest = inl test ∷ rest
sequence_tokens (Concat left right) rest = sequence_tokens left (sequence_tokens right (inr (inr 2) ∷ rest))
sequence_tokens (Fuse left right) rest = sequence_tokens left (sequence_tokens right (inr (inr 3) ∷ rest))
sequence_tokens (Either left right) rest = sequence_tokens left (sequence_tokens right (inr (inr 4) ∷ rest))
sequence_tokens (Both left right) rest = sequence_tokens left (sequence_tokens right (inr (inr 5) ∷ rest))
sequence_tokens (Star part) rest = sequence_tokens part (inr (inr 1) ∷ rest)
sequence_tokens (Clocked part clock) rest = sequence_tokens part (inr (inl clock) ∷ rest)

-- the pair that a number makes of two sequences
abbrev pub sequence_pair : ℕ → Sequence → Sequence → Sequence
sequence_pair zero left right = Concat left right
sequence_pair (suc zero) left right = Fuse left right
sequence_pair (suc (suc zero)) left right = Either left right
sequence_pair (suc (suc (suc _))) left right = Both left right

-- what a token makes of the sequences before it
abbrev pub sequence_step : SequenceToken → List Sequence → List Sequence
sequence_step (inl test) stack = One test ∷ stack
sequence_step (inr (inl clock)) (part ∷ stack) = Clocked part clock ∷ stack
sequence_step (inr (inr zero)) stack = Empty ∷ stack
sequence_step (inr (inr (suc zero))) (part ∷ stack) = Star part ∷ stack
sequence_step (inr (inr (suc (suc kind)))) (right ∷ left ∷ stack) = sequence_pair kind left right ∷ stack
sequence_step _ stack = stack

abbrev pub read_sequences : List SequenceToken → List Sequence → List Sequence
read_sequences [] stack = stack
read_sequences (token ∷ rest) stack = read_sequences rest (sequence_step token stack)

abbrev pub first_sequence : List Sequence → Sequence
first_sequence [] = Empty
first_sequence (sequence ∷ _) = sequence

abbrev read-sequence : (sequence : Sequence) (rest : List SequenceToken) (stack : List Sequence) → read_sequences (sequence_tokens sequence rest) stack ≡ read_sequences rest (sequence ∷ stack)
read-sequence Empty rest stack = refl
read-sequence (One test) rest stack = refl
read-sequence (Concat left right) rest stack =
    read-sequence left (sequence_tokens right (inr (inr 2) ∷ rest)) stack ∙ read-sequence right (inr (inr 2) ∷ rest) (left ∷ stack)
read-sequence (Fuse left right) rest stack =
    read-sequence left (sequence_tokens right (inr (inr 3) ∷ rest)) stack ∙ read-sequence right (inr (inr 3) ∷ rest) (left ∷ stack)
read-sequence (Either left right) rest stack =
    read-sequence left (sequence_tokens right (inr (inr 4) ∷ rest)) stack ∙ read-sequence right (inr (inr 4) ∷ rest) (left ∷ stack)
read-sequence (Both left right) rest stack =
    read-sequence left (sequence_tokens right (inr (inr 5) ∷ rest)) stack ∙ read-sequence right (inr (inr 5) ∷ rest) (left ∷ stack)
read-sequence (Star part) rest stack = read-sequence part (inr (inr 1) ∷ rest) stack
read-sequence (Clocked part clock) rest stack = read-sequence part (inr (inl clock) ∷ rest) stack

abbrev pub sequence_code : Coded Sequence
sequence_code = code_by (List SequenceToken) (coded_list (coded⊎ boolean_code (coded⊎ boolean_code coded_ℕ))) (λ sequence. sequence_tokens sequence []) (λ tokens. first_sequence (read_sequences tokens [])) (λ sequence. ap first_sequence (read-sequence sequence [] []))

-- a constructor of a formula: with a Boolean, with a sequence, or one of formulas alone; each by number
abbrev pub FormulaToken : Type 0
FormulaToken = (ℕ × Boolean) ⊎ ((ℕ × Sequence) ⊎ ℕ)

abbrev pub formula_tokens : Formula → List FormulaToken → List FormulaToken
formula_tokens (Now test) rest = inl (0, test) ∷ rest
formula_tokens (NowStrong test) rest = inl (1, test) ∷ rest
formula_tokens (Weak sequence) rest = inr (inl (0, sequence)) ∷ rest
formula_tokens (Strong sequence) rest = inr (inl (1, sequence)) ∷ rest
formula_tokens (Not part) rest = formula_tokens part (inr (inr 0) ∷ rest)
formula_tokens (And left right) rest = formula_tokens left (formula_tokens right (inr (inr 2) ∷ rest))
formula_tokens (Next part) rest = formula_tokens part (inr (inr 1) ∷ rest)
formula_tokens (Until left right) rest = formula_tokens left (formula_tokens right (inr (inr 3) ∷ rest))
formula_tokens (Suffix sequence part) rest = formula_tokens part (inr (inl (2, sequence)) ∷ rest)
formula_tokens (Abort part test) rest = formula_tokens part (inl (2, test) ∷ rest)
formula_tokens (SyncAbort part test) rest = formula_tokens part (inl (3, test) ∷ rest)
formula_tokens (Clocked part clock) rest = formula_tokens part (inl (4, clock) ∷ rest)

-- what a number makes of a formula and a Boolean
abbrev pub formula_with_test : ℕ → Formula → Boolean → Formula
formula_with_test zero part test = Abort part test
formula_with_test (suc zero) part test = SyncAbort part test
formula_with_test (suc (suc _)) part test = Clocked part test

-- what a token makes of the formulas before it
abbrev pub formula_step : FormulaToken → List Formula → List Formula
formula_step (inl (zero, test)) stack = Now test ∷ stack
formula_step (inl (suc zero, test)) stack = NowStrong test ∷ stack
formula_step (inl (suc (suc kind), test)) (part ∷ stack) = formula_with_test kind part test ∷ stack
formula_step (inr (inl (zero, sequence))) stack = Weak sequence ∷ stack
formula_step (inr (inl (suc zero, sequence))) stack = Strong sequence ∷ stack
formula_step (inr (inl (suc (suc _), sequence))) (part ∷ stack) = Suffix sequence part ∷ stack
formula_step (inr (inr zero)) (part ∷ stack) = Not part ∷ stack
formula_step (inr (inr (suc zero))) (part ∷ stack) = Next part ∷ stack
formula_step (inr (inr (suc (suc zero)))) (right ∷ left ∷ stack) = And left right ∷ stack
formula_step (inr (inr (suc (suc (suc _))))) (right ∷ left ∷ stack) = Until left right ∷ stack
formula_step _ stack = stack

abbrev pub read_formulas : List FormulaToken → List Formula → List Formula
read_formulas [] stack = stack
read_formulas (token ∷ rest) stack = read_formulas rest (formula_step token stack)

abbrev pub first_formula : List Formula → Formula
first_formula [] = Now (Const false)
first_formula (formula ∷ _) = formula

abbrev read-formula : (formula : Formula) (rest : List FormulaToken) (stack : List Formula) → read_formulas (formula_tokens formula rest) stack ≡ read_formulas rest (formula ∷ stack)
read-formula (Now test) rest stack = refl
read-formula (NowStrong test) rest stack = refl
read-formula (Weak sequence) rest stack = refl
read-formula (Strong sequence) rest stack = refl
read-formula (Not part) rest stack = read-formula part (inr (inr 0) ∷ rest) stack
read-formula (And left right) rest stack =
    read-formula left (formula_tokens right (inr (inr 2) ∷ rest)) stack ∙ read-formula right (inr (inr 2) ∷ rest) (left ∷ stack)
read-formula (Next part) rest stack = read-formula part (inr (inr 1) ∷ rest) stack
read-formula (Until left right) rest stack =
    read-formula left (formula_tokens right (inr (inr 3) ∷ rest)) stack ∙ read-formula right (inr (inr 3) ∷ rest) (left ∷ stack)
read-formula (Suffix sequence part) rest stack = read-formula part (inr (inl (2, sequence)) ∷ rest) stack
read-formula (Abort part test) rest stack = read-formula part (inl (2, test) ∷ rest) stack
read-formula (SyncAbort part test) rest stack = read-formula part (inl (3, test) ∷ rest) stack
read-formula (Clocked part clock) rest stack = read-formula part (inl (4, clock) ∷ rest) stack

abbrev pub formula_code : Coded Formula
formula_code = code_by (List FormulaToken) (coded_list (coded⊎ (coded× coded_ℕ boolean_code) (coded⊎ (coded× coded_ℕ sequence_code) coded_ℕ))) (λ formula. formula_tokens formula []) (λ tokens. first_formula (read_formulas tokens [])) (λ formula. ap first_formula (read-formula formula [] []))
