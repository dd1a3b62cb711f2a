-- A comparison of a text without faults is one of two numbers that fit in as many bits as are compared.
use Rattle.std.proofs.Common.{◌≡◌, ℕ, ◌^◌, ◌<◌, max, Bool, true, false, List, [], ◌∷◌, ◌++◌, length, Option, None, Some, refl, sym, subst, nat_le, arith}
use Rattle.std.proofs.lemmas.Bool.{leb-false}
use Rattle.std.specs.Option.{is_none}
use Rattle.std.specs.Prelude.{if◌then◌else◌, ◌&&◌}
use Rattle.psl_base.specs.declared.place.Place.{Place}
use Rattle.psl_lexer.specs.declared.kind.TokenKind.{TokenKind}
use Rattle.psl_lexer.specs.declared.kind.TokenKind.TheVariants as kinds
use Rattle.psl_lexer.specs.declared.token.Token.{Token}
use Rattle.psl_grammar.specs.declared.tree.Expression as code_expression
use Rattle.psl_grammar.specs.declared.tree.Expression.TheVariants as expressions
use Rattle.psl_grammar.specs.declared.tree.Statement as code_statement
use Rattle.psl_tree.specs.declared.name.Name.{Name}
use Rattle.psl_sugar.proofs.NumberLaws.{compares_numbers}
use Rattle.psl_sugar.specs.Comparisons.{compared_width}
use Rattle.psl_sugar.specs.Numbers.{FitsIn}
use Rattle.psl_sugar.specs.declared.vector.Bit.{Bit}
use Rattle.psl_sugar.specs.declared.operand.Operand.{Operand}
use Rattle.psl_sugar.specs.declared.operand.Operand.TheVariants as operands
use Rattle.psl_layer_theory.specs.Flaws.{flaw_where, is_declared, reference_flaws, literal_side, side_of, side_flaws, width_in, infix_flaws, is_comparison, expression_flaws}
use Rattle.psl_layer_theory.specs.Kernel.{bits_operand, operand_of}
use Rattle.psl_layer_theory.specs.Kinds.{place_of, operator_before, kind_of}
use Rattle.psl_layer_theory.specs.References.{reference}
use Rattle.psl_layer_theory.specs.Texts.{literal_value}
use Rattle.psl_layer_theory.specs.declared.fault.Cause.TheVariants as causes
use Rattle.psl_layer_theory.specs.declared.fault.Flaw.{Flaw}
use Rattle.psl_layer_theory.specs.declared.found.Reference.{Reference}
use Rattle.psl_layer_theory.specs.declared.found.Reference.TheVariants as references
use Rattle.psl_layer_theory.specs.declared.found.Side.{Side}
use Rattle.psl_layer_theory.specs.declared.found.Side.TheVariants.{Bits, Value, Neither}
use Rattle.psl_layer_laws.specs.Comparisons.{TextsCompareNumbers}

-- neither of two lists has a fault where both together have none
first_none : (xs ys : List Flaw) → xs ++ ys ≡ [] → xs ≡ []
first_none [] ys e = refl
first_none (x ∷ xs) ys e = cc

second_none : (xs ys : List Flaw) → xs ++ ys ≡ [] → ys ≡ []
second_none [] ys e = e
second_none (x ∷ xs) ys e = cc

-- what a side is, as an operand
abbrev IsOperand : Side → Operand → Type 0
IsOperand (Bits None) operand = ⊥
IsOperand (Bits (Some width)) operand = (bits : List Bit) × (operand ≡ operands.Bits bits) × (length bits ≡ width)
IsOperand (Value value place) operand = operand ≡ operands.Value value
IsOperand Neither operand = Unit {0}

bits_operands : (found : Reference) (place : Place) → reference_flaws found place ≡ [] → IsOperand (Bits (width_in found)) (bits_operand found)
bits_operands references.Nothing place e = cc
bits_operands references.Several place e = cc
bits_operands (references.Bits bits) place e = (bits, refl, refl)

literal_operand : (kind : TokenKind) (token : Token) → IsOperand (literal_side kind token) (operands.Value (literal_value token))
literal_operand kinds.Number token = refl
literal_operand kinds.Constant token = refl
literal_operand _ token = tt

module _ (scope : List code_statement.Statement) (names : List Name) where
  -- a path that is declared and has an index stands for nothing
  path_operand : (path : List Token) (index : Option Token) (place : Place) (declared none : Bool)
      → (if declared && none then [] else reference_flaws (if declared then references.Nothing else reference names path index) place) ≡ []
      → IsOperand (if declared && none then Neither else Bits (width_in (if declared then references.Nothing else reference names path index))) (bits_operand (reference names path index))
  path_operand path index place true true e = tt
  path_operand path index place true false e = cc
  path_operand path index place false none e = bits_operands (reference names path index) place e

  side_operand : (in_sere : Bool) (x : code_expression.Expression) → expression_flaws scope names in_sere x ≡ [] → IsOperand (side_of scope names x) (operand_of names x)
  side_operand in_sere (expressions.Signal [] index) e = path_operand [] index _ (is_declared scope []) (is_none index) e
  side_operand in_sere (expressions.Signal (name ∷ path) index) e = path_operand (name ∷ path) index name.place (is_declared scope (name ∷ path)) (is_none index) e
  side_operand in_sere (expressions.Literal token) e = literal_operand token.kind token
  side_operand in_sere _ e = tt

-- a value that needs no more bits than there are
value_fits : (width value : ℕ) (place : Place) → flaw_where (nat_le (2 ^ width) value) causes.ConstantTooWide place ≡ [] → value < 2 ^ width
value_fits width value place e = at (nat_le (2 ^ width) value) refl e where
  at : (b : Bool) → nat_le (2 ^ width) value ≡ b → flaw_where b causes.ConstantTooWide place ≡ [] → value < 2 ^ width
  at true past none = cc
  at false past none = leb-false (2 ^ width) value past

abbrev Fit : Operand → Operand → Type 0
Fit first second = FitsIn (compared_width first second) first × FitsIn (compared_width first second) second

value_fit : (bits : List Bit) (value : ℕ) → value < 2 ^ length bits → Fit (operands.Bits bits) (operands.Value value)
value_fit bits value below =
    let same : max (length bits) 0 ≡ length bits = omega arith in
    (tt, subst (λ (w : ℕ). value < 2 ^ w) (sym same) below)

fit_value : (bits : List Bit) (value : ℕ) → value < 2 ^ length bits → Fit (operands.Value value) (operands.Bits bits)
fit_value bits value below =
    let same : max 0 (length bits) ≡ length bits = omega arith in
    (subst (λ (w : ℕ). value < 2 ^ w) (sym same) below, tt)

-- the sides of a comparison without faults fit
sides_fit : (first second : Side) (place : Place) (left right : Operand) → IsOperand first left → IsOperand second right → side_flaws first second place ≡ [] → Fit left right
sides_fit (Bits None) second place left right h k e = absurd h
sides_fit (Bits (Some width)) (Bits None) place left right h k e = absurd k
sides_fit (Bits (Some width)) (Bits (Some other)) place left right (bits, h, long) (more, k, wide) e = rw (h, k) (tt, tt)
sides_fit (Bits (Some width)) (Value value here) place left right (bits, h, long) k e =
    rw (h, k) (value_fit bits value (subst (λ (w : ℕ). value < 2 ^ w) (sym long) (value_fits width value here e)))
sides_fit (Bits (Some width)) Neither place left right h k e = cc
sides_fit (Value value here) (Bits None) place left right h k e = absurd k
sides_fit (Value value here) (Bits (Some width)) place left right h (bits, k, long) e =
    rw (h, k) (fit_value bits value (subst (λ (w : ℕ). value < 2 ^ w) (sym long) (value_fits width value here e)))
sides_fit (Value value here) (Value other there) place left right h k e = cc
sides_fit (Value value here) Neither place left right h k e = cc
sides_fit Neither second place left right h k e = cc

-- the faults of an operator between its operands, without theirs
abbrev flaws_between : List code_statement.Statement → List Name → Bool → code_expression.Expression → TokenKind → code_expression.Expression → List Flaw
flaws_between scope names in_sere x kind y =
    if is_comparison (operator_before in_sere kind y)
    then side_flaws (side_of scope names x) (side_of scope names y) (place_of x)
    else infix_flaws in_sere (operator_before in_sere kind y) (kind_of scope in_sere x) (place_of x) (kind_of scope in_sere y) (place_of y)

pub texts_compare_numbers : TextsCompareNumbers
texts_compare_numbers scope named names in_sere first second x y operator comparison atoms is none =
    let of_left = expression_flaws scope names in_sere x in
    let of_right = expression_flaws scope names in_sere y in
    let own = flaws_between scope names in_sere x operator.kind y in
    let both = first_none (of_left ++ of_right) own none in
    let sides : side_flaws (side_of scope names x) (side_of scope names y) (place_of x) ≡ [] = rw is at (second_none (of_left ++ of_right) own none) in
    let fit = sides_fit (side_of scope names x) (side_of scope names y) (place_of x) (operand_of names x) (operand_of names y)
    (side_operand scope names in_sere x (first_none of_left of_right both)) (side_operand scope names in_sere y (second_none of_left of_right both)) sides in
    rw is (compares_numbers comparison (operand_of names x) (operand_of names y) atoms fit.0 fit.1)
