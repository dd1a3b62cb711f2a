-- What paths, numbers and constants of a text say (IEEE 1850, clause 4.2).
use Rattle.std.specs.Prelude.{ℕ, ◌-◌, ◌^◌, min, List, [], ◌∷◌, ◌++◌, ◌==◌, decimal, unwrap_or}
use Rattle.std.specs.List.{after_first}
use Rattle.psl_lexer.specs.declared.kind.TokenKind.{TokenKind}
use Rattle.psl_lexer.specs.declared.kind.TokenKind.TheVariants as kinds
use Rattle.psl_lexer.specs.declared.token.Token.{Token}
use Rattle.psl_lexer.specs.Bytes.{base_of}
use Rattle.psl_lexer.specs.Values.{value_of}

-- names, each behind a dot
abbrev pub dotted : List Token → List ℕ
dotted [] = []
dotted (name ∷ more) = 46 ∷ (name.text ++ dotted more)

-- the text of a path: its names joined by dots
abbrev pub path_text : List Token → List ℕ
path_text [] = []
path_text (first ∷ more) = first.text ++ dotted more

-- a text followed by an index in square brackets, in decimal digits without a leading zero
abbrev pub indexed_text : List ℕ → ℕ → List ℕ
indexed_text text index = text ++ 91 ∷ (decimal index ++ 93 ∷ [])

-- a number as far as the program can say it: no token of a text passes 2^64 - 1
abbrev pub sayable : ℕ → ℕ
sayable number = min number (2 ^ 64 - 1)

-- what a number says
abbrev pub number_of : Token → ℕ
number_of token = sayable (value_of 10 token.text)

-- what the letter of a base and digits say
abbrev pub based_value : List ℕ → ℕ
based_value [] = 0
based_value (letter ∷ digits) = sayable (value_of (unwrap_or (base_of letter) 10) digits)

-- what a constant with a size says: its base and digits stand behind the `'`
abbrev pub constant_of : List ℕ → ℕ
constant_of text = based_value (after_first (λ byte. byte == 39) text)

-- the value of a number or a constant, by its kind
abbrev pub value_as : TokenKind → Token → ℕ
value_as kinds.Constant token = constant_of token.text
value_as _ token = number_of token

-- the value of a number or a constant
abbrev pub literal_value : Token → ℕ
literal_value token = value_as token.kind token
