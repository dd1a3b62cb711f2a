-- What a word does to a formula that is read.
use Rattle.std.specs.Prelude.{◌≡◌, ◌⊎◌, ℕ, ℤ, ◌<◌, ◌≤◌, true, false, List, [], ◌∷◌, ◌++◌, length, decimal, Option}
use Rattle.std.specs.Fmt.{signed_decimal}
use Rattle.psl_base.specs.Tokens.{PlacedToken, TokensLeft}
use Rattle.clauses.specs.Literals.{is_within, is_literal, words_with}
use Rattle.clauses.specs.declared.flat.TheConstants.{MOST_VARIABLES, MOST_WORDS}
use Rattle.sat_dimacs.specs.declared.fault.DimacsFault.{DimacsFault}
use Rattle.sat_dimacs.specs.declared.fault.DimacsFault.TheVariants as faults
use Rattle.sat_dimacs.specs.declared.header.Header.{Header}
use Rattle.sat_dimacs.specs.declared.values.Value.{Value}
use Rattle.sat_dimacs.specs.declared.values.Value.TheVariants as value
use Rattle.sat_dimacs.specs.Formulas.{texts, p_text, zero_text, header_texts}
use Rattle.sat_dimacs.specs.Faults.{StandsAt, IsNoCount, IsNoLiteral}

-- these words were taken
pub record Took (all left : TokensLeft) (before : List PlacedToken) : Type 0 where
  pub is : all.tokens ≡ before ++ left.tokens
  pub end : left.end ≡ all.end

-- a number was taken, or the next word is none
abbrev pub IsCount : TokensLeft → TokensLeft → ℕ → Type 0
IsCount old new count = (count ≤ MOST_VARIABLES) × ((word : PlacedToken) × Took old new (word ∷ []) × (word.text ≡ decimal count))

abbrev pub IsNoCountFault : TokensLeft → DimacsFault → Type 0
IsNoCountFault old (faults.BadHeader place) = (word : Option (List ℕ)) × StandsAt old [] word place × IsNoCount word
IsNoCountFault old other = ⊥

-- a header was taken
abbrev pub IsHeader : TokensLeft → TokensLeft → Header → Type 0
IsHeader old new header =
    (header.variables ≤ MOST_VARIABLES) × (header.clauses ≤ MOST_VARIABLES)
    × ((before : List PlacedToken) × Took old new before × (texts before ≡ header_texts header.variables header.clauses))

-- what a word says, by the number of variables
abbrev pub Says : ℕ → List ℕ → Value → Type 0
Says variables text value.Zero = text ≡ zero_text
Says variables text (value.Literal literal) = (is_within variables literal ≡ true) × (text ≡ signed_decimal literal)
Says variables text value.LargeLiteral =
    (literal : ℤ) × (is_literal literal ≡ true) × (is_within variables literal ≡ false) × (text ≡ signed_decimal literal)
Says variables text value.Header = text ≡ p_text
Says variables text value.Other = IsNoLiteral text

-- the clause that was begun ends
abbrev pub EndsClause : List (List ℤ) → List ℤ → List (List ℤ) → List ℤ → Type 0
EndsClause clauses begun clauses' begun' = (clauses' ≡ clauses ++ begun ∷ []) × (begun' ≡ []) × (words_with clauses begun ≤ MOST_WORDS)

-- the clauses are too large with the one that ends at a word
abbrev pub IsEndFault : List (List ℤ) → List ℤ → PlacedToken → DimacsFault → Type 0
IsEndFault clauses begun word (faults.TooLarge place) = (place ≡ word.place) × (MOST_WORDS < words_with clauses begun)
IsEndFault clauses begun word faults.NoMemory = Unit {0}
IsEndFault clauses begun word other = ⊥

-- a word ends the clause that was begun, or adds a literal to it
abbrev pub AddsWord : ℕ → List (List ℤ) → List ℤ → List ℕ → List (List ℤ) → List ℤ → Type 0
AddsWord variables clauses begun text clauses' begun' =
    ((text ≡ zero_text) × EndsClause clauses begun clauses' begun')
    ⊎ ((literal : ℤ) × (is_within variables literal ≡ true) × (text ≡ signed_decimal literal) × (clauses' ≡ clauses)
    × (begun' ≡ begun ++ literal ∷ []))

-- the fault of a word behind clauses, of which there are to be so many
abbrev pub IsWordFault : ℕ → ℕ → List (List ℤ) → List ℤ → PlacedToken → DimacsFault → Type 0
IsWordFault variables wanted clauses begun word (faults.SecondHeader place) =
    (place ≡ word.place) × (length clauses < wanted) × (word.text ≡ p_text)
IsWordFault variables wanted clauses begun word (faults.NotALiteral place) =
    (place ≡ word.place) × (length clauses < wanted) × IsNoLiteral word.text
IsWordFault variables wanted clauses begun word (faults.LiteralTooLarge place) =
    (place ≡ word.place) × (length clauses < wanted) × Says variables word.text value.LargeLiteral
IsWordFault variables wanted clauses begun word (faults.MoreClauses place) = (place ≡ word.place) × (wanted ≤ length clauses)
IsWordFault variables wanted clauses begun word (faults.TooLarge place) =
    (place ≡ word.place) × (length clauses < wanted) × (word.text ≡ zero_text) × (MOST_WORDS < words_with clauses begun)
IsWordFault variables wanted clauses begun word faults.NoMemory = Unit {0}
IsWordFault variables wanted clauses begun word other = ⊥
