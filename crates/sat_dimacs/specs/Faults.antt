-- The first fault of a text that stands for no formula.
use Rattle.std.specs.Prelude.{◌≡◌, ◌≢◌, ◌⊎◌, ℕ, ℤ, ◌<◌, ◌≤◌, true, false, List, [], ◌∷◌, ◌++◌, length, decimal, Option, Some, None, IsTrue, IsSome}
use Rattle.std.specs.Fmt.{signed_decimal}
use Rattle.psl_base.specs.declared.place.Place.{Place}
use Rattle.psl_base.specs.Tokens.{PlacedToken, TokensLeft}
use Rattle.clauses.specs.Literals.{is_within, is_literal, clause_within, clauses_within, clause_words, words_with}
use Rattle.clauses.specs.declared.flat.TheConstants.{MOST_VARIABLES, MOST_WORDS}
use Rattle.sat_dimacs.specs.declared.fault.DimacsFault.{DimacsFault}
use Rattle.sat_dimacs.specs.declared.fault.DimacsFault.TheVariants as faults
use Rattle.sat_dimacs.specs.Words.{all_words}
use Rattle.sat_dimacs.specs.Formulas.{texts, p_text, cnf_text, zero_text, header_texts, literal_texts, clause_texts}

-- the place of a fault
abbrev pub place_of : DimacsFault → Option Place
place_of (faults.NoHeader place) = Some place
place_of (faults.BadHeader place) = Some place
place_of (faults.SecondHeader place) = Some place
place_of (faults.NotALiteral place) = Some place
place_of (faults.LiteralTooLarge place) = Some place
place_of (faults.MoreClauses place) = Some place
place_of (faults.FewerClauses place) = Some place
place_of (faults.OpenClause place) = Some place
place_of (faults.TooLarge place) = Some place
place_of faults.NoMemory = None

-- behind these words of a text a word stands at a place, or the text ends there
abbrev pub StandsAt : TokensLeft → List PlacedToken → Option (List ℕ) → Place → Type 0
StandsAt all before None place = (all.tokens ≡ before) × (place ≡ all.end)
StandsAt all before (Some text) place =
    (word : PlacedToken) × (behind : List PlacedToken) × (all.tokens ≡ before ++ word ∷ behind) × (text ≡ word.text) × (place ≡ word.place)

-- a word is no number of variables or clauses
abbrev pub IsNoCount : Option (List ℕ) → Type 0
IsNoCount word = (count : ℕ) → count ≤ MOST_VARIABLES → word ≢ Some (decimal count)

-- after these words of a header the next is none of it
abbrev pub BreaksHeader : List (List ℕ) → Option (List ℕ) → Type 0
BreaksHeader before word =
    ((before ≡ p_text ∷ []) × (word ≢ Some cnf_text))
    ⊎ ((before ≡ p_text ∷ cnf_text ∷ []) × IsNoCount word)
    ⊎ ((variables : ℕ) × (variables ≤ MOST_VARIABLES) × (before ≡ p_text ∷ cnf_text ∷ decimal variables ∷ []) × IsNoCount word)

-- words are a header, clauses and the literals of one more that has not ended yet
pub record HasRead (before : List (List ℕ)) (variables wanted : ℕ) (clauses : List (List ℤ)) (begun : List ℤ) : Type 0 where
  pub words : before ≡ header_texts variables wanted ++ (clause_texts clauses ++ literal_texts begun)
  pub few_variables : variables ≤ MOST_VARIABLES
  pub few_clauses : wanted ≤ MOST_VARIABLES
  pub within : IsTrue (clauses_within variables clauses)
  pub begun_within : IsTrue (clause_within variables begun)
  pub few_words : clause_words clauses ≤ MOST_WORDS
  pub at_most : length clauses ≤ wanted

-- reading a text stops at a place, with so many variables and clauses in its header, with the clauses up to there, the
-- literals of the one that has not ended, and the next word
pub record StopsAt (all : TokensLeft) (place : Place) (P : ℕ → ℕ → List (List ℤ) → List ℤ → Option (List ℕ) → Type 0) : Type 0 where
  pub before : List PlacedToken
  pub variables : ℕ
  pub wanted : ℕ
  pub clauses : List (List ℤ)
  pub begun : List ℤ
  pub word : Option (List ℕ)
  pub read : HasRead (texts before) variables wanted clauses begun
  pub at : StandsAt all before word place
  pub why : P variables wanted clauses begun word

-- a word is neither a literal nor a `0`, nor the `p` of a header
pub record IsNoLiteral (text : List ℕ) : Type 0 where
  pub not_zero : text ≢ zero_text
  pub not_header : text ≢ p_text
  pub not_literal : (literal : ℤ) → is_literal literal ≡ true → text ≢ signed_decimal literal

-- the first fault of a text, by its words
abbrev pub IsFault : TokensLeft → DimacsFault → Type 0
IsFault all (faults.NoHeader place) = (word : Option (List ℕ)) × StandsAt all [] word place × (word ≢ Some p_text)
IsFault all (faults.BadHeader place) =
    (before : List PlacedToken) × (word : Option (List ℕ)) × StandsAt all before word place × BreaksHeader (texts before) word
IsFault all (faults.SecondHeader place) =
    StopsAt all place (λ variables wanted clauses begun word. (length clauses < wanted) × (word ≡ Some p_text))
IsFault all (faults.NotALiteral place) =
    StopsAt all place (λ variables wanted clauses begun word. (length clauses < wanted) × ((text : List ℕ) × (word ≡ Some text) × IsNoLiteral text))
IsFault all (faults.LiteralTooLarge place) =
    StopsAt all place (λ variables wanted clauses begun word. (length clauses < wanted)
    × ((literal : ℤ) × (is_literal literal ≡ true) × (is_within variables literal ≡ false) × (word ≡ Some (signed_decimal literal))))
IsFault all (faults.MoreClauses place) = StopsAt all place (λ variables wanted clauses begun word. (length clauses ≡ wanted) × IsSome word)
IsFault all (faults.FewerClauses place) =
    StopsAt all place (λ variables wanted clauses begun word. (length clauses < wanted) × (begun ≡ []) × (word ≡ None))
IsFault all (faults.OpenClause place) = StopsAt all place (λ variables wanted clauses begun word. (0 < length begun) × (word ≡ None))
IsFault all (faults.TooLarge place) =
    StopsAt all place (λ variables wanted clauses begun word. (length clauses < wanted) × (word ≡ Some zero_text) × (MOST_WORDS < words_with clauses begun))
IsFault all faults.NoMemory = Unit {0}

abbrev pub IsFirstFault : List ℕ → DimacsFault → Type 0
IsFirstFault text fault = IsFault (all_words text) fault
