-- What a text in the DIMACS format stands for.
use Rattle.std.specs.Prelude.{◌≡◌, ℕ, ℤ, ◌≤◌, List, [], ◌∷◌, ◌++◌, length, map, decimal, IsTrue}
use Rattle.std.specs.Fmt.{signed_decimal}
use Rattle.psl_base.specs.Tokens.{PlacedToken}
use Rattle.clauses.specs.Literals.{clauses_within, clause_words}
use Rattle.clauses.specs.declared.flat.TheConstants.{MOST_VARIABLES, MOST_WORDS}
use Rattle.sat_dimacs.specs.Words.{all_words}

-- the texts of words
abbrev pub texts : List PlacedToken → List (List ℕ)
texts words = map (λ word. word.text) words

-- the words `p`, `cnf` and `0`
abbrev pub p_text : List ℕ
p_text = 112 ∷ []

abbrev pub cnf_text : List ℕ
cnf_text = 99 ∷ 110 ∷ 102 ∷ []

abbrev pub zero_text : List ℕ
zero_text = 48 ∷ []

-- the words of a header: `p`, `cnf`, the variables and the clauses
abbrev pub header_texts : ℕ → ℕ → List (List ℕ)
header_texts variables clauses = p_text ∷ cnf_text ∷ decimal variables ∷ decimal clauses ∷ []

-- the words of literals, and of clauses, each of which has a `0` at its end
abbrev pub literal_texts : List ℤ → List (List ℕ)
literal_texts literals = map (λ literal. signed_decimal literal) literals

abbrev pub clause_texts : List (List ℤ) → List (List ℕ)
clause_texts [] = []
clause_texts (clause ∷ clauses) = literal_texts clause ++ (zero_text ∷ clause_texts clauses)

-- A text stands for the formula of so many variables with these clauses: its words are the header of just so many
-- variables and clauses, and the clauses. The literals are of the variables, and the limits of a formula are kept.
pub record StandsFor (text : List ℕ) (variables : ℕ) (clauses : List (List ℤ)) : Type 0 where
  pub words : texts (all_words text).tokens ≡ header_texts variables (length clauses) ++ clause_texts clauses
  pub few_variables : variables ≤ MOST_VARIABLES
  pub within : IsTrue (clauses_within variables clauses)
  pub few_words : clause_words clauses ≤ MOST_WORDS
