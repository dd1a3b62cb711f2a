-- Literals with a 0 behind them, at the front of a line.
use Rattle.std.specs.Prelude.{◌≡◌, ℕ, ℤ, pos, Bool, true, false, List, [], ◌∷◌, ◌++◌, map, Option, Some, None, IsTrue}
use Rattle.std.specs.List.{list_all}
use Rattle.clauses.specs.Literals.{clause_within}
use Rattle.clauses.specs.Logs.{is_number, is_entry}
use Rattle.clauses.specs.Logs.LogEntry.{Lemma}
use Rattle.clauses.specs.declared.flat.TheConstants.{MOST_VARIABLES}
use Rattle.clause_text.specs.Lines.{literals_text, hints_text, entry_text}

-- a blank, or nothing, comes next
abbrev pub Ends : List ℕ → Type 0
Ends [] = Unit {0}
Ends (byte ∷ text) = byte ≡ 32

-- a line is these literals, a 0 and what is behind
pub record Begins (line behind : List ℕ) (literals : List ℤ) : Type 0 where
  pub is : line ≡ literals_text literals ++ behind
  pub within : IsTrue (clause_within MOST_VARIABLES literals)
  pub ends : Ends behind

-- a line begins with a list of literals, or with none
abbrev pub IsList : List ℕ → Option (List ℕ) → List ℤ → Type 0
IsList line None read = (behind : List ℕ) (literals : List ℤ) → Begins line behind literals → ⊥
IsList line (Some behind) read = Begins line behind read

-- all of these literals are numbers of clauses, or not
abbrev pub AreNumbers : List ℤ → List ℕ → Bool → Type 0
AreNumbers literals numbers true = (literals ≡ map (λ number. pos number) numbers) × IsTrue (list_all is_number numbers)
AreNumbers literals numbers false = (others : List ℕ) → literals ≡ map (λ number. pos number) others → ⊥

-- a text is these hints and a 0, or no hints
abbrev pub AreHints : List ℕ → List ℕ → Bool → Type 0
AreHints text hints true = (text ≡ hints_text hints) × IsTrue (list_all is_number hints)
AreHints text hints false = (others : List ℕ) → list_all is_number others ≡ true → text ≡ hints_text others → ⊥

-- a line is a lemma's with these literals and hints, or no lemma's
abbrev pub IsLemmaLine : List ℕ → List ℤ → List ℕ → Bool → Type 0
IsLemmaLine line literals hints true = (line ≡ entry_text (Lemma literals hints)) × IsTrue (is_entry (Lemma literals hints))
IsLemmaLine line literals hints false = (others : List ℤ) (more : List ℕ) → is_entry (Lemma others more) ≡ true → line ≡ entry_text (Lemma others more) → ⊥
