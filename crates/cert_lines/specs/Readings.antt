-- What is read of a text, line by line.
use Rattle.std.specs.Prelude.{◌≡◌, ◌⊎◌, ℕ, suc, List, ◌∷◌, ◌++◌, length, IsTrue}
use Rattle.clause_text.specs.Lines.{lacks}
use Rattle.cert_theory.specs.declared.answer.CertReason.{CertReason}
use Rattle.cert_theory.specs.declared.answer.CertReason.TheVariants.{EndsInside}
use Rattle.cert_theory.specs.declared.header.Asked.{Asked}
use Rattle.cert_theory.specs.Phases.{Phase}
use Rattle.cert_theory.specs.Sections.{Queries}
use Rattle.cert_theory.specs.Texts.{IsRefusal, Reaches}
use Rattle.cert_lines.specs.declared.reading.Reading.{Reading}
use Rattle.cert_lines.specs.declared.reading.Refusal.{Refusal}

-- a whole line is taken
pub record Takes (line : List ℕ) (old new : Reading) : Type 0 where
  pub is : old.rest.now ≡ line ++ 10 ∷ new.rest.now
  pub whole : IsTrue (lacks 10 line)
  pub number : new.line ≡ suc old.line

-- no line feed is left
pub record IsCutAt (reading : Reading) (refusal : Refusal) : Type 0 where
  pub reason : refusal.reason ≡ EndsInside
  pub line : refusal.line ≡ reading.line
  pub inside : IsTrue (lacks 10 reading.rest.now)

-- the next line is refused by a rule
pub record IsRefusedNext (rule : List ℕ → CertReason → Type 0) (reading : Reading) (refusal : Refusal) : Type 0 where
  pub line : List ℕ
  pub behind : List ℕ
  pub is : reading.rest.now ≡ line ++ 10 ∷ behind
  pub whole : IsTrue (lacks 10 line)
  pub refused : rule line refusal.reason
  pub number : refusal.line ≡ reading.line

-- there is no next line, or it is refused by a rule
abbrev pub IsRefusedBy : (List ℕ → CertReason → Type 0) → Reading → Refusal → Type 0
IsRefusedBy rule reading refusal = IsCutAt reading refusal ⊎ IsRefusedNext rule reading refusal

-- what is left of a text, whose lines before lead to a phase
pub record IsAt (asked : Asked) (queries : Queries) (text : List ℕ) (phase : Phase) (reading : Reading) : Type 0 where
  pub lines : List (List ℕ)
  pub reaches : Reaches asked queries text lines phase reading.rest.now
  pub number : reading.line ≡ suc (length lines)

-- the first refusal of a text
abbrev pub RefusesAs : Asked → Queries → List ℕ → Refusal → Type 0
RefusesAs asked queries text refusal = IsRefusal asked queries text refusal.reason refusal.line
