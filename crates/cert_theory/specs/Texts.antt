-- What is answered to the text of a certificate.
use Rattle.std.specs.Prelude.{◌≡◌, ℕ, ℤ, suc, ◌<◌, Bool, true, false, List, [], ◌∷◌, ◌++◌, length, IsTrue}
use Rattle.std.specs.List.{list_all}
use Rattle.clause_text.specs.Lines.{lacks}
use Rattle.cert_theory.specs.declared.answer.CertAnswer.{CertAnswer}
use Rattle.cert_theory.specs.declared.answer.CertAnswer.TheVariants.{Passed, Refused}
use Rattle.cert_theory.specs.declared.answer.CertReason.{CertReason}
use Rattle.cert_theory.specs.declared.answer.CertReason.TheVariants.{BadHeader, BadLine, WrongAssertion, LemmaFails, NoEmptyClause, EndsInside, TrailingBytes, TooManyLive, BadDrop, BadClause}
use Rattle.cert_theory.specs.declared.header.Asked.{Asked}
use Rattle.cert_theory.specs.declared.header.Header.{Header}
use Rattle.cert_theory.specs.declared.header.Section.TheVariants.{Initial}
use Rattle.cert_theory.specs.Phases.{Phase, Follows, IsRefusedLine}
use Rattle.cert_theory.specs.Phases.Phase.{AtVersion, AtAssertion, AtVisits, AtWindow, AtLive, AtLast, InClauses, InSection, AtEnd}
use Rattle.cert_theory.specs.Lines.{lines_text}
use Rattle.cert_theory.specs.Sections.{Queries}

-- lines that follow one another, from one phase to another
abbrev pub FollowAll : Asked → Queries → Phase → List (List ℕ) → Phase → Type 0
FollowAll asked queries from [] to = from ≡ to
FollowAll asked queries from (line ∷ lines) to =
    (next : Phase) × Follows asked queries from line next × FollowAll asked queries next lines to

-- a text begins with whole lines that lead to a phase, and this is the rest of it
pub record Reaches (asked : Asked) (queries : Queries) (text : List ℕ) (lines : List (List ℕ)) (phase : Phase) (rest : List ℕ) : Type 0 where
  pub is : text ≡ lines_text lines ++ rest
  pub whole : IsTrue (list_all (lacks 10) lines)
  pub follow : FollowAll asked queries AtVersion lines phase

-- a text begins with a header and lines of clauses, up to the word behind them
pub record HasClauses (asked : Asked) (queries : Queries) (text : List ℕ) (header : Header) (clauses : List (List ℤ)) : Type 0 where
  pub lines : List (List ℕ)
  pub rest : List ℕ
  pub reaches : Reaches asked queries text lines (InSection header clauses Initial []) rest

-- a line comes next, or none
abbrev pub is_end : Phase → Bool
is_end AtVersion = false
is_end (AtAssertion form) = false
is_end (AtVisits form) = false
is_end (AtWindow form visits) = false
is_end (AtLive form visits window) = false
is_end (AtLast header) = false
is_end (InClauses header clauses) = false
is_end (InSection header clauses section entries) = false
is_end AtEnd = true

-- no line is refused, and nothing follows the last
abbrev pub IsPassed : Asked → Queries → List ℕ → Type 0
IsPassed asked queries text = (lines : List (List ℕ)) × Reaches asked queries text lines AtEnd []

-- the first line that is refused is a whole one, with a number counted from 1
pub record RefusesLine (asked : Asked) (queries : Queries) (text : List ℕ) (reason : CertReason) (number : ℕ) : Type 0 where
  pub lines : List (List ℕ)
  pub phase : Phase
  pub line : List ℕ
  pub behind : List ℕ
  pub reaches : Reaches asked queries text lines phase (line ++ 10 ∷ behind)
  pub whole : IsTrue (lacks 10 line)
  pub refused : IsRefusedLine asked queries phase line reason
  pub number_is : number ≡ suc (length lines)

-- the text ends before its last line does
pub record IsCut (asked : Asked) (queries : Queries) (text : List ℕ) (number : ℕ) : Type 0 where
  pub lines : List (List ℕ)
  pub phase : Phase
  pub rest : List ℕ
  pub reaches : Reaches asked queries text lines phase rest
  pub inside : IsTrue (lacks 10 rest)
  pub more : is_end phase ≡ false
  pub number_is : number ≡ suc (length lines)

-- bytes follow the last line
pub record IsTooLong (asked : Asked) (queries : Queries) (text : List ℕ) (number : ℕ) : Type 0 where
  pub lines : List (List ℕ)
  pub rest : List ℕ
  pub reaches : Reaches asked queries text lines AtEnd rest
  pub some : 0 < length rest
  pub number_is : number ≡ suc (length lines)

-- the first refusal of a text: the reason, and the line
abbrev pub IsRefusal : Asked → Queries → List ℕ → CertReason → ℕ → Type 0
IsRefusal asked queries text BadHeader number = RefusesLine asked queries text BadHeader number
IsRefusal asked queries text BadLine number = RefusesLine asked queries text BadLine number
IsRefusal asked queries text WrongAssertion number = RefusesLine asked queries text WrongAssertion number
IsRefusal asked queries text LemmaFails number = RefusesLine asked queries text LemmaFails number
IsRefusal asked queries text NoEmptyClause number = RefusesLine asked queries text NoEmptyClause number
IsRefusal asked queries text EndsInside number = IsCut asked queries text number
IsRefusal asked queries text TrailingBytes number = IsTooLong asked queries text number
IsRefusal asked queries text TooManyLive number = RefusesLine asked queries text TooManyLive number
IsRefusal asked queries text BadDrop number = RefusesLine asked queries text BadDrop number
IsRefusal asked queries text BadClause number = RefusesLine asked queries text BadClause number

-- the answer to a text: no line is refused, or the first that is
abbrev pub IsAnswer : Asked → Queries → List ℕ → CertAnswer → Type 0
IsAnswer asked queries text Passed = IsPassed asked queries text
IsAnswer asked queries text (Refused reason number) = IsRefusal asked queries text reason number
