-- Worked examples of the definitions: texts of certificates, and what is answered to them.
use Rattle.std.specs.Prelude.{ℕ, pos, negsuc, true, List, [], ◌∷◌, ◌++◌, codes}
use Rattle.cert_theory.specs.declared.answer.CertAnswer.{CertAnswer}
use Rattle.cert_theory.specs.declared.answer.CertAnswer.TheVariants.{Passed, Refused}
use Rattle.cert_theory.specs.declared.answer.CertReason.TheVariants.{BadHeader, BadLine, WrongAssertion, LemmaFails, NoEmptyClause, EndsInside, TrailingBytes, TooManyLive, BadDrop, BadClause}
use Rattle.cert_theory.specs.declared.header.Asked.{Asked}
use Rattle.cert_theory.specs.Sections.{Queries, Query}
use Rattle.cert_theory.specs.Texts.{IsAnswer}

-- a formula asks that the variable 1 is true, and that it is false
abbrev pub contradiction : Query
contradiction = record {
  variables = 1;
  clauses = (pos 1 ∷ []) ∷ ((negsuc 0 ∷ []) ∷ []);
}

-- each formula does, and a state has three bits
abbrev pub contradictions : Queries
contradictions = record {
  base = λ visits window. contradiction;
  induction = λ visits window. contradiction;
  initial = λ visits clauses. contradiction;
  step = λ visits clauses. contradiction;
  bad = λ visits clauses. contradiction;
  width = λ visits. 3;
}

-- a directive of a number is asked for that claims something
abbrev pub assertion : ℕ → Asked
assertion number = record { number = number; has_claim = true }

-- the answer to a text, where the first directive is asked for
abbrev pub Answers : List ℕ → CertAnswer → Type 0
Answers text answer = IsAnswer (assertion 1) contradictions text answer

-- the header of the second version, up to the line `live`
abbrev pub begun : List ℕ
begun = codes "pslc-cert 2\nassertion 1\nvisits 0\nwindow 1\n"

-- the empty lemma follows from both clauses
abbrev pub Passes : Type 0
Passes = Answers (begun ++ codes "live 1\nbase\n0 1 2 0\ninduction\n0 1 2 0\nend\n") Passed

abbrev pub FirstVersionPasses : Type 0
FirstVersionPasses =
    Answers (codes "pslc-cert 1\nassertion 1\nvisits 0\nwindow 1\nbase\n0 1 2 0\ninduction\n0 1 2 0\nend\n") Passed

-- the header of the third version, and clauses
abbrev pub inductive : List ℕ
inductive = codes "pslc-cert 3\nassertion 1\nvisits 0\nlive 1\nclauses\n"

abbrev pub ThirdVersionPasses : Type 0
ThirdVersionPasses =
    Answers (inductive ++ codes "1 -3 0\n2 0\ninitial\n0 1 2 0\nstep\n0 1 2 0\nbad\n0 1 2 0\nend\n") Passed

-- there are three versions
abbrev pub FourthVersion : Type 0
FourthVersion = Answers (codes "pslc-cert 4\n") (Refused BadHeader 1)

-- the certificate is of another assertion
abbrev pub OfAnother : Type 0
OfAnother = IsAnswer (assertion 2) contradictions begun (Refused WrongAssertion 2)

-- a window of 0 is out of range
abbrev pub NoWindow : Type 0
NoWindow = Answers (codes "pslc-cert 2\nassertion 1\nvisits 0\nwindow 0\n") (Refused BadHeader 4)

-- the text ends behind line 5, and inside line 3
abbrev pub CutBehindLine : Type 0
CutBehindLine = Answers (begun ++ codes "live 1\n") (Refused EndsInside 6)

abbrev pub CutInsideLine : Type 0
CutInsideLine = Answers (codes "pslc-cert 2\nassertion 1\nvis") (Refused EndsInside 3)

-- a lemma without hints
abbrev pub NoHints : Type 0
NoHints = Answers (begun ++ codes "live 1\nbase\n0 0\ninduction\n") (Refused LemmaFails 7)

-- the empty lemma itself is live
abbrev pub NoneMayLive : Type 0
NoneMayLive = Answers (begun ++ codes "live 0\nbase\n0 1 2 0\n") (Refused TooManyLive 7)

-- a clause of the formula is no lemma
abbrev pub DropOfFormula : Type 0
DropOfFormula = Answers (begun ++ codes "live 1\nbase\nd 1\n0 1 2 0\n") (Refused BadDrop 7)

-- a section ends without the empty lemma
abbrev pub NothingShown : Type 0
NothingShown = Answers (begun ++ codes "live 1\nbase\ninduction\n") (Refused NoEmptyClause 7)

-- a lemma stands behind the empty one
abbrev pub LemmaBehindEmpty : Type 0
LemmaBehindEmpty = Answers (begun ++ codes "live 2\nbase\n0 1 2 0\n0 1 2 0\n") (Refused BadLine 8)

-- a line feed follows the last line
abbrev pub OneMoreByte : Type 0
OneMoreByte =
    Answers (begun ++ codes "live 1\nbase\n0 1 2 0\ninduction\n0 1 2 0\nend\n\n") (Refused TrailingBytes 11)

-- there is no state bit 4
abbrev pub NoStateBit : Type 0
NoStateBit = Answers (inductive ++ codes "4 0\ninitial\n") (Refused BadClause 6)

-- the 0 at the end of a clause is missing
abbrev pub NoClauseLine : Type 0
NoClauseLine = Answers (inductive ++ codes "1 2\ninitial\n") (Refused BadLine 6)

-- the section of the initial states ends without the empty lemma
abbrev pub NothingInitial : Type 0
NothingInitial = Answers (inductive ++ codes "initial\nstep\n") (Refused NoEmptyClause 7)
