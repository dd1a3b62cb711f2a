-- A text has one answer.
use Rattle.std.proofs.Common.{◌≡◌, ◌⊎◌, inl, inr, ◌∙◌, ap, sym, subst, ℕ, suc, ◌+◌, ◌<◌, false, not, eqb, List, [], ◌∷◌, ◌++◌, length, arith, refl, append_assoc}
use Rattle.std.specs.Bool.{IsTrue}
use Rattle.std.specs.List.{list_all}
use Rattle.std.proofs.lemmas.Bool.{and_parts, false≢true, true≢false}
use Rattle.std.proofs.lemmas.List.Folds.{list_all-append}
use Rattle.clause_text.specs.Lines.{lacks}
use Rattle.clause_text.proofs.Splitting.{split_once}
use Rattle.cert_theory.specs.declared.answer.CertAnswer.{CertAnswer}
use Rattle.cert_theory.specs.declared.answer.CertAnswer.TheVariants.{Passed, Refused}
use Rattle.cert_theory.specs.declared.answer.CertReason.{CertReason}
use Rattle.cert_theory.specs.declared.answer.CertReason.TheVariants.{BadHeader, BadLine, WrongAssertion, LemmaFails, NoEmptyClause, EndsInside, TrailingBytes, TooManyLive, BadDrop, BadClause}
use Rattle.cert_theory.specs.declared.header.Asked.{Asked}
use Rattle.cert_theory.specs.Lines.{lines_text}
use Rattle.cert_theory.specs.Phases.{Phase, Follows, IsRefusedLine}
use Rattle.cert_theory.specs.Phases.Phase.{AtVersion, AtEnd}
use Rattle.cert_theory.specs.Sections.{Queries}
use Rattle.cert_theory.specs.Texts.{FollowAll, IsAnswer, IsCut, IsTooLong, Reaches, RefusesLine, is_end}
use Rattle.cert_theory.proofs.Once.{follows_once, follows_refused, refused_once}

-- why a text that is left at a phase is refused
abbrev pub StopsAtLine : Asked → Queries → Phase → List ℕ → CertReason → Type 0
StopsAtLine asked queries phase rest reason =
    (line : List ℕ) × (behind : List ℕ) × (rest ≡ line ++ 10 ∷ behind) × IsTrue (lacks 10 line) × IsRefusedLine asked queries phase line reason

abbrev pub IsInside : Phase → List ℕ → CertReason → Type 0
IsInside phase rest reason = (reason ≡ EndsInside) × IsTrue (lacks 10 rest) × (is_end phase ≡ false)

abbrev pub IsBehind : Phase → List ℕ → CertReason → Type 0
IsBehind phase rest reason = (reason ≡ TrailingBytes) × (phase ≡ AtEnd) × (0 < length rest)

abbrev pub Stops : Asked → Queries → Phase → List ℕ → CertReason → Type 0
Stops asked queries phase rest reason = StopsAtLine asked queries phase rest reason ⊎ (IsInside phase rest reason ⊎ IsBehind phase rest reason)

-- what is answered to it, behind so many lines
abbrev pub Ends : Asked → Queries → Phase → List ℕ → ℕ → CertAnswer → Type 0
Ends asked queries phase rest count Passed = (phase ≡ AtEnd) × (rest ≡ [])
Ends asked queries phase rest count (Refused reason number) = (number ≡ suc count) × Stops asked queries phase rest reason

-- a text that goes on at a phase, up to its end
pub record GoesOn (asked : Asked) (queries : Queries) (from : Phase) (text : List ℕ) (count : ℕ) (answer : CertAnswer) (lines : List (List ℕ)) : Type 0 where
  pub phase : Phase
  pub rest : List ℕ
  pub is : text ≡ lines_text lines ++ rest
  pub whole : IsTrue (list_all (lacks 10) lines)
  pub follow : FollowAll asked queries from lines phase
  pub ends : Ends asked queries phase rest (count + length lines) answer

-- no line feed stands in a text that has one
pub feed_in : (line behind : List ℕ) → IsTrue (lacks 10 (line ++ 10 ∷ behind)) → ⊥
feed_in line behind none =
    let parts = and_parts (lacks 10 line) (lacks 10 (10 ∷ behind)) (sym (list_all-append (λ other. not (eqb other 10)) line (10 ∷ behind)) ∙ none) in
    false≢true parts.1

not_empty : (line behind : List ℕ) → line ++ 10 ∷ behind ≡ [] → ⊥
not_empty [] behind same = cc
not_empty (byte ∷ line) behind same = cc

pub same_line : (line behind other more : List ℕ) → IsTrue (lacks 10 line) → IsTrue (lacks 10 other) → line ++ 10 ∷ behind ≡ other ++ 10 ∷ more → (line ≡ other) × (behind ≡ more)
same_line line behind other more one two same =
    let parts = split_once 10 line (10 ∷ behind) other (10 ∷ more) one two refl refl same in
    let tails : behind ≡ more = (let end = parts.1 in cc) in
    (parts.0, tails)

at_end_false : (phase : Phase) → phase ≡ AtEnd → is_end phase ≡ false → ⊥
at_end_false phase is more = true≢false (sym (ap is_end is) ∙ more)

none_at_end : (asked : Asked) (queries : Queries) (phase : Phase) (line : List ℕ) (reason : CertReason) → phase ≡ AtEnd → IsRefusedLine asked queries phase line reason → ⊥
none_at_end asked queries phase line reason is refused =
    at_end asked queries line reason (subst (λ (p : Phase). IsRefusedLine asked queries p line reason) is refused)
  where
    at_end : (asked : Asked) (queries : Queries) (line : List ℕ) (reason : CertReason) → IsRefusedLine asked queries AtEnd line reason → ⊥
    at_end asked queries line BadHeader refused = refused
    at_end asked queries line reason refused = refused

none_follows : (asked : Asked) (queries : Queries) (phase next : Phase) (line : List ℕ) → phase ≡ AtEnd → Follows asked queries phase line next → ⊥
none_follows asked queries phase next line is follows = subst (λ (p : Phase). Follows asked queries p line next) is follows

-- one reason
stops_once : (asked : Asked) (queries : Queries) (phase : Phase) (rest : List ℕ) (reason other : CertReason) → Stops asked queries phase rest reason
    → Stops asked queries phase rest other → reason ≡ other
stops_once asked queries phase rest reason other (inl one) (inl two) =
    let same = (same_line one.0 one.1 two.0 two.1 one.3 two.3 (sym one.2 ∙ two.2)).0 in
    refused_once asked queries phase two.0 reason other (subst (λ (line : List ℕ). IsRefusedLine asked queries phase line reason) same one.4) two.4
stops_once asked queries phase rest reason other (inl one) (inr (inl two)) = absurd (feed_in one.0 one.1 (subst (λ (text : List ℕ). IsTrue (lacks 10 text)) one.2 two.1))
stops_once asked queries phase rest reason other (inl one) (inr (inr two)) = absurd (none_at_end asked queries phase one.0 reason two.1 one.4)
stops_once asked queries phase rest reason other (inr (inl one)) (inl two) = absurd (feed_in two.0 two.1 (subst (λ (text : List ℕ). IsTrue (lacks 10 text)) two.2 one.1))
stops_once asked queries phase rest reason other (inr (inl one)) (inr (inl two)) = one.0 ∙ sym two.0
stops_once asked queries phase rest reason other (inr (inl one)) (inr (inr two)) = absurd (at_end_false phase two.1 one.2)
stops_once asked queries phase rest reason other (inr (inr one)) (inl two) = absurd (none_at_end asked queries phase two.0 other one.1 two.4)
stops_once asked queries phase rest reason other (inr (inr one)) (inr (inl two)) = absurd (at_end_false phase one.1 two.2)
stops_once asked queries phase rest reason other (inr (inr one)) (inr (inr two)) = one.0 ∙ sym two.0

-- nothing is left of a text that is passed
passed_stops : (asked : Asked) (queries : Queries) (phase : Phase) (rest : List ℕ) (reason : CertReason) → phase ≡ AtEnd → rest ≡ [] → Stops asked queries phase rest reason → ⊥
passed_stops asked queries phase rest reason is none (inl stops) = not_empty stops.0 stops.1 (sym stops.2 ∙ none)
passed_stops asked queries phase rest reason is none (inr (inl stops)) = at_end_false phase is stops.2
passed_stops asked queries phase rest reason is none (inr (inr stops)) = omega (arith, stops.2, ap (λ (text : List ℕ). length text) none)

ends_once : (asked : Asked) (queries : Queries) (phase : Phase) (rest : List ℕ) (count : ℕ) (answer other : CertAnswer) → Ends asked queries phase rest count answer
    → Ends asked queries phase rest count other → answer ≡ other
ends_once asked queries phase rest count Passed Passed one two = refl
ends_once asked queries phase rest count Passed (Refused reason number) one two = absurd (passed_stops asked queries phase rest reason one.0 one.1 two.1)
ends_once asked queries phase rest count (Refused reason number) Passed one two = absurd (passed_stops asked queries phase rest reason two.0 two.1 one.1)
ends_once asked queries phase rest count (Refused reason number) (Refused other more) one two =
    ap (λ r. Refused r number) (stops_once asked queries phase rest reason other one.1 two.1) ∙ ap (Refused other) (one.0 ∙ sym two.0)

-- where a text ends, no line follows
no_further : (asked : Asked) (queries : Queries) (phase next : Phase) (rest line behind : List ℕ) (count : ℕ) (answer : CertAnswer) → Ends asked queries phase rest count answer
    → rest ≡ line ++ 10 ∷ behind → IsTrue (lacks 10 line) → Follows asked queries phase line next → ⊥
no_further asked queries phase next rest line behind count Passed ends is whole follows = none_follows asked queries phase next line ends.0 follows
no_further asked queries phase next rest line behind count (Refused reason number) ends is whole follows = by_stops ends.1
  where
    by_stops : Stops asked queries phase rest reason → ⊥
    by_stops (inl stops) =
        let same = (same_line stops.0 stops.1 line behind stops.3 whole (sym stops.2 ∙ is)).0 in
        follows_refused asked queries phase line next follows reason (subst (λ (l : List ℕ). IsRefusedLine asked queries phase l reason) same stops.4)
    by_stops (inr (inl stops)) = feed_in line behind (subst (λ (text : List ℕ). IsTrue (lacks 10 text)) is stops.1)
    by_stops (inr (inr stops)) = none_follows asked queries phase next line stops.1 follows

-- the line behind which a text goes on
further : (asked : Asked) (queries : Queries) (from : Phase) (text : List ℕ) (count : ℕ) (answer : CertAnswer) (line : List ℕ) (lines : List (List ℕ))
    → (goes : GoesOn asked queries from text count answer (line ∷ lines)) → (behind : List ℕ) → behind ≡ lines_text lines ++ goes.rest
    → GoesOn asked queries goes.follow.0 behind (suc count) answer lines
further asked queries from text count answer line lines goes behind is = record {
  phase = goes.phase;
  rest = goes.rest;
  is = is;
  whole = (and_parts (lacks 10 line) (list_all (lacks 10) lines) goes.whole).1;
  follow = goes.follow.2;
  ends = subst (λ (n : ℕ). Ends asked queries goes.phase goes.rest n answer) (omega arith) goes.ends;
}

pub first_line : (text line rest : List ℕ) (lines : List (List ℕ)) → text ≡ lines_text (line ∷ lines) ++ rest → text ≡ line ++ 10 ∷ (lines_text lines ++ rest)
first_line text line rest lines is = is ∙ append_assoc line (10 ∷ lines_text lines) rest

here : (asked : Asked) (queries : Queries) (from : Phase) (text : List ℕ) (count : ℕ) (answer : CertAnswer) → GoesOn asked queries from text count answer []
    → Ends asked queries from text count answer
here asked queries from text count answer goes =
    subst (λ (n : ℕ). Ends asked queries from text n answer) (omega arith)
    (subst (λ (t : List ℕ). Ends asked queries from t (count + 0) answer) (sym goes.is)
    (subst (λ (p : Phase). Ends asked queries p goes.rest (count + 0) answer) (sym goes.follow) goes.ends))

both : (asked : Asked) (queries : Queries) (lines others : List (List ℕ)) (from : Phase) (text : List ℕ) (count : ℕ) (answer other : CertAnswer)
    → GoesOn asked queries from text count answer lines → GoesOn asked queries from text count other others → answer ≡ other
both asked queries [] [] from text count answer other one two =
    ends_once asked queries from text count answer other (here asked queries from text count answer one) (here asked queries from text count other two)
both asked queries [] (line ∷ others) from text count answer other one two =
    absurd (no_further asked queries from two.follow.0 text line (lines_text others ++ two.rest) count answer (here asked queries from text count answer one)
    (first_line text line two.rest others two.is) (and_parts (lacks 10 line) (list_all (lacks 10) others) two.whole).0 two.follow.1)
both asked queries (line ∷ lines) [] from text count answer other one two =
    absurd (no_further asked queries from one.follow.0 text line (lines_text lines ++ one.rest) count other (here asked queries from text count other two)
    (first_line text line one.rest lines one.is) (and_parts (lacks 10 line) (list_all (lacks 10) lines) one.whole).0 one.follow.1)
both asked queries (line ∷ lines) (next ∷ others) from text count answer other one two =
    let first = first_line text line one.rest lines one.is in
    let second = first_line text next two.rest others two.is in
    let same = same_line line (lines_text lines ++ one.rest) next (lines_text others ++ two.rest)
    (and_parts (lacks 10 line) (list_all (lacks 10) lines) one.whole).0 (and_parts (lacks 10 next) (list_all (lacks 10) others) two.whole).0 (sym first ∙ second) in
    let phase = follows_once asked queries from next one.follow.0 two.follow.0
    (subst (λ (l : List ℕ). Follows asked queries from l one.follow.0) same.0 one.follow.1) two.follow.1 in
    both asked queries lines others two.follow.0 (lines_text lines ++ one.rest) (suc count) answer other
    (subst (λ (p : Phase). GoesOn asked queries p (lines_text lines ++ one.rest) (suc count) answer lines) phase
    (further asked queries from text count answer line lines one (lines_text lines ++ one.rest) refl))
    (further asked queries from text count other next others two (lines_text lines ++ one.rest) same.1)

-- the answer to a text, as its end
record Answered (asked : Asked) (queries : Queries) (text : List ℕ) (answer : CertAnswer) : Type 0 where
  lines : List (List ℕ)
  goes : GoesOn asked queries AtVersion text 0 answer lines

ended : (asked : Asked) (queries : Queries) (text : List ℕ) (lines : List (List ℕ)) (phase : Phase) (rest : List ℕ) (answer : CertAnswer)
    → Reaches asked queries text lines phase rest → Ends asked queries phase rest (length lines) answer → Answered asked queries text answer
ended asked queries text lines phase rest answer reaches ends = record {
  lines = lines;
  goes = record {
    phase = phase;
    rest = rest;
    is = reaches.is;
    whole = reaches.whole;
    follow = reaches.follow;
    ends = subst (λ (n : ℕ). Ends asked queries phase rest n answer) (omega arith) ends;
  };
}

refuses : (asked : Asked) (queries : Queries) (text : List ℕ) (reason : CertReason) (number : ℕ) → RefusesLine asked queries text reason number
    → Answered asked queries text (Refused reason number)
refuses asked queries text reason number is =
    ended asked queries text is.lines is.phase (is.line ++ 10 ∷ is.behind) (Refused reason number) is.reaches
    (is.number_is, inl (is.line, is.behind, refl, is.whole, is.refused))

cut : (asked : Asked) (queries : Queries) (text : List ℕ) (number : ℕ) → IsCut asked queries text number → Answered asked queries text (Refused EndsInside number)
cut asked queries text number is =
    ended asked queries text is.lines is.phase is.rest (Refused EndsInside number) is.reaches (is.number_is, inr (inl (refl, is.inside, is.more)))

long : (asked : Asked) (queries : Queries) (text : List ℕ) (number : ℕ) → IsTooLong asked queries text number → Answered asked queries text (Refused TrailingBytes number)
long asked queries text number is =
    ended asked queries text is.lines AtEnd is.rest (Refused TrailingBytes number) is.reaches (is.number_is, inr (inr (refl, refl, is.some)))

answered : (asked : Asked) (queries : Queries) (text : List ℕ) (answer : CertAnswer) → IsAnswer asked queries text answer → Answered asked queries text answer
answered asked queries text Passed is = ended asked queries text is.0 AtEnd [] Passed is.1 (refl, refl)
answered asked queries text (Refused BadHeader number) is = refuses asked queries text BadHeader number is
answered asked queries text (Refused BadLine number) is = refuses asked queries text BadLine number is
answered asked queries text (Refused WrongAssertion number) is = refuses asked queries text WrongAssertion number is
answered asked queries text (Refused LemmaFails number) is = refuses asked queries text LemmaFails number is
answered asked queries text (Refused NoEmptyClause number) is = refuses asked queries text NoEmptyClause number is
answered asked queries text (Refused EndsInside number) is = cut asked queries text number is
answered asked queries text (Refused TrailingBytes number) is = long asked queries text number is
answered asked queries text (Refused TooManyLive number) is = refuses asked queries text TooManyLive number is
answered asked queries text (Refused BadDrop number) is = refuses asked queries text BadDrop number is
answered asked queries text (Refused BadClause number) is = refuses asked queries text BadClause number is

pub one_answer : (asked : Asked) (queries : Queries) (text : List ℕ) (answer other : CertAnswer) → IsAnswer asked queries text answer → IsAnswer asked queries text other → answer ≡ other
one_answer asked queries text answer other one two =
    let first = answered asked queries text answer one in
    let second = answered asked queries text other two in
    both asked queries first.lines second.lines AtVersion text 0 answer other first.goes second.goes
