-- A text has one header and one list of clauses behind it.
use Rattle.std.proofs.Common.{◌≡◌, inl, inr, ◌∙◌, ap, sym, subst, ℕ, ℤ, Bool, true, false, List, [], ◌∷◌, ◌++◌, refl}
use Rattle.std.specs.Bool.{IsTrue}
use Rattle.std.specs.List.{list_all}
use Rattle.std.proofs.lemmas.Bool.{and_parts, false≢true}
use Rattle.clauses.specs.Logs.{LogEntry}
use Rattle.clause_text.specs.Lines.{lacks}
use Rattle.cert_theory.specs.declared.header.Asked.{Asked}
use Rattle.cert_theory.specs.declared.header.Header.{Header}
use Rattle.cert_theory.specs.declared.header.Section.{Section}
use Rattle.cert_theory.specs.declared.header.Section.TheVariants.{Base, Induction, Initial, Step, Bad}
use Rattle.cert_theory.specs.Lines.{lines_text}
use Rattle.cert_theory.specs.Phases.{Phase, Follows, behind_section}
use Rattle.cert_theory.specs.Phases.Phase.{AtVersion, AtAssertion, AtVisits, AtWindow, AtLive, AtLast, InClauses, InSection, AtEnd}
use Rattle.cert_theory.specs.Sections.{Queries}
use Rattle.cert_theory.specs.Texts.{FollowAll, HasClauses}
use Rattle.cert_theory.proofs.Once.{follows_once}
use Rattle.cert_theory.proofs.OneAnswer.{first_line, same_line}

-- a line behind the word that ends the clauses was read
in_later : Section → List LogEntry → Bool
in_later Base entries = true
in_later Induction entries = true
in_later Initial [] = false
in_later Initial (entry ∷ entries) = true
in_later Step entries = true
in_later Bad entries = true

is_later : Phase → Bool
is_later AtVersion = false
is_later (AtAssertion form) = false
is_later (AtVisits form) = false
is_later (AtWindow form visits) = false
is_later (AtLive form visits window) = false
is_later (AtLast header) = false
is_later (InClauses header clauses) = false
is_later (InSection header clauses section entries) = in_later section entries
is_later AtEnd = true

entry_later : (section : Section) (entries : List LogEntry) (entry : LogEntry) → in_later section (entries ++ entry ∷ []) ≡ true
unfolding in_later
entry_later Base entries entry = refl
entry_later Induction entries entry = refl
entry_later Initial [] entry = refl
entry_later Initial (first ∷ entries) entry = refl
entry_later Step entries entry = refl
entry_later Bad entries entry = refl

section_later : (header : Header) (clauses : List (List ℤ)) (section : Section) → is_later (behind_section header clauses section) ≡ true
unfolding is_later in_later
section_later header clauses Base = refl
section_later header clauses Induction = refl
section_later header clauses Initial = refl
section_later header clauses Step = refl
section_later header clauses Bad = refl

-- so it is behind each line of a section, and from there on
inside_later : (asked : Asked) (queries : Queries) (header : Header) (clauses : List (List ℤ)) (section : Section) (entries : List LogEntry) (next : Phase) (line : List ℕ)
    → Follows asked queries (InSection header clauses section entries) line next → is_later next ≡ true
unfolding is_later
inside_later asked queries header clauses section entries next line (inl follows) = ap is_later follows.3 ∙ entry_later section entries follows.0
inside_later asked queries header clauses section entries next line (inr follows) = ap is_later follows.2 ∙ section_later header clauses section

next_later : (asked : Asked) (queries : Queries) (phase next : Phase) (line : List ℕ) → is_later phase ≡ true → Follows asked queries phase line next → is_later next ≡ true
unfolding is_later
next_later asked queries AtVersion next line later follows = absurd (false≢true later)
next_later asked queries (AtAssertion form) next line later follows = absurd (false≢true later)
next_later asked queries (AtVisits form) next line later follows = absurd (false≢true later)
next_later asked queries (AtWindow form visits) next line later follows = absurd (false≢true later)
next_later asked queries (AtLive form visits window) next line later follows = absurd (false≢true later)
next_later asked queries (AtLast header) next line later follows = absurd (false≢true later)
next_later asked queries (InClauses header clauses) next line later follows = absurd (false≢true later)
next_later asked queries (InSection header clauses section entries) next line later follows =
    inside_later asked queries header clauses section entries next line follows
next_later asked queries AtEnd next line later follows = absurd follows

stays_later : (asked : Asked) (queries : Queries) (lines : List (List ℕ)) (from to : Phase) → is_later from ≡ true → FollowAll asked queries from lines to → is_later to ≡ true
stays_later asked queries [] from to later follow = ap is_later (sym follow) ∙ later
stays_later asked queries (line ∷ lines) from to later follow =
    stays_later asked queries lines follow.0 to (next_later asked queries from follow.0 line later follow.1) follow.2

-- where the clauses end no more lines lead to an end of clauses
at_word : Header → List (List ℤ) → Phase
at_word header clauses = InSection header clauses Initial []

none_further : (asked : Asked) (queries : Queries) (lines : List (List ℕ)) (line : List ℕ) (from : Phase) (header other : Header) (clauses others : List (List ℤ))
    → from ≡ at_word header clauses → FollowAll asked queries from (line ∷ lines) (at_word other others) → ⊥
unfolding at_word is_later in_later
none_further asked queries lines line from header other clauses others is follow =
    let here : Follows asked queries (InSection header clauses Initial []) line follow.0 = subst (λ (p : Phase). Follows asked queries p line follow.0) is follow.1 in
    false≢true (stays_later asked queries lines follow.0 (InSection other others Initial []) (inside_later asked queries header clauses Initial [] follow.0 line here) follow.2)

meets : (asked : Asked) (queries : Queries) (lines more : List (List ℕ)) (from : Phase) (header other : Header) (clauses others : List (List ℤ)) (text rest tail : List ℕ)
    → text ≡ lines_text lines ++ rest → text ≡ lines_text more ++ tail → IsTrue (list_all (lacks 10) lines) → IsTrue (list_all (lacks 10) more)
    → FollowAll asked queries from lines (at_word header clauses) → FollowAll asked queries from more (at_word other others) → at_word header clauses ≡ at_word other others
meets asked queries [] [] from header other clauses others text rest tail one two whole also first second = sym first ∙ second
meets asked queries [] (line ∷ more) from header other clauses others text rest tail one two whole also first second =
    absurd (none_further asked queries more line from header other clauses others first second)
meets asked queries (line ∷ lines) [] from header other clauses others text rest tail one two whole also first second =
    absurd (none_further asked queries lines line from other header others clauses second first)
meets asked queries (line ∷ lines) (next ∷ more) from header other clauses others text rest tail one two whole also first second =
    let here = and_parts (lacks 10 line) (list_all (lacks 10) lines) whole in
    let there = and_parts (lacks 10 next) (list_all (lacks 10) more) also in
    let same = same_line line (lines_text lines ++ rest) next (lines_text more ++ tail) here.0 there.0
    (sym (first_line text line rest lines one) ∙ first_line text next tail more two) in
    let phase = follows_once asked queries from next first.0 second.0 (subst (λ (l : List ℕ). Follows asked queries from l first.0) same.0 first.1) second.1 in
    meets asked queries lines more first.0 header other clauses others (lines_text lines ++ rest) rest tail refl same.1 here.1 there.1 first.2
    (subst (λ (p : Phase). FollowAll asked queries p more (at_word other others)) (sym phase) second.2)

same_clauses : (header other : Header) (clauses others : List (List ℤ)) → at_word header clauses ≡ at_word other others → clauses ≡ others
unfolding at_word
same_clauses header other clauses others same = cc

pub one_clauses : (asked : Asked) (queries : Queries) (text : List ℕ) (header other : Header) (clauses others : List (List ℤ)) → HasClauses asked queries text header clauses
    → HasClauses asked queries text other others → clauses ≡ others
unfolding at_word
one_clauses asked queries text header other clauses others one two =
    same_clauses header other clauses others
    (meets asked queries one.lines two.lines AtVersion header other clauses others text one.rest two.rest one.reaches.is two.reaches.is one.reaches.whole two.reaches.whole
    one.reaches.follow two.reaches.follow)
