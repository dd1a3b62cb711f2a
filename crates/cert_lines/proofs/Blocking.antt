-- Where a line of the header is refused, the text has no header; where one among the clauses is, it has no clauses.
use Rattle.std.proofs.Common.{◌≡◌, inl, inr, ◌∙◌, ap, sym, subst, ℕ, ℤ, Bool, true, false, List, [], ◌∷◌, ◌++◌, refl}
use Rattle.std.specs.Bool.{IsTrue}
use Rattle.std.specs.List.{list_all}
use Rattle.std.proofs.lemmas.Bool.{and_parts, true≢false}
use Rattle.clause_text.specs.Lines.{lacks}
use Rattle.cert_theory.specs.declared.answer.CertReason.{CertReason}
use Rattle.cert_theory.specs.declared.header.Asked.{Asked}
use Rattle.cert_theory.specs.declared.header.Header.{Header}
use Rattle.cert_theory.specs.declared.header.Form.{Form}
use Rattle.cert_theory.specs.declared.header.Form.TheVariants.{Windowed, Clausal}
use Rattle.cert_theory.specs.declared.header.Section.{Section}
use Rattle.cert_theory.specs.declared.header.Section.TheVariants.{Base, Induction, Initial, Step, Bad}
use Rattle.cert_theory.specs.Headers.{HasHeader}
use Rattle.cert_theory.specs.Lines.{header_lines, lines_text}
use Rattle.cert_theory.specs.Phases.{Phase, Follows, IsRefusedLine, behind_form, behind_header, behind_section}
use Rattle.cert_theory.specs.Phases.Phase.{AtVersion, AtAssertion, AtVisits, AtWindow, AtLive, AtLast, InClauses, InSection, AtEnd}
use Rattle.cert_theory.specs.Sections.{Queries}
use Rattle.cert_theory.specs.Texts.{FollowAll, HasClauses}
use Rattle.cert_theory.proofs.HeaderLines.{header_reaches}
use Rattle.cert_theory.proofs.Once.{follows_once, follows_refused}
use Rattle.cert_theory.proofs.OneAnswer.{feed_in, first_line, same_line}
use Rattle.cert_lines.specs.declared.reading.Reading.{Reading}
use Rattle.cert_lines.specs.declared.reading.Refusal.{Refusal}
use Rattle.cert_lines.specs.Readings.{IsAt, IsRefusedBy}

-- a line of the header comes next
abbrev pub is_head : Phase → Bool
is_head AtVersion = true
is_head (AtAssertion form) = true
is_head (AtVisits form) = true
is_head (AtWindow form visits) = true
is_head (AtLive form visits window) = true
is_head (AtLast header) = true
is_head (InClauses header clauses) = false
is_head (InSection header clauses section entries) = false
is_head AtEnd = false

-- behind the header none comes any more
section_behind : (header : Header) (clauses : List (List ℤ)) (section : Section) → is_head (behind_section header clauses section) ≡ false
section_behind header clauses Base = refl
section_behind header clauses Induction = refl
section_behind header clauses Initial = refl
section_behind header clauses Step = refl
section_behind header clauses Bad = refl

form_behind : (form : Form) (header : Header) → is_head (behind_form form header) ≡ false
form_behind (Windowed version) header = refl
form_behind Clausal header = refl

next_behind : (asked : Asked) (queries : Queries) (phase next : Phase) (line : List ℕ) → is_head phase ≡ false → Follows asked queries phase line next → is_head next ≡ false
next_behind asked queries AtVersion next line behind follows = absurd (true≢false behind)
next_behind asked queries (AtAssertion form) next line behind follows = absurd (true≢false behind)
next_behind asked queries (AtVisits form) next line behind follows = absurd (true≢false behind)
next_behind asked queries (AtWindow form visits) next line behind follows = absurd (true≢false behind)
next_behind asked queries (AtLive form visits window) next line behind follows = absurd (true≢false behind)
next_behind asked queries (AtLast header) next line behind follows = absurd (true≢false behind)
next_behind asked queries (InClauses header clauses) next line behind (inl follows) = ap is_head follows.3
next_behind asked queries (InClauses header clauses) next line behind (inr follows) = ap is_head follows.1
next_behind asked queries (InSection header clauses section entries) next line behind (inl follows) = ap is_head follows.3
next_behind asked queries (InSection header clauses section entries) next line behind (inr follows) = ap is_head follows.2 ∙ section_behind header clauses section
next_behind asked queries AtEnd next line behind follows = absurd follows

stays_behind : (asked : Asked) (queries : Queries) (lines : List (List ℕ)) (from to : Phase) → is_head from ≡ false → FollowAll asked queries from lines to → is_head to ≡ false
stays_behind asked queries [] from to behind follow = ap is_head (sym follow) ∙ behind
stays_behind asked queries (line ∷ lines) from to behind follow =
    stays_behind asked queries lines follow.0 to (next_behind asked queries from follow.0 line behind follow.1) follow.2

-- no line of what is left leads on
abbrev pub IsBlocked : Asked → Queries → Phase → List ℕ → Type 0
IsBlocked asked queries phase rest =
    (line : List ℕ) (behind : List ℕ) (next : Phase) → rest ≡ line ++ 10 ∷ behind → IsTrue (lacks 10 line) → Follows asked queries phase line next → ⊥

pub blocked_by : (asked : Asked) (queries : Queries) (phase : Phase) (rule : List ℕ → CertReason → Type 0) (reading : Reading) (refusal : Refusal)
    → ((line : List ℕ) (reason : CertReason) → rule line reason → IsRefusedLine asked queries phase line reason) → IsRefusedBy rule reading refusal
    → IsBlocked asked queries phase reading.rest.now
blocked_by asked queries phase rule reading refusal of (inl cut) = λ line behind next is whole follows.
    feed_in line behind (subst (λ (text : List ℕ). IsTrue (lacks 10 text)) is cut.inside)
blocked_by asked queries phase rule reading refusal of (inr refused) = λ line behind next is whole follows.
    let same = (same_line refused.line refused.behind line behind refused.whole whole (sym refused.is ∙ is)).0 in
    follows_refused asked queries phase line next follows refusal.reason
    (subst (λ (l : List ℕ). IsRefusedLine asked queries phase l refusal.reason) same (of refused.line refusal.reason refused.refused))

-- a kind of phases is in front of all others
abbrev pub AreInFront : Asked → Queries → (Phase → Bool) → Type 0
AreInFront asked queries front =
    (lines : List (List ℕ)) (from to : Phase) → front from ≡ false → FollowAll asked queries from lines to → front to ≡ false

-- two ways into a text, of which one is blocked in front and the other goes on behind
meets : (asked : Asked) (queries : Queries) (front : Phase → Bool) → AreInFront asked queries front → (lines others : List (List ℕ)) (from phase end : Phase) (text rest tail : List ℕ)
    → text ≡ lines_text lines ++ rest → text ≡ lines_text others ++ tail → IsTrue (list_all (lacks 10) lines) → IsTrue (list_all (lacks 10) others)
    → FollowAll asked queries from lines phase → FollowAll asked queries from others end → IsBlocked asked queries phase rest → front phase ≡ true → front end ≡ false → ⊥
meets asked queries front stays [] [] from phase end text rest tail one two whole also first second blocked head behind =
    true≢false (sym head ∙ ap front (sym first ∙ second) ∙ behind)
meets asked queries front stays [] (other ∷ others) from phase end text rest tail one two whole also first second blocked head behind =
    blocked other (lines_text others ++ tail) second.0 (sym one ∙ first_line text other tail others two) (and_parts (lacks 10 other) (list_all (lacks 10) others) also).0
    (subst (λ (p : Phase). Follows asked queries p other second.0) first second.1)
meets asked queries front stays (line ∷ lines) [] from phase end text rest tail one two whole also first second blocked head behind =
    true≢false (sym head ∙ stays (line ∷ lines) from phase (ap front second ∙ behind) first)
meets asked queries front stays (line ∷ lines) (other ∷ others) from phase end text rest tail one two whole also first second blocked head behind =
    let here = and_parts (lacks 10 line) (list_all (lacks 10) lines) whole in
    let there = and_parts (lacks 10 other) (list_all (lacks 10) others) also in
    let same = same_line line (lines_text lines ++ rest) other (lines_text others ++ tail) here.0 there.0
    (sym (first_line text line rest lines one) ∙ first_line text other tail others two) in
    let next = follows_once asked queries from other first.0 second.0 (subst (λ (l : List ℕ). Follows asked queries from l first.0) same.0 first.1) second.1 in
    meets asked queries front stays lines others first.0 phase end (lines_text lines ++ rest) rest tail refl same.1 here.1 there.1 first.2
    (subst (λ (p : Phase). FollowAll asked queries p others end) (sym next) second.2) blocked head behind

pub no_header : (asked : Asked) (queries : Queries) (text : List ℕ) (phase : Phase) (reading : Reading) → IsAt asked queries text phase reading
    → is_head phase ≡ true → IsBlocked asked queries phase reading.rest.now → (header : Header) → HasHeader asked text header → ⊥
no_header asked queries text phase reading at head blocked header has =
    let reaches = header_reaches asked queries text header has in
    meets asked queries is_head (stays_behind asked queries) at.lines (header_lines asked.number header) AtVersion phase (behind_header header) text reading.rest.now has.rest
    at.reaches.is reaches.is at.reaches.whole reaches.whole at.reaches.follow reaches.follow blocked head (form_behind header.form header)

-- a line of the header or of a clause comes next
is_front : Phase → Bool
is_front AtVersion = true
is_front (AtAssertion form) = true
is_front (AtVisits form) = true
is_front (AtWindow form visits) = true
is_front (AtLive form visits window) = true
is_front (AtLast header) = true
is_front (InClauses header clauses) = true
is_front (InSection header clauses section entries) = false
is_front AtEnd = false

-- behind these none comes any more
section_past : (header : Header) (clauses : List (List ℤ)) (section : Section) → is_front (behind_section header clauses section) ≡ false
unfolding is_front
section_past header clauses Base = refl
section_past header clauses Induction = refl
section_past header clauses Initial = refl
section_past header clauses Step = refl
section_past header clauses Bad = refl

next_past : (asked : Asked) (queries : Queries) (phase next : Phase) (line : List ℕ) → is_front phase ≡ false → Follows asked queries phase line next → is_front next ≡ false
unfolding is_front
next_past asked queries AtVersion next line past follows = absurd (true≢false past)
next_past asked queries (AtAssertion form) next line past follows = absurd (true≢false past)
next_past asked queries (AtVisits form) next line past follows = absurd (true≢false past)
next_past asked queries (AtWindow form visits) next line past follows = absurd (true≢false past)
next_past asked queries (AtLive form visits window) next line past follows = absurd (true≢false past)
next_past asked queries (AtLast header) next line past follows = absurd (true≢false past)
next_past asked queries (InClauses header clauses) next line past follows = absurd (true≢false past)
next_past asked queries (InSection header clauses section entries) next line past (inl follows) = ap is_front follows.3
next_past asked queries (InSection header clauses section entries) next line past (inr follows) = ap is_front follows.2 ∙ section_past header clauses section
next_past asked queries AtEnd next line past follows = absurd follows

stays_past : (asked : Asked) (queries : Queries) (lines : List (List ℕ)) (from to : Phase) → is_front from ≡ false → FollowAll asked queries from lines to → is_front to ≡ false
stays_past asked queries [] from to past follow = ap is_front (sym follow) ∙ past
stays_past asked queries (line ∷ lines) from to past follow =
    stays_past asked queries lines follow.0 to (next_past asked queries from follow.0 line past follow.1) follow.2

pub no_clauses : (asked : Asked) (queries : Queries) (text : List ℕ) (header other : Header) (clauses others : List (List ℤ)) (reading : Reading)
    → IsAt asked queries text (InClauses header clauses) reading → IsBlocked asked queries (InClauses header clauses) reading.rest.now
    → HasClauses asked queries text other others → ⊥
unfolding is_front
no_clauses asked queries text header other clauses others reading at blocked has =
    meets asked queries is_front (stays_past asked queries) at.lines has.lines AtVersion (InClauses header clauses) (InSection other others Initial []) text reading.rest.now has.rest
    at.reaches.is has.reaches.is at.reaches.whole has.reaches.whole at.reaches.follow has.reaches.follow blocked refl refl
