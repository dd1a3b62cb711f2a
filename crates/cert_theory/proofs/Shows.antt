-- What the text of a certificate shows that is passed: its header, and the formulas that are refuted.
use Rattle.std.proofs.Common.{◌≡◌, inl, inr, ◌∙◌, ap, sym, subst, ℕ, ℤ, true, List, [], ◌∷◌, ◌++◌, arith, refl, append_assoc}
use Rattle.std.specs.Bool.{IsTrue}
use Rattle.std.specs.List.{list_all}
use Rattle.std.proofs.lemmas.Bool.{and_parts}
use Rattle.std.proofs.lemmas.List.Folds.{list_all-append}
use Rattle.clauses.specs.Logs.{LogEntry}
use Rattle.clauses.specs.declared.flat.TheConstants.{MOST_VARIABLES}
use Rattle.clause_text.specs.Lines.{lacks}
use Rattle.cert_theory.specs.declared.header.Asked.{Asked}
use Rattle.cert_theory.specs.declared.header.Field.TheVariants.{Assertion, Visits, Window, Live}
use Rattle.cert_theory.specs.declared.header.Form.{Form}
use Rattle.cert_theory.specs.declared.header.Form.TheVariants.{Windowed, Clausal}
use Rattle.cert_theory.specs.declared.header.Header.{Header}
use Rattle.cert_theory.specs.declared.header.Section.{Section}
use Rattle.cert_theory.specs.declared.header.Section.TheVariants.{Base, Induction, Initial, Step, Bad}
use Rattle.cert_theory.specs.declared.header.Version.TheVariants.{One, Two}
use Rattle.cert_theory.specs.Headers.{IsHeader, MayBe}
use Rattle.cert_theory.specs.Lines.{field_line, form_line, header_lines, last_line, lines_text}
use Rattle.cert_theory.specs.Phases.{Phase, behind_form, behind_header, behind_section, behind_visits}
use Rattle.cert_theory.specs.Phases.Phase.{AtVersion, AtAssertion, AtVisits, AtLive, AtLast, InClauses, InSection, AtEnd}
use Rattle.cert_theory.specs.Sections.{Queries, query_at}
use Rattle.cert_theory.specs.Shown.{IsClosed, IsInduced, IsRefuted, IsShown, IsShownBy}
use Rattle.cert_theory.specs.Texts.{FollowAll, HasClauses, IsPassed}
use Rattle.cert_theory.proofs.HeaderLines.{end_lines, header_follows}
use Rattle.cert_theory.proofs.Passed.{AreWithin, Progress, none_within, nothing, one_within, refuted, taken}

-- ---- lines behind lines

text-append : (first second : List (List ℕ)) → lines_text (first ++ second) ≡ lines_text first ++ lines_text second
text-append [] second = refl
text-append (line ∷ lines) second =
    ap (λ (rest : List ℕ). line ++ 10 ∷ rest) (text-append lines second) ∙ sym (append_assoc line (10 ∷ lines_text lines) (lines_text second))

module _ (asked : Asked) (queries : Queries) where
  follow-append : (first second : List (List ℕ)) (from mid to : Phase) → FollowAll asked queries from first mid → FollowAll asked queries mid second to
      → FollowAll asked queries from (first ++ second) to
  follow-append [] second from mid to one two = subst (λ (p : Phase). FollowAll asked queries p second to) (sym one) two
  follow-append (line ∷ lines) second from mid to one two = (one.0, one.1, follow-append lines second one.0 mid to one.2 two)

  -- ---- sections

  -- the formula of a section is refuted, and the lines behind it lead to the end
  record IsEnded (header : Header) (clauses : List (List ℤ)) (section : Section) : Type 0 where
    refutes : IsRefuted (query_at queries header clauses section)
    behind : List (List ℕ)
    follow : FollowAll asked queries (behind_section header clauses section) behind AtEnd

  section-ends : (header : Header) (clauses : List (List ℤ)) (section : Section) (entries : List LogEntry) (lines : List (List ℕ))
      → Progress (query_at queries header clauses section) entries → FollowAll asked queries (InSection header clauses section entries) lines AtEnd
      → IsEnded header clauses section
  section-ends header clauses section entries [] progress follow = absurd (let wrong : InSection header clauses section entries ≡ AtEnd = follow in cc)
  section-ends header clauses section entries (line ∷ lines) progress (next, inl is, rest) =
      section-ends header clauses section (entries ++ is.0 ∷ []) lines (taken header (query_at queries header clauses section) entries is.0 progress is.2)
      (subst (λ (p : Phase). FollowAll asked queries p lines AtEnd) is.3 rest)
  section-ends header clauses section entries (line ∷ lines) progress (next, inr is, rest) = record {
    refutes = refuted (query_at queries header clauses section) entries progress is.1;
    behind = lines;
    follow = subst (λ (p : Phase). FollowAll asked queries p lines AtEnd) is.2 rest;
  }

  -- ---- clauses

  -- lines list clauses over the state bits, up to the word behind them
  record AreListed (header : Header) (clauses : List (List ℤ)) (lines : List (List ℕ)) : Type 0 where
    all : List (List ℤ)
    within : AreWithin queries header all
    front : List (List ℕ)
    behind : List (List ℕ)
    pieces : lines ≡ front ++ behind
    listed : FollowAll asked queries (InClauses header clauses) front (InSection header all Initial [])
    follow : FollowAll asked queries (InSection header all Initial []) behind AtEnd

  clauses-end : (header : Header) (clauses : List (List ℤ)) (lines : List (List ℕ)) → AreWithin queries header clauses
      → FollowAll asked queries (InClauses header clauses) lines AtEnd → AreListed header clauses lines
  clauses-end header clauses [] within follow = absurd (let wrong : InClauses header clauses ≡ AtEnd = follow in cc)
  clauses-end header clauses (line ∷ lines) within (next, inl is, rest) =
      let more = clauses-end header (clauses ++ is.0 ∷ []) lines (one_within queries header clauses is.0 within is.2)
      (subst (λ (p : Phase). FollowAll asked queries p lines AtEnd) is.3 rest) in
      record {
        all = more.all;
        within = more.within;
        front = line ∷ more.front;
        behind = more.behind;
        pieces = ap (λ (rest : List (List ℕ)). line ∷ rest) more.pieces;
        listed = (InClauses header (clauses ++ is.0 ∷ []), inl (is.0, is.1, is.2, refl), more.listed);
        follow = more.follow;
      }
  clauses-end header clauses (line ∷ lines) within (next, inr is, rest) = record {
    all = clauses;
    within = within;
    front = line ∷ [];
    behind = lines;
    pieces = refl;
    listed = (InSection header clauses Initial [], inr (is.0, refl), refl);
    follow = subst (λ (p : Phase). FollowAll asked queries p lines AtEnd) is.1 rest;
  }

  -- ---- the header

  -- lines behind the visits end a header whose numbers are in their ranges
  record EndsHeader (form : Form) (visits : ℕ) (lines : List (List ℕ)) : Type 0 where
    window : ℕ
    live : ℕ
    may_window : MayBe Window window
    may_live : MayBe Live live
    first : form ≡ Windowed One → live ≡ MOST_VARIABLES
    third : form ≡ Clausal → window ≡ 1
    behind : List (List ℕ)
    pieces : lines ≡ end_lines form window live ++ behind
    follow : FollowAll asked queries (behind_form form (record { form = form; visits = visits; window = window; live = live })) behind AtEnd

  -- the last line
  last-ends : (header : Header) (lines : List (List ℕ)) → FollowAll asked queries (AtLast header) lines AtEnd
      → (behind : List (List ℕ)) × (lines ≡ last_line header.form ∷ behind) × FollowAll asked queries (behind_header header) behind AtEnd
  last-ends header [] follow = absurd (let wrong : AtLast header ≡ AtEnd = follow in cc)
  last-ends header (line ∷ lines) (next, is, rest) = (
    lines,
    ap (λ (first : List ℕ). first ∷ lines) is.0,
    subst (λ (p : Phase). FollowAll asked queries p lines AtEnd) is.1 rest,
  )

  -- the last two
  live-ends : (form : Form) (visits window : ℕ) (lines : List (List ℕ)) → FollowAll asked queries (AtLive form visits window) lines AtEnd
      → (live : ℕ) × MayBe Live live × (behind : List (List ℕ)) × (lines ≡ field_line Live live ∷ (last_line form ∷ behind))
      × FollowAll asked queries (behind_form form (record { form = form; visits = visits; window = window; live = live })) behind AtEnd
  live-ends form visits window [] follow = absurd (let wrong : AtLive form visits window ≡ AtEnd = follow in cc)
  live-ends form visits window (line ∷ lines) (next, is, rest) =
      let header : Header = record { form = form; visits = visits; window = window; live = is.0 } in
      let last = last-ends header lines (subst (λ (p : Phase). FollowAll asked queries p lines AtEnd) is.2 rest) in (
        is.0,
        is.1.may,
        last.0,
        ap (λ (first : List ℕ). first ∷ lines) is.1.is ∙ ap (λ (rest : List (List ℕ)). field_line Live is.0 ∷ rest) last.1,
        last.2,
      )

  header-ends : (form : Form) (visits : ℕ) (lines : List (List ℕ)) → FollowAll asked queries (behind_visits form visits) lines AtEnd → EndsHeader form visits lines
  header-ends (Windowed One) visits [] follow = absurd (let wrong : behind_visits (Windowed One) visits ≡ AtEnd = follow in cc)
  header-ends (Windowed One) visits (line ∷ lines) (next, is, rest) =
      let header : Header = record { form = Windowed One; visits = visits; window = is.0; live = MOST_VARIABLES } in
      let last = last-ends header lines (subst (λ (p : Phase). FollowAll asked queries p lines AtEnd) is.2 rest) in
      record {
        window = is.0;
        live = MOST_VARIABLES;
        may_window = is.1.may;
        may_live = record { least = omega arith; most = omega arith };
        first = λ _. refl;
        third = λ wrong. absurd cc;
        behind = last.0;
        pieces = ap (λ (first : List ℕ). first ∷ lines) is.1.is ∙ ap (λ (rest : List (List ℕ)). field_line Window is.0 ∷ rest) last.1;
        follow = last.2;
      }
  header-ends (Windowed Two) visits [] follow = absurd (let wrong : behind_visits (Windowed Two) visits ≡ AtEnd = follow in cc)
  header-ends (Windowed Two) visits (line ∷ lines) (next, is, rest) =
      let end = live-ends (Windowed Two) visits is.0 lines (subst (λ (p : Phase). FollowAll asked queries p lines AtEnd) is.2 rest) in
      record {
        window = is.0;
        live = end.0;
        may_window = is.1.may;
        may_live = end.1;
        first = λ wrong. absurd cc;
        third = λ wrong. absurd cc;
        behind = end.2;
        pieces = ap (λ (first : List ℕ). first ∷ lines) is.1.is ∙ ap (λ (rest : List (List ℕ)). field_line Window is.0 ∷ rest) end.3;
        follow = end.4;
      }
  header-ends Clausal visits lines follow =
      let end = live-ends Clausal visits 1 lines follow in
      record {
        window = 1;
        live = end.0;
        may_window = record { least = omega arith; most = omega arith };
        may_live = end.1;
        first = λ wrong. absurd cc;
        third = λ _. refl;
        behind = end.2;
        pieces = end.3;
        follow = end.4;
      }

  -- lines begin with a header of what was asked for
  record AreHeaded (lines : List (List ℕ)) : Type 0 where
    header : Header
    number : MayBe Assertion asked.number
    has_claim : asked.has_claim ≡ true
    numbers : IsHeader header
    behind : List (List ℕ)
    pieces : lines ≡ header_lines asked.number header ++ behind
    follow : FollowAll asked queries (behind_header header) behind AtEnd

  headed : (lines : List (List ℕ)) → FollowAll asked queries AtVersion lines AtEnd → AreHeaded lines
  headed [] follow = absurd (let wrong : AtVersion ≡ AtEnd = follow in cc)
  headed (first ∷ lines) (next, version, rest) =
      assertion lines (subst (λ (p : Phase). FollowAll asked queries p lines AtEnd) version.2 rest)
    where
      form : Form
      form = version.0

      visited : (second third : List ℕ) (lines : List (List ℕ)) (visits : ℕ) → MayBe Assertion asked.number → asked.has_claim ≡ true → MayBe Visits visits
          → second ≡ field_line Assertion asked.number → third ≡ field_line Visits visits → FollowAll asked queries (behind_visits form visits) lines AtEnd
          → AreHeaded (first ∷ (second ∷ (third ∷ lines)))
      visited second third lines visits number claims may one two follow =
          let end = header-ends form visits lines follow in
          record {
            header = record { form = form; visits = visits; window = end.window; live = end.live };
            number = number;
            has_claim = claims;
            numbers = record { visits = may; window = end.may_window; live = end.may_live; first = end.first; third = end.third };
            behind = end.behind;
            pieces = ap (λ (f : List ℕ). f ∷ (second ∷ (third ∷ lines))) version.1
                ∙ ap (λ (s : List ℕ). form_line form ∷ (s ∷ (third ∷ lines))) one
                ∙ ap (λ (t : List ℕ). form_line form ∷ (field_line Assertion asked.number ∷ (t ∷ lines))) two
                ∙ ap (λ (rest : List (List ℕ)). form_line form ∷ (field_line Assertion asked.number ∷ (field_line Visits visits ∷ rest))) end.pieces;
            follow = end.follow;
          }

      visits : (second : List ℕ) (lines : List (List ℕ)) → MayBe Assertion asked.number → asked.has_claim ≡ true → second ≡ field_line Assertion asked.number
          → FollowAll asked queries (AtVisits form) lines AtEnd → AreHeaded (first ∷ (second ∷ lines))
      visits second [] number claims one follow = absurd (let wrong : AtVisits form ≡ AtEnd = follow in cc)
      visits second (third ∷ lines) number claims one (next, is, rest) =
          visited second third lines is.0 number claims is.1.may one is.1.is (subst (λ (p : Phase). FollowAll asked queries p lines AtEnd) is.2 rest)

      assertion : (lines : List (List ℕ)) → FollowAll asked queries (AtAssertion form) lines AtEnd → AreHeaded (first ∷ lines)
      assertion [] follow = absurd (let wrong : AtAssertion form ≡ AtEnd = follow in cc)
      assertion (second ∷ lines) (next, is, rest) =
          let same = is.2.0 in
          visits second lines (subst (MayBe Assertion) same is.1.may) is.2.1 (is.1.is ∙ ap (field_line Assertion) same)
          (subst (λ (p : Phase). FollowAll asked queries p lines AtEnd) is.3 rest)

  -- ---- all of it

  by-window : (header : Header) (behind : List (List ℕ)) → FollowAll asked queries (InSection header [] Base []) behind AtEnd → IsClosed queries header
  by-window header behind follow =
      let base = section-ends header [] Base [] behind (nothing (query_at queries header [] Base)) follow in
      let induction = section-ends header [] Induction [] base.behind (nothing (query_at queries header [] Induction)) base.follow in
      record { base = base.refutes; induction = induction.refutes }

  by-clauses : (header : Header) (listed : List (List ℤ)) (behind : List (List ℕ)) → AreWithin queries header listed
      → FollowAll asked queries (InSection header listed Initial []) behind AtEnd → IsInduced queries header listed
  by-clauses header listed behind within follow =
      let initial = section-ends header listed Initial [] behind (nothing (query_at queries header listed Initial)) follow in
      let step = section-ends header listed Step [] initial.behind (nothing (query_at queries header listed Step)) initial.follow in
      let bad = section-ends header listed Bad [] step.behind (nothing (query_at queries header listed Bad)) step.follow in
      record { within = within; initial = initial.refutes; step = step.refutes; bad = bad.refutes }

  -- the clauses stand behind the header
  has-clauses : (text : List ℕ) (header : Header) (front : List (List ℕ)) (behind lines : List (List ℕ)) (clauses : List (List ℤ)) → header.form ≡ Clausal
      → MayBe Assertion asked.number → asked.has_claim ≡ true → IsHeader header → text ≡ lines_text lines ++ [] → IsTrue (list_all (lacks 10) lines)
      → lines ≡ header_lines asked.number header ++ (front ++ behind) → FollowAll asked queries (InClauses header []) front (InSection header clauses Initial [])
      → HasClauses asked queries text header clauses
  has-clauses text header front behind lines clauses third number claims numbers is whole pieces listed =
      let head = header_lines asked.number header in
      let begins : FollowAll asked queries AtVersion head (InClauses header []) =
      subst (λ (f : Form). FollowAll asked queries AtVersion head (behind_form f header)) third (header_follows asked queries header number claims numbers) in
      let same : lines ≡ (head ++ front) ++ behind = pieces ∙ sym (append_assoc head front behind) in
      record {
        lines = head ++ front;
        rest = lines_text behind ++ [];
        reaches = record {
          is = is ∙ ap (λ (all : List (List ℕ)). lines_text all ++ []) same
              ∙ ap (λ (bytes : List ℕ). bytes ++ []) (text-append (head ++ front) behind)
              ∙ append_assoc (lines_text (head ++ front)) (lines_text behind) [];
          whole = (and_parts (list_all (lacks 10) (head ++ front)) (list_all (lacks 10) behind)
              (sym (list_all-append (lacks 10) (head ++ front) behind) ∙ ap (list_all (lacks 10)) (sym same) ∙ whole)).0;
          follow = follow-append head front AtVersion (InClauses header []) (InSection header clauses Initial []) begins listed;
        };
      }

  by-form : (form : Form) (text : List ℕ) (header : Header) (behind lines : List (List ℕ)) → header.form ≡ form
      → MayBe Assertion asked.number → asked.has_claim ≡ true → IsHeader header → text ≡ lines_text lines ++ [] → IsTrue (list_all (lacks 10) lines)
      → lines ≡ header_lines asked.number header ++ behind → FollowAll asked queries (behind_form form header) behind AtEnd → IsShownBy asked queries text header form
  by-form (Windowed version) text header behind lines same number claims numbers is whole pieces follow = by-window header behind follow
  by-form Clausal text header behind lines same number claims numbers is whole pieces follow =
      let listed = clauses-end header [] behind (none_within queries header) follow in (
        listed.all,
        has-clauses text header listed.front listed.behind lines listed.all same number claims numbers is whole
            (pieces ∙ ap (λ (rest : List (List ℕ)). header_lines asked.number header ++ rest) listed.pieces) listed.listed,
        by-clauses header listed.all listed.behind listed.within listed.follow,
      )

pub shown : (asked : Asked) (queries : Queries) (text : List ℕ) → IsPassed asked queries text → IsShown asked queries text
shown asked queries text (lines, reaches) =
    let head = headed asked queries lines reaches.follow in
    let front = header_lines asked.number head.header in
    record {
      header = head.header;
      has = record {
        number = head.number;
        has_claim = head.has_claim;
        numbers = head.numbers;
        rest = lines_text head.behind ++ [];
        is = reaches.is ∙ ap (λ (all : List (List ℕ)). lines_text all ++ []) head.pieces
            ∙ ap (λ (bytes : List ℕ). bytes ++ []) (text-append front head.behind)
            ∙ append_assoc (lines_text front) (lines_text head.behind) [];
      };
      by = by-form asked queries head.header.form text head.header head.behind lines refl head.number head.has_claim head.numbers reaches.is reaches.whole head.pieces head.follow;
    }
