-- The worked examples hold.
use Rattle.std.proofs.Common.{◌≡◌, ℕ, ◌<◌, ◌≤◌, inl, inr, ◌⊎◌, List, [], ◌∷◌, ◌++◌, refl, false, arith, ap, sym, ◌∙◌, ℤ, pos, negsuc, get_or, drop, subst, length, length-append, append_assoc}
use Rattle.std.specs.Fmt.{digits, decimal, signed_decimal}
use Rattle.std.specs.Prelude.{codes}
use Rattle.std.specs.List.{All, Contains}
use Rattle.std.proofs.lemmas.Bool.{false≢true}
use Rattle.std.proofs.lemmas.Fmt.{decimal_injective}
use Rattle.std.proofs.lemmas.List.{get_or-append_right}
use Rattle.std.proofs.lemmas.List.Elements.{All-nil, All-cons}
use Rattle.clause_text.specs.Lines.{literals_text}
use Rattle.clauses.specs.Logs.{LogEntry, is_empty_lemma}
use Rattle.clauses.specs.Logs.LogEntry.{Lemma, Forget}
use Rattle.cert_theory.specs.declared.header.Asked.{Asked}
use Rattle.cert_theory.specs.declared.header.Field.TheVariants as field
use Rattle.cert_theory.specs.declared.header.Form.{Form}
use Rattle.cert_theory.specs.declared.header.Form.TheVariants.{Windowed, Clausal}
use Rattle.cert_theory.specs.declared.header.Header.{Header}
use Rattle.cert_theory.specs.declared.header.Section.{Section}
use Rattle.cert_theory.specs.declared.header.Section.TheVariants.{Base, Induction, Initial, Step, Bad}
use Rattle.cert_theory.specs.declared.header.Version.TheVariants.{One, Two}
use Rattle.cert_theory.specs.Headers.{Says}
use Rattle.cert_theory.specs.Lines.{IsClauseLine, end_line, form_line}
use Rattle.cert_theory.specs.Phases.{Phase, behind_section}
use Rattle.cert_theory.specs.Phases.Phase.{AtVersion, AtAssertion, AtVisits, AtWindow, AtLive, AtLast, InClauses, InSection, AtEnd}
use Rattle.cert_theory.specs.Sections.{IsEntryLine, PassesBehind, Queries, live_lemmas, query_at}
use Rattle.cert_theory.specs.Texts.{FollowAll}
use Rattle.cert_theory.specs.Examples.{CutBehindLine, CutInsideLine, DropOfFormula, FirstVersionPasses, FourthVersion, LemmaBehindEmpty, NoClauseLine, NoHints, NoStateBit, NoWindow, NoneMayLive, NothingInitial, NothingShown, OfAnother, OneMoreByte, Passes, ThirdVersionPasses, assertion, contradiction, contradictions}

-- the texts of small numbers
zero_is : decimal 0 ≡ codes "0"
unfolding digits
zero_is = refl

one_is : decimal 1 ≡ codes "1"
unfolding digits
one_is = refl

two_is : decimal 2 ≡ codes "2"
unfolding digits
two_is = refl

-- the empty lemma follows
one_literal : (literal : ℤ) (set : List ℤ) → Contains set literal → All (Contains set) (literal ∷ [])
one_literal literal set among = All-cons (Contains set) literal [] among (All-nil (Contains set))

contradiction_passes : PassesBehind contradiction [] [] (1 ∷ 2 ∷ [])
contradiction_passes = record {
  none_empty = All-nil (λ entry. is_empty_lemma entry ≡ false);
  within = refl;
  refuted = (
    pos 1 ∷ [],
    pos 1,
    refl,
    record {
      in_clause = (0, omega arith, refl);
      not_in_set = λ among. omega (arith, among.1);
      others = All-cons (λ other. (other ≡ pos 1) ⊎ Contains [] other) (pos 1) [] (inl refl) (All-nil (λ other. (other ≡ pos 1) ⊎ Contains [] other));
    },
    (negsuc 0 ∷ [], refl, one_literal (negsuc 0) (negsuc 0 ∷ []) (0, omega arith, refl)),
  );
}

empty_passes : (section : Section) (header : Header) (clauses : List (List ℤ)) → PassesBehind (query_at contradictions header clauses section) [] [] (1 ∷ 2 ∷ [])
empty_passes Base header clauses = contradiction_passes
empty_passes Induction header clauses = contradiction_passes
empty_passes Initial header clauses = contradiction_passes
empty_passes Step header clauses = contradiction_passes
empty_passes Bad header clauses = contradiction_passes

none_live : (section : Section) (header : Header) (clauses : List (List ℤ)) → live_lemmas (query_at contradictions header clauses section) [] ≡ 0
none_live Base header clauses = refl
none_live Induction header clauses = refl
none_live Initial header clauses = refl
none_live Step header clauses = refl
none_live Bad header clauses = refl

-- its line
empty_line : (form : Form) → IsEntryLine form (codes "0 1 2 0") (Lemma [] (1 ∷ 2 ∷ []))
unfolding digits
empty_line (Windowed One) = record { is = refl; has = refl }
empty_line (Windowed Two) = record { is = refl; has = refl }
empty_line Clausal = record { is = refl; has = refl }

-- the lines of a header
abbrev begun_lines : List (List ℕ)
begun_lines = codes "pslc-cert 2" ∷ codes "assertion 1" ∷ codes "visits 0" ∷ codes "window 1" ∷ []

abbrev header_of : ℕ → Header
header_of live = record { form = Windowed Two; visits = 0; window = 1; live = live }

says_one : Says field.Assertion (codes "assertion 1") 1
unfolding digits
says_one = record { is = refl; may = record { least = omega arith; most = omega arith } }

says_visits : Says field.Visits (codes "visits 0") 0
unfolding digits
says_visits = record { is = refl; may = record { least = omega arith; most = omega arith } }

says_window : Says field.Window (codes "window 1") 1
unfolding digits
says_window = record { is = refl; may = record { least = omega arith; most = omega arith } }

version_follows : (asked : Asked) (form : Form) → FollowAll asked contradictions AtVersion (form_line form ∷ []) (AtAssertion form)
version_follows asked form = (AtAssertion form, (form, refl, refl), refl)

begun_follow : FollowAll (assertion 1) contradictions AtVersion begun_lines (AtLive (Windowed Two) 0 1)
begun_follow = (
  AtAssertion (Windowed Two),
  (Windowed Two, refl, refl),
  (
    AtVisits (Windowed Two),
    (1, says_one, (refl, refl), refl),
    (
      AtWindow (Windowed Two) 0,
      (0, says_visits, refl),
      (AtLive (Windowed Two) 0 1, (1, says_window, refl), refl),
    ),
  ),
)

-- lines and others behind them
followed : (asked : Asked) (queries : Queries) (from between to : Phase) (lines others : List (List ℕ)) → FollowAll asked queries from lines between
    → FollowAll asked queries between others to → FollowAll asked queries from (lines ++ others) to
followed asked queries from between to [] others first second = subst (λ phase. FollowAll asked queries phase others to) (sym first) second
followed asked queries from between to (line ∷ lines) others first second =
    (first.0, first.1, followed asked queries first.0 between to lines others first.2 second)

says_live : (live : ℕ) (text : List ℕ) → decimal live ≡ text → live ≤ 2147483647 → Says field.Live (codes "live " ++ text) live
says_live live text is most = record { is = ap (λ digits. codes "live " ++ digits) (sym is); may = record { least = omega arith; most = omega arith } }

-- up to the base
base_follow : (live : ℕ) (text : List ℕ) → decimal live ≡ text → live ≤ 2147483647
    → FollowAll (assertion 1) contradictions AtVersion (begun_lines ++ ((codes "live " ++ text) ∷ codes "base" ∷ [])) (InSection (header_of live) [] Base [])
base_follow live text is most =
    followed (assertion 1) contradictions AtVersion (AtLive (Windowed Two) 0 1) (InSection (header_of live) [] Base []) begun_lines ((codes "live " ++ text) ∷ codes "base" ∷ []) begun_follow
    (AtLast (header_of live), (live, says_live live text is most, refl), (InSection (header_of live) [] Base [], (refl, refl), refl))

-- the entry of the empty lemma
abbrev the_lemma : LogEntry
the_lemma = Lemma [] (1 ∷ 2 ∷ [])

-- a section that has the empty lemma alone
section_follows : (header : Header) (clauses : List (List ℤ)) (section : Section) → 0 < header.live
    → FollowAll (assertion 1) contradictions (InSection header clauses section []) (codes "0 1 2 0" ∷ end_line section ∷ []) (behind_section header clauses section)
section_follows header clauses section some = (
  InSection header clauses section (the_lemma ∷ []),
  inl (the_lemma, empty_line header.form, (empty_passes section header clauses, omega (arith, none_live section header clauses)), refl),
  (behind_section header clauses section, inr (refl, refl, refl), refl),
)

both_follow : (header : Header) → 0 < header.live
    → FollowAll (assertion 1) contradictions (InSection header [] Base []) (codes "0 1 2 0" ∷ codes "induction" ∷ codes "0 1 2 0" ∷ codes "end" ∷ []) AtEnd
both_follow header some =
    followed (assertion 1) contradictions (InSection header [] Base []) (InSection header [] Induction []) AtEnd (codes "0 1 2 0" ∷ codes "induction" ∷ []) (codes "0 1 2 0" ∷ codes "end" ∷ [])
    (section_follows header [] Base some) (section_follows header [] Induction some)

-- all lines of a certificate
abbrev lines_of_two : List (List ℕ)
lines_of_two =
    begun_lines ++ (codes "live 1" ∷ codes "base" ∷ []) ++ (codes "0 1 2 0" ∷ codes "induction" ∷ codes "0 1 2 0" ∷ codes "end" ∷ [])

two_follow : FollowAll (assertion 1) contradictions AtVersion lines_of_two AtEnd
two_follow =
    followed (assertion 1) contradictions AtVersion (InSection (header_of 1) [] Base []) AtEnd (begun_lines ++ (codes "live 1" ∷ codes "base" ∷ []))
    (codes "0 1 2 0" ∷ codes "induction" ∷ codes "0 1 2 0" ∷ codes "end" ∷ []) (base_follow 1 (codes "1") one_is (omega arith)) (both_follow (header_of 1) (omega arith))

pub passes : Passes
passes = (lines_of_two, record { is = refl; whole = refl; follow = two_follow })

pub one_more_byte : OneMoreByte
one_more_byte = record { lines = lines_of_two; rest = 10 ∷ []; reaches = record { is = refl; whole = refl; follow = two_follow }; some = omega arith; number_is = refl }

-- the first version
abbrev header_of_one : Header
header_of_one = record { form = Windowed One; visits = 0; window = 1; live = 2147483647 }

abbrev front_of_one : List (List ℕ)
front_of_one = codes "pslc-cert 1" ∷ codes "assertion 1" ∷ codes "visits 0" ∷ codes "window 1" ∷ codes "base" ∷ []

front_follow : FollowAll (assertion 1) contradictions AtVersion front_of_one (InSection header_of_one [] Base [])
front_follow = (
  AtAssertion (Windowed One),
  (Windowed One, refl, refl),
  (
    AtVisits (Windowed One),
    (1, says_one, (refl, refl), refl),
    (
      AtWindow (Windowed One) 0,
      (0, says_visits, refl),
      (
        AtLast header_of_one,
        (1, says_window, refl),
        (InSection header_of_one [] Base [], (refl, refl), refl),
      ),
    ),
  ),
)

pub first_version_passes : FirstVersionPasses
first_version_passes = (
  front_of_one ++ (codes "0 1 2 0" ∷ codes "induction" ∷ codes "0 1 2 0" ∷ codes "end" ∷ []),
  record {
    is = refl;
    whole = refl;
    follow = followed (assertion 1) contradictions AtVersion (InSection header_of_one [] Base []) AtEnd front_of_one (codes "0 1 2 0" ∷ codes "induction" ∷ codes "0 1 2 0" ∷ codes "end" ∷ [])
        front_follow (both_follow header_of_one (omega arith));
  },
)

-- headers that are refused
no_fourth : (form : Form) → codes "pslc-cert 4" ≡ form_line form → ⊥
no_fourth (Windowed One) same = let last : 52 ≡ 49 = ap (λ (text : List ℕ). get_or text 10 0) same in omega (arith, last)
no_fourth (Windowed Two) same = let last : 52 ≡ 50 = ap (λ (text : List ℕ). get_or text 10 0) same in omega (arith, last)
no_fourth Clausal same = let last : 52 ≡ 51 = ap (λ (text : List ℕ). get_or text 10 0) same in omega (arith, last)

pub fourth_version : FourthVersion
fourth_version = record {
  lines = [];
  phase = AtVersion;
  line = codes "pslc-cert 4";
  behind = [];
  reaches = record { is = refl; whole = refl; follow = refl };
  whole = refl;
  refused = no_fourth;
  number_is = refl;
}

pub of_another : OfAnother
of_another = record {
  lines = codes "pslc-cert 2" ∷ [];
  phase = AtAssertion (Windowed Two);
  line = codes "assertion 1";
  behind = codes "visits 0\nwindow 1\n";
  reaches = record { is = refl; whole = refl; follow = version_follows (assertion 2) (Windowed Two) };
  whole = refl;
  refused = (1, says_one, λ asked. omega (arith, asked.0));
  number_is = refl;
}

zero_window : (number : ℕ) → Says field.Window (codes "window 0") number → ⊥
zero_window number says =
    let digits : decimal 0 ≡ decimal number = zero_is ∙ ap (drop 7) says.is in
    omega (arith, decimal_injective 0 number (omega arith) (omega (arith, says.may.most)) digits, says.may.least)

pub no_window : NoWindow
no_window = record {
  lines = codes "pslc-cert 2" ∷ codes "assertion 1" ∷ codes "visits 0" ∷ [];
  phase = AtWindow (Windowed Two) 0;
  line = codes "window 0";
  behind = [];
  reaches = record {
    is = refl;
    whole = refl;
    follow = (AtAssertion (Windowed Two), (Windowed Two, refl, refl), (AtVisits (Windowed Two), (1, says_one, (refl, refl), refl), (AtWindow (Windowed Two) 0, (0, says_visits, refl), refl)));
  };
  whole = refl;
  refused = zero_window;
  number_is = refl;
}

pub cut_behind_line : CutBehindLine
cut_behind_line = record {
  lines = begun_lines ++ codes "live 1" ∷ [];
  phase = AtLast (header_of 1);
  rest = [];
  reaches = record {
    is = refl;
    whole = refl;
    follow = followed (assertion 1) contradictions AtVersion (AtLive (Windowed Two) 0 1) (AtLast (header_of 1)) begun_lines (codes "live 1" ∷ []) begun_follow
        (AtLast (header_of 1), (1, says_live 1 (codes "1") one_is (omega arith), refl), refl);
  };
  inside = refl;
  more = refl;
  number_is = refl;
}

pub cut_inside_line : CutInsideLine
cut_inside_line = record {
  lines = codes "pslc-cert 2" ∷ codes "assertion 1" ∷ [];
  phase = AtVisits (Windowed Two);
  rest = codes "vis";
  reaches = record { is = refl; whole = refl; follow = (AtAssertion (Windowed Two), (Windowed Two, refl, refl), (AtVisits (Windowed Two), (1, says_one, (refl, refl), refl), refl)) };
  inside = refl;
  more = refl;
  number_is = refl;
}

-- sections that are refused
abbrev lines_to_base : List ℕ → List (List ℕ)
lines_to_base live = begun_lines ++ ((codes "live " ++ live) ∷ codes "base" ∷ [])

no_hints_line : IsEntryLine (Windowed Two) (codes "0 0") (Lemma [] [])
no_hints_line = record { is = refl; has = refl }

pub no_hints : NoHints
no_hints = record {
  lines = lines_to_base (codes "1");
  phase = InSection (header_of 1) [] Base [];
  line = codes "0 0";
  behind = codes "induction\n";
  reaches = record { is = refl; whole = refl; follow = base_follow 1 (codes "1") one_is (omega arith) };
  whole = refl;
  refused = (refl, [], [], no_hints_line, λ passes. passes.refuted);
  number_is = refl;
}

pub none_may_live : NoneMayLive
none_may_live = record {
  lines = lines_to_base (codes "0");
  phase = InSection (header_of 0) [] Base [];
  line = codes "0 1 2 0";
  behind = [];
  reaches = record { is = refl; whole = refl; follow = base_follow 0 (codes "0") zero_is (omega arith) };
  whole = refl;
  refused = ([], 1 ∷ 2 ∷ [], empty_line (Windowed Two), contradiction_passes, omega arith);
  number_is = refl;
}

drop_line : IsEntryLine (Windowed Two) (codes "d 1") (Forget 1)
unfolding digits
drop_line = record { is = refl; has = refl }

pub drop_of_formula : DropOfFormula
drop_of_formula = record {
  lines = lines_to_base (codes "1");
  phase = InSection (header_of 1) [] Base [];
  line = codes "d 1";
  behind = codes "0 1 2 0\n";
  reaches = record { is = refl; whole = refl; follow = base_follow 1 (codes "1") one_is (omega arith) };
  whole = refl;
  refused = (refl, 1, drop_line, λ names. omega (arith, names.0));
  number_is = refl;
}

pub nothing_shown : NothingShown
nothing_shown = record {
  lines = lines_to_base (codes "1");
  phase = InSection (header_of 1) [] Base [];
  line = codes "induction";
  behind = [];
  reaches = record { is = refl; whole = refl; follow = base_follow 1 (codes "1") one_is (omega arith) };
  whole = refl;
  refused = (refl, refl);
  number_is = refl;
}

lemma_follows : FollowAll (assertion 1) contradictions (InSection (header_of 2) [] Base []) (codes "0 1 2 0" ∷ []) (InSection (header_of 2) [] Base (the_lemma ∷ []))
lemma_follows = (InSection (header_of 2) [] Base (the_lemma ∷ []), inl (the_lemma, empty_line (Windowed Two), (contradiction_passes, omega arith), refl), refl)

pub lemma_behind_empty : LemmaBehindEmpty
lemma_behind_empty = record {
  lines = lines_to_base (codes "2") ++ codes "0 1 2 0" ∷ [];
  phase = InSection (header_of 2) [] Base (the_lemma ∷ []);
  line = codes "0 1 2 0";
  behind = [];
  reaches = record {
    is = refl;
    whole = refl;
    follow = followed (assertion 1) contradictions AtVersion (InSection (header_of 2) [] Base []) (InSection (header_of 2) [] Base (the_lemma ∷ [])) (lines_to_base (codes "2")) (codes "0 1 2 0" ∷ [])
        (base_follow 2 (codes "2") two_is (omega arith)) lemma_follows;
  };
  whole = refl;
  refused = inr (refl, the_lemma, empty_line (Windowed Two));
  number_is = refl;
}

-- the third version
abbrev inductive_header : Header
inductive_header = record { form = Clausal; visits = 0; window = 1; live = 1 }

abbrev inductive_lines : List (List ℕ)
inductive_lines = codes "pslc-cert 3" ∷ codes "assertion 1" ∷ codes "visits 0" ∷ codes "live 1" ∷ codes "clauses" ∷ []

inductive_follow : FollowAll (assertion 1) contradictions AtVersion inductive_lines (InClauses inductive_header [])
inductive_follow = (
  AtAssertion Clausal,
  (Clausal, refl, refl),
  (
    AtVisits Clausal,
    (1, says_one, (refl, refl), refl),
    (
      AtLive Clausal 0 1,
      (0, says_visits, refl),
      (
        AtLast inductive_header,
        (1, says_live 1 (codes "1") one_is (omega arith), refl),
        (InClauses inductive_header [], (refl, refl), refl),
      ),
    ),
  ),
)

abbrev first_clause : List ℤ
first_clause = pos 1 ∷ negsuc 2 ∷ []

abbrev second_clause : List ℤ
second_clause = pos 2 ∷ []

first_line : IsClauseLine (codes "1 -3 0") first_clause
unfolding digits
first_line = record { is = refl; has = refl }

second_line : IsClauseLine (codes "2 0") second_clause
unfolding digits
second_line = record { is = refl; has = refl }

abbrev two_clauses : List (List ℤ)
two_clauses = first_clause ∷ second_clause ∷ []

clauses_follow : FollowAll (assertion 1) contradictions (InClauses inductive_header []) (codes "1 -3 0" ∷ codes "2 0" ∷ codes "initial" ∷ [])
    (InSection inductive_header two_clauses Initial [])
clauses_follow = (
  InClauses inductive_header (first_clause ∷ []),
  inl (first_clause, first_line, refl, refl),
  (
    InClauses inductive_header two_clauses,
    inl (second_clause, second_line, refl, refl),
    (InSection inductive_header two_clauses Initial [], inr (refl, refl), refl),
  ),
)

abbrev lines_behind : List (List ℕ)
lines_behind =
    (codes "0 1 2 0" ∷ codes "step" ∷ []) ++ ((codes "0 1 2 0" ∷ codes "bad" ∷ []) ++ (codes "0 1 2 0" ∷ codes "end" ∷ []))

three_follow : FollowAll (assertion 1) contradictions (InSection inductive_header two_clauses Initial []) lines_behind AtEnd
three_follow =
    followed (assertion 1) contradictions (InSection inductive_header two_clauses Initial []) (InSection inductive_header two_clauses Step []) AtEnd
    (codes "0 1 2 0" ∷ codes "step" ∷ []) ((codes "0 1 2 0" ∷ codes "bad" ∷ []) ++ (codes "0 1 2 0" ∷ codes "end" ∷ []))
    (section_follows inductive_header two_clauses Initial (omega arith))
    (followed (assertion 1) contradictions (InSection inductive_header two_clauses Step []) (InSection inductive_header two_clauses Bad []) AtEnd
    (codes "0 1 2 0" ∷ codes "bad" ∷ []) (codes "0 1 2 0" ∷ codes "end" ∷ [])
    (section_follows inductive_header two_clauses Step (omega arith)) (section_follows inductive_header two_clauses Bad (omega arith)))

pub third_version_passes : ThirdVersionPasses
third_version_passes = (
  inductive_lines ++ ((codes "1 -3 0" ∷ codes "2 0" ∷ codes "initial" ∷ []) ++ lines_behind),
  record {
    is = refl;
    whole = refl;
    follow = followed (assertion 1) contradictions AtVersion (InClauses inductive_header []) AtEnd inductive_lines ((codes "1 -3 0" ∷ codes "2 0" ∷ codes "initial" ∷ []) ++ lines_behind)
        inductive_follow
        (followed (assertion 1) contradictions (InClauses inductive_header []) (InSection inductive_header two_clauses Initial []) AtEnd
        (codes "1 -3 0" ∷ codes "2 0" ∷ codes "initial" ∷ []) lines_behind clauses_follow three_follow);
  },
)

far_line : IsClauseLine (codes "4 0") (pos 4 ∷ [])
unfolding digits
far_line = record { is = refl; has = refl }

pub no_state_bit : NoStateBit
no_state_bit = record {
  lines = inductive_lines;
  phase = InClauses inductive_header [];
  line = codes "4 0";
  behind = codes "initial\n";
  reaches = record { is = refl; whole = refl; follow = inductive_follow };
  whole = refl;
  refused = (pos 4 ∷ [], far_line, false≢true);
  number_is = refl;
}

-- the line of a clause ends in a 0
zero_last : (clause : List ℤ) → (front : List ℕ) × (literals_text clause ≡ front ++ 48 ∷ [])
zero_last [] = ([], refl)
zero_last (literal ∷ clause) =
    let rest = zero_last clause in (
      signed_decimal literal ++ 32 ∷ rest.0,
      ap (λ (text : List ℕ). signed_decimal literal ++ 32 ∷ text) rest.1 ∙ sym (append_assoc (signed_decimal literal) (32 ∷ rest.0) (48 ∷ [])),
    )

no_zero : (front : List ℕ) → codes "1 2" ≡ front ++ 48 ∷ [] → ⊥
no_zero front same =
    let size : length front ≡ 2 = omega (arith, ap (λ (text : List ℕ). length text) same, length-append front (48 ∷ [])) in
    let last : 50 ≡ 48 = ap (λ (text : List ℕ). get_or text 2 0) same ∙ get_or-append_right front (48 ∷ []) 2 2 0 size (omega arith) in
    omega (arith, last)

not_initial : codes "1 2" ≡ codes "initial" → ⊥
not_initial same = let first : 49 ≡ 105 = ap (λ (text : List ℕ). get_or text 0 0) same in omega (arith, first)

pub no_clause_line : NoClauseLine
no_clause_line = record {
  lines = inductive_lines;
  phase = InClauses inductive_header [];
  line = codes "1 2";
  behind = codes "initial\n";
  reaches = record { is = refl; whole = refl; follow = inductive_follow };
  whole = refl;
  refused = (not_initial, λ clause is. no_zero (zero_last clause).0 (is.is ∙ (zero_last clause).1));
  number_is = refl;
}

pub nothing_initial : NothingInitial
nothing_initial = record {
  lines = inductive_lines ++ codes "initial" ∷ [];
  phase = InSection inductive_header [] Initial [];
  line = codes "step";
  behind = [];
  reaches = record {
    is = refl;
    whole = refl;
    follow = followed (assertion 1) contradictions AtVersion (InClauses inductive_header []) (InSection inductive_header [] Initial []) inductive_lines (codes "initial" ∷ [])
        inductive_follow (InSection inductive_header [] Initial [], inr (refl, refl), refl);
  };
  whole = refl;
  refused = (refl, refl);
  number_is = refl;
}

pub ruleset examples = (passes, first_version_passes, third_version_passes, fourth_version, of_another, no_window, cut_behind_line, cut_inside_line, no_hints, none_may_live, drop_of_formula, nothing_shown, lemma_behind_empty, one_more_byte, no_state_bit, no_clause_line, nothing_initial)
