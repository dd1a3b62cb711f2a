-- A line of a section is that of one entry, or the word at its end; and so is a line among clauses.
use Rattle.std.proofs.Common.{◌≡◌, ◌∙◌, ap, sym, ℕ, ℤ, true, false, not, eqb, ◌||◌, List, [], ◌∷◌, ◌++◌, get_or, arith, refl}
use Rattle.std.specs.Fmt.{signed_decimal}
use Rattle.std.specs.List.{All}
use Rattle.std.proofs.lemmas.Bool.{and_parts, false≢true}
use Rattle.std.proofs.lemmas.List.Elements.{All-head, All-tail}
use Rattle.std.proofs.lemmas.List.Folds.{list_all-append}
use Rattle.clauses.specs.Logs.{LogEntry, is_empty_lemma, is_entry, is_lemma}
use Rattle.clauses.specs.Logs.LogEntry.{Lemma, Forget}
use Rattle.clause_text.specs.Lines.{entry_text, hints_text, lacks, literals_text}
use Rattle.clause_text.proofs.Once.{entry_once, literals_once}
use Rattle.cert_theory.specs.declared.header.Form.{Form}
use Rattle.cert_theory.specs.declared.header.Header.{Header}
use Rattle.cert_theory.specs.declared.header.Section.{Section}
use Rattle.cert_theory.specs.declared.header.Section.TheVariants.{Base, Induction, Initial, Step, Bad}
use Rattle.cert_theory.specs.Lines.{IsClauseLine, end_line, initial_line}
use Rattle.cert_theory.specs.Sections.{IsEntryLine, IsTaken, PassesBehind, Query, drops_in, has_empty}

-- a blank stands in the line of an entry
blank_in : (before behind : List ℕ) → lacks 32 (before ++ 32 ∷ behind) ≡ true → ⊥
blank_in before behind none =
    let parts = and_parts (lacks 32 before) (lacks 32 (32 ∷ behind)) (sym (list_all-append (λ other. not (eqb other 32)) before (32 ∷ behind)) ∙ none) in
    false≢true parts.1

entry_blank : (entry : LogEntry) → lacks 32 (entry_text entry) ≡ true → ⊥
entry_blank (Lemma literals hints) none = blank_in (literals_text literals) (hints_text hints) none
entry_blank (Forget number) none = false≢true none

-- and none in the word at the end
end_lacks : (section : Section) → lacks 32 (end_line section) ≡ true
end_lacks Base = refl
end_lacks Induction = refl
end_lacks Initial = refl
end_lacks Step = refl
end_lacks Bad = refl

pub no_end : (form : Form) (section : Section) (line : List ℕ) (entry : LogEntry) → IsEntryLine form line entry → line ≡ end_line section → ⊥
no_end form section line entry is end = entry_blank entry (ap (lacks 32) (sym is.is ∙ end) ∙ end_lacks section)

pub entry_is : (form : Form) (line : List ℕ) (entry : LogEntry) → IsEntryLine form line entry → is_entry entry ≡ true
entry_is form line entry is = (and_parts (is_entry entry) (drops_in form || is_lemma entry) is.has).0

pub entry_same : (form : Form) (line : List ℕ) (entry other : LogEntry) → IsEntryLine form line entry → IsEntryLine form line other → entry ≡ other
entry_same form line entry other one two =
    entry_once entry other (entry_is form line entry one) (entry_is form line other two) (sym one.is ∙ two.is)

-- a line is that of one clause, and the word behind the clauses is none
pub clause_same : (line : List ℕ) (clause other : List ℤ) → IsClauseLine line clause → IsClauseLine line other → clause ≡ other
clause_same line clause other one two =
    (literals_once clause other [] [] one.has two.has tt tt (ap (λ (text : List ℕ). text ++ []) (sym one.is ∙ two.is))).0

literals_initial : (clause : List ℤ) → literals_text clause ≡ initial_line → ⊥
literals_initial [] same = omega (arith, ap (λ (text : List ℕ). get_or text 0 0) same)
literals_initial (literal ∷ literals) same = blank_in (signed_decimal literal) (literals_text literals) (ap (lacks 32) same)

pub no_initial : (line : List ℕ) (clause : List ℤ) → IsClauseLine line clause → line ≡ initial_line → ⊥
no_initial line clause is initial = literals_initial clause (sym is.is ∙ initial)

-- whether the empty lemma stands among entries
pub none_empty : (entries : List LogEntry) → All (λ entry. is_empty_lemma entry ≡ false) entries → has_empty entries ≡ false
none_empty [] all = refl
none_empty (entry ∷ entries) all =
    ap (λ here. here || has_empty entries) (All-head (λ e. is_empty_lemma e ≡ false) entry entries all)
    ∙ none_empty entries (All-tail (λ e. is_empty_lemma e ≡ false) entry entries all)

pub passes_none : (query : Query) (entries : List LogEntry) (literals : List ℤ) (hints : List ℕ) → PassesBehind query entries literals hints → has_empty entries ≡ false
passes_none query entries literals hints passes = none_empty entries passes.none_empty

pub taken_none : (header : Header) (query : Query) (entries : List LogEntry) (entry : LogEntry) → IsTaken header query entries entry → has_empty entries ≡ false
taken_none header query entries (Lemma literals hints) taken = passes_none query entries literals hints taken.0
taken_none header query entries (Forget number) taken = taken.0
