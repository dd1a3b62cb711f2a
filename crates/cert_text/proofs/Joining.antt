-- The text of lines behind one another.
use Rattle.std.proofs.Common.{◌≡◌, ◌∙◌, ap, sym, ℕ, suc, ◌+◌, ℤ, true, false, List, [], ◌∷◌, ◌++◌, drop, map, Some, refl, add-one, append_assoc, drop-cons}
use Rattle.std.specs.List.{slice_get}
use Rattle.std.proofs.lemmas.Bool.{false≢true}
use Rattle.std.proofs.lemmas.Option.{get_or_from_slice_get, slice_get_within}
use Rattle.clauses.specs.Logs.{LogEntry}
use Rattle.clause_text.specs.Lines.{entry_text, lemmas_alone, lines_of, literals_text}
use Rattle.cert_theory.specs.Lines.{end_line, header_lines, lines_text}
use Rattle.cert_theory.specs.Printed.{certificate_lines, entry_lines, header_of, printed, section_lines}
use Rattle.cert_theory.specs.Sections.{drops_in}
use Rattle.cert_theory.specs.declared.certificate.Certificate.{Certificate}
use Rattle.cert_theory.specs.declared.header.Form.{Form}
use Rattle.cert_theory.specs.declared.header.Form.TheVariants.{Windowed, Clausal}
use Rattle.cert_theory.specs.declared.header.Section.TheVariants.{Base, Induction}
use Rattle.cert_theory.specs.declared.header.Version.{Version}
use Rattle.cert_theory.specs.declared.header.Version.TheVariants.{One, Two}

-- the lines of entries
pub entries_text : (log : List LogEntry) → lines_text (map entry_text log) ≡ lines_of log
entries_text [] = refl
entries_text (entry ∷ log) = ap (λ text. entry_text entry ++ 10 ∷ text) (entries_text log)

-- the entries of a log that have lines
pub printed_all : (form : Form) (log : List LogEntry) → drops_in form ≡ true → printed form log ≡ log
printed_all (Windowed One) log drops = absurd (false≢true drops)
printed_all (Windowed Two) log drops = refl
printed_all Clausal log drops = refl

pub printed_alone : (form : Form) (log : List LogEntry) → drops_in form ≡ false → printed form log ≡ lemmas_alone log
printed_alone (Windowed One) log drops = refl
printed_alone (Windowed Two) log drops = absurd (false≢true (sym drops))
printed_alone Clausal log drops = absurd (false≢true (sym drops))

pub entries_are : (text new : List ℕ) (form : Form) (log lined : List LogEntry) → printed form log ≡ lined → new ≡ text ++ lines_of lined → new ≡ text ++ lines_text (entry_lines form log)
entries_are text new form log lined are is =
    is ∙ ap (λ lines. text ++ lines) (sym (ap (λ entries. lines_text (map entry_text entries)) are ∙ entries_text lined))

-- a text to which lines are added
pub lines_text-append : (first second : List (List ℕ)) → lines_text (first ++ second) ≡ lines_text first ++ lines_text second
lines_text-append [] second = refl
lines_text-append (line ∷ first) second =
    ap (λ text. line ++ 10 ∷ text) (lines_text-append first second) ∙ sym (append_assoc line (10 ∷ lines_text first) (lines_text second))

pub lines_added : (lines more : List (List ℕ)) (old text new : List ℕ) → text ≡ old ++ lines_text lines → new ≡ text ++ lines_text more
    → new ≡ old ++ lines_text (lines ++ more)
lines_added lines more old text new before after =
    after ∙ ap (λ bytes. bytes ++ lines_text more) before ∙ append_assoc old (lines_text lines) (lines_text more)
    ∙ ap (λ bytes. old ++ bytes) (sym (lines_text-append lines more))

-- the lines of a clause are added, and those of the clauses behind it are left
pub line_step : (text next total : List ℕ) (clauses : List (List ℤ)) (place : ℕ) (clause : List ℤ) → slice_get clauses place ≡ Some clause
    → next ≡ text ++ (literals_text clause ++ 10 ∷ []) → text ++ lines_text (map literals_text (drop place clauses)) ≡ total
    → next ++ lines_text (map literals_text (drop (place + 1) clauses)) ≡ total
line_step text next total clauses place clause at is so_far =
    let rest = lines_text (map literals_text (drop (place + 1) clauses)) in
    ap (λ (bytes : List ℕ). bytes ++ rest) is
    ∙ append_assoc text (literals_text clause ++ 10 ∷ []) rest
    ∙ ap (λ (bytes : List ℕ). text ++ bytes) (append_assoc (literals_text clause) (10 ∷ []) rest)
    ∙ ap (λ left. text ++ lines_text (map literals_text left)) (sym (split clauses place clause at))
    ∙ so_far
  where
    split : (clauses : List (List ℤ)) (place : ℕ) (clause : List ℤ) → slice_get clauses place ≡ Some clause → drop place clauses ≡ clause ∷ drop (place + 1) clauses
    split clauses place clause at =
        let within = slice_get_within clauses place clause at in
        rw add-one (drop-cons clauses place [] within ∙ ap (λ first. first ∷ drop (suc place) clauses) (get_or_from_slice_get clauses place clause [] at))

-- the header and the two sections, each with the line that ends it, are all lines
abbrev pub both_lines : Version → Certificate → List (List ℕ)
both_lines version certificate =
    section_lines (Windowed version) Base certificate.base ++ section_lines (Windowed version) Induction certificate.induction

pub all_lines : (version : Version) (certificate : Certificate) → certificate_lines version certificate
    ≡ header_lines certificate.assertion (header_of version certificate) ++ both_lines version certificate
all_lines version certificate =
    let header = header_lines certificate.assertion (header_of version certificate) in
    let base = entry_lines (Windowed version) certificate.base in
    let behind = section_lines (Windowed version) Induction certificate.induction in
    append_assoc header base (end_line Base ∷ behind) ∙ ap (λ lines. header ++ lines) (sym (append_assoc base (end_line Base ∷ []) behind))
