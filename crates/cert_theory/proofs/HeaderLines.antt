-- The lines of a header follow one another, and a text begins with one header.
use Rattle.std.proofs.Common.{◌≡◌, ◌∙◌, ap, sym, subst, ℕ, true, not, eqb, List, [], ◌∷◌, ◌++◌, arith, refl, append_assoc}
use Rattle.std.specs.Prelude.{codes, decimal}
use Rattle.std.specs.Bool.{IsTrue}
use Rattle.std.specs.List.{list_all}
use Rattle.std.proofs.lemmas.Bool.{and_from}
use Rattle.std.proofs.lemmas.List.Folds.{list_all-append}
use Rattle.clauses.specs.declared.flat.TheConstants.{MOST_VARIABLES}
use Rattle.clause_text.specs.Lines.{lacks}
use Rattle.clause_text.proofs.Splitting.{decimal_lacks, split_once}
use Rattle.cert_theory.specs.declared.header.Asked.{Asked}
use Rattle.cert_theory.specs.declared.header.Field.{Field}
use Rattle.cert_theory.specs.declared.header.Field.TheVariants.{Assertion, Visits, Window, Live}
use Rattle.cert_theory.specs.declared.header.Form.{Form}
use Rattle.cert_theory.specs.declared.header.Form.TheVariants.{Windowed, Clausal}
use Rattle.cert_theory.specs.declared.header.Header.{Header}
use Rattle.cert_theory.specs.declared.header.Section.TheVariants.{Base}
use Rattle.cert_theory.specs.declared.header.Version.TheVariants.{One, Two}
use Rattle.cert_theory.specs.Headers.{HasHeader, IsHeader, MayBe, Says}
use Rattle.cert_theory.specs.Lines.{field_line, form_line, header_lines, last_line, lines_text, live_lines, window_lines, word_of}
use Rattle.cert_theory.specs.Phases.{behind_header, behind_visits}
use Rattle.cert_theory.specs.Phases.Phase.{AtVersion, AtAssertion, AtVisits, AtLive, AtLast, InClauses, InSection}
use Rattle.cert_theory.specs.Sections.{Queries}
use Rattle.cert_theory.specs.Texts.{FollowAll, Reaches}
use Rattle.cert_theory.proofs.Fields.{form_once, says_once, small_number}

-- a line that gives a number
pub says_it : (field : Field) (number : ℕ) → MayBe field number → Says field (field_line field number) number
says_it field number may = record { is = refl; may = may }

-- the lines of a header have no line feed
word_lacks : (field : Field) → lacks 10 (word_of field) ≡ true
word_lacks Assertion = refl
word_lacks Visits = refl
word_lacks Window = refl
word_lacks Live = refl

pub form_lacks : (form : Form) → lacks 10 (form_line form) ≡ true
form_lacks (Windowed One) = refl
form_lacks (Windowed Two) = refl
form_lacks Clausal = refl

pub field_lacks : (field : Field) (number : ℕ) → MayBe field number → lacks 10 (field_line field number) ≡ true
field_lacks field number may =
    list_all-append (λ other. not (eqb other 10)) (word_of field) (32 ∷ decimal number)
    ∙ and_from (lacks 10 (word_of field)) (lacks 10 (32 ∷ decimal number)) (word_lacks field) (decimal_lacks 10 number (omega arith) (small_number field number may))

-- the lines behind the visits
abbrev pub end_lines : Form → ℕ → ℕ → List (List ℕ)
end_lines form window live = window_lines form window ++ (live_lines form live ++ last_line form ∷ [])

ends_lack : (form : Form) (window live : ℕ) → MayBe Window window → MayBe Live live → list_all (lacks 10) (end_lines form window live) ≡ true
ends_lack (Windowed One) window live wide may = and_from (lacks 10 (field_line Window window)) true (field_lacks Window window wide) refl
ends_lack (Windowed Two) window live wide may =
    and_from (lacks 10 (field_line Window window)) _ (field_lacks Window window wide)
    (and_from (lacks 10 (field_line Live live)) true (field_lacks Live live may) refl)
ends_lack Clausal window live wide may = and_from (lacks 10 (field_line Live live)) true (field_lacks Live live may) refl

pub header_lacks : (number : ℕ) (header : Header) → MayBe Assertion number → IsHeader header → IsTrue (list_all (lacks 10) (header_lines number header))
header_lacks number header may is =
    and_from (lacks 10 (form_line header.form)) _ (form_lacks header.form)
    (and_from (lacks 10 (field_line Assertion number)) _ (field_lacks Assertion number may)
    (and_from (lacks 10 (field_line Visits header.visits)) _ (field_lacks Visits header.visits is.visits)
    (ends_lack header.form header.window header.live is.window is.live)))

-- they follow one another
ends_follow : (asked : Asked) (queries : Queries) (form : Form) (visits window live : ℕ) → MayBe Window window → MayBe Live live
    → (form ≡ Windowed One → live ≡ MOST_VARIABLES) → (form ≡ Clausal → window ≡ 1)
    → FollowAll asked queries (behind_visits form visits) (end_lines form window live)
    (behind_header (record { form = form; visits = visits; window = window; live = live }))
ends_follow asked queries (Windowed One) visits window live wide may first third =
    let same = sym (first refl) in (
      AtLast (record { form = Windowed One; visits = visits; window = window; live = MOST_VARIABLES }),
      (window, says_it Window window wide, refl),
      (
        InSection (record { form = Windowed One; visits = visits; window = window; live = MOST_VARIABLES }) [] Base [],
        (refl, refl),
        ap (λ (most : ℕ). InSection (record { form = Windowed One; visits = visits; window = window; live = most }) [] Base []) same,
      ),
    )
ends_follow asked queries (Windowed Two) visits window live wide may first third = (
  AtLive (Windowed Two) visits window,
  (window, says_it Window window wide, refl),
  (
    AtLast (record { form = Windowed Two; visits = visits; window = window; live = live }),
    (live, says_it Live live may, refl),
    (InSection (record { form = Windowed Two; visits = visits; window = window; live = live }) [] Base [], (refl, refl), refl),
  ),
)
ends_follow asked queries Clausal visits window live wide may first third =
    let same = sym (third refl) in (
      AtLast (record { form = Clausal; visits = visits; window = 1; live = live }),
      (live, says_it Live live may, refl),
      (
        InClauses (record { form = Clausal; visits = visits; window = 1; live = live }) [],
        (refl, refl),
        ap (λ (one : ℕ). InClauses (record { form = Clausal; visits = visits; window = one; live = live }) []) same,
      ),
    )

pub header_follows : (asked : Asked) (queries : Queries) (header : Header) → MayBe Assertion asked.number → asked.has_claim ≡ true → IsHeader header
    → FollowAll asked queries AtVersion (header_lines asked.number header) (behind_header header)
header_follows asked queries header may assertion is = (
  AtAssertion header.form,
  (header.form, refl, refl),
  (
    AtVisits header.form,
    (asked.number, says_it Assertion asked.number may, (refl, assertion), refl),
    (
      behind_visits header.form header.visits,
      (header.visits, says_it Visits header.visits is.visits, refl),
      ends_follow asked queries header.form header.visits header.window header.live is.window is.live is.first is.third,
    ),
  ),
)

-- a text that begins with a header goes on behind it
pub header_reaches : (asked : Asked) (queries : Queries) (text : List ℕ) (header : Header) → (has : HasHeader asked text header)
    → Reaches asked queries text (header_lines asked.number header) (behind_header header) has.rest
header_reaches asked queries text header has = record {
  is = has.is;
  whole = header_lacks asked.number header has.number has.numbers;
  follow = header_follows asked queries header has.number has.has_claim has.numbers;
}

-- the first lines of two texts that are one
peeled : (line other : List ℕ) (lines others : List (List ℕ)) (rest tail : List ℕ) → lacks 10 line ≡ true → lacks 10 other ≡ true
    → lines_text (line ∷ lines) ++ rest ≡ lines_text (other ∷ others) ++ tail → (line ≡ other) × (lines_text lines ++ rest ≡ lines_text others ++ tail)
peeled line other lines others rest tail one two same =
    let parts = split_once 10 line (10 ∷ (lines_text lines ++ rest)) other (10 ∷ (lines_text others ++ tail)) one two refl refl
    (sym (append_assoc line (10 ∷ lines_text lines) rest) ∙ same ∙ append_assoc other (10 ∷ lines_text others) tail) in
    let tails : lines_text lines ++ rest ≡ lines_text others ++ tail = (let end = parts.1 in cc) in
    (parts.0, tails)

same_number : (field : Field) (number other : ℕ) → MayBe field number → MayBe field other → field_line field number ≡ field_line field other → number ≡ other
same_number field number other one two same =
    says_once field (field_line field number) number other (says_it field number one) (record { is = same; may = two })

-- the lines behind the visits say one window and one number of live lemmas
same_ends : (form : Form) (window wider live other : ℕ) (rest tail : List ℕ) → MayBe Window window → MayBe Window wider → MayBe Live live → MayBe Live other
    → (form ≡ Windowed One → live ≡ MOST_VARIABLES) → (form ≡ Windowed One → other ≡ MOST_VARIABLES) → (form ≡ Clausal → window ≡ 1) → (form ≡ Clausal → wider ≡ 1)
    → lines_text (end_lines form window live) ++ rest ≡ lines_text (end_lines form wider other) ++ tail → (window ≡ wider) × (live ≡ other)
same_ends (Windowed One) window wider live other rest tail wide more one two first second third fourth same = (
  same_number Window window wider wide more
      (peeled (field_line Window window) (field_line Window wider) (codes "base" ∷ []) (codes "base" ∷ []) rest tail (field_lacks Window window wide) (field_lacks Window wider more) same).0,
  first refl ∙ sym (second refl),
)
same_ends (Windowed Two) window wider live other rest tail wide more one two first second third fourth same =
    let behind = field_line Live live ∷ codes "base" ∷ [] in
    let beyond = field_line Live other ∷ codes "base" ∷ [] in
    let here = peeled (field_line Window window) (field_line Window wider) behind beyond rest tail (field_lacks Window window wide) (field_lacks Window wider more) same in (
      same_number Window window wider wide more here.0,
      same_number Live live other one two
          (peeled (field_line Live live) (field_line Live other) (codes "base" ∷ []) (codes "base" ∷ []) rest tail (field_lacks Live live one) (field_lacks Live other two) here.1).0,
    )
same_ends Clausal window wider live other rest tail wide more one two first second third fourth same = (
  third refl ∙ sym (fourth refl),
  same_number Live live other one two
      (peeled (field_line Live live) (field_line Live other) (codes "clauses" ∷ []) (codes "clauses" ∷ []) rest tail (field_lacks Live live one) (field_lacks Live other two) same).0,
)

-- a header by its numbers
header_from : (header other : Header) → header.form ≡ other.form → header.visits ≡ other.visits → header.window ≡ other.window → header.live ≡ other.live → header ≡ other
header_from header other form visits window live =
    ap (λ (f : Form). record { form = f; visits = header.visits; window = header.window; live = header.live }) form
    ∙ ap (λ (n : ℕ). record { form = other.form; visits = n; window = header.window; live = header.live }) visits
    ∙ ap (λ (n : ℕ). record { form = other.form; visits = other.visits; window = n; live = header.live }) window
    ∙ ap (λ (n : ℕ). record { form = other.form; visits = other.visits; window = other.window; live = n }) live

pub header_once : (asked : Asked) (text : List ℕ) (header other : Header) → HasHeader asked text header → HasHeader asked text other → header ≡ other
header_once asked text header other one two =
    let whole = sym one.is ∙ two.is in
    let number = field_line Assertion asked.number in
    let visits = field_line Visits header.visits in
    let others = field_line Visits other.visits in
    let last = end_lines header.form header.window header.live in
    let end = end_lines other.form other.window other.live in
    let at_version = peeled (form_line header.form) (form_line other.form) (number ∷ (visits ∷ last)) (number ∷ (others ∷ end)) one.rest two.rest
    (form_lacks header.form) (form_lacks other.form) whole in
    let at_number = peeled number number (visits ∷ last) (others ∷ end) one.rest two.rest
    (field_lacks Assertion asked.number one.number) (field_lacks Assertion asked.number one.number) at_version.1 in
    let at_visits = peeled visits others last end one.rest two.rest
    (field_lacks Visits header.visits one.numbers.visits) (field_lacks Visits other.visits two.numbers.visits) at_number.1 in
    let form = form_once header.form other.form at_version.0 in
    let ends = same_ends other.form header.window other.window header.live other.live one.rest two.rest one.numbers.window two.numbers.window
    one.numbers.live two.numbers.live (λ is. one.numbers.first (form ∙ is)) two.numbers.first (λ is. one.numbers.third (form ∙ is)) two.numbers.third
    (subst (λ (f : Form). lines_text (end_lines f header.window header.live) ++ one.rest ≡ lines_text end ++ two.rest) form at_visits.1) in
    header_from header other form
    (same_number Visits header.visits other.visits one.numbers.visits two.numbers.visits at_visits.0) ends.0 ends.1
