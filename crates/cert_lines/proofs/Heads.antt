-- A header, line by line.
use Rattle.std.proofs.Common.{◌≡◌, inl, inr, ◌∙◌, ap, sym, subst, ℕ, true, false, List, [], ◌∷◌, ◌++◌, arith, refl, append_assoc}
use Rattle.clauses.specs.declared.flat.TheConstants.{MOST_VARIABLES}
use Rattle.cert_theory.specs.declared.answer.CertReason.{CertReason}
use Rattle.cert_theory.specs.declared.answer.CertReason.TheVariants.{BadHeader}
use Rattle.cert_theory.specs.declared.header.Asked.{Asked}
use Rattle.cert_theory.specs.declared.header.Field.{Field}
use Rattle.cert_theory.specs.declared.header.Field.TheVariants.{Assertion, Visits, Window, Live}
use Rattle.cert_theory.specs.declared.header.Header.{Header}
use Rattle.cert_theory.specs.declared.header.Form.{Form}
use Rattle.cert_theory.specs.declared.header.Form.TheVariants.{Windowed, Clausal}
use Rattle.cert_theory.specs.declared.header.Version.TheVariants.{One, Two}
use Rattle.cert_theory.specs.Headers.{HasHeader, MayBe}
use Rattle.cert_theory.specs.Lines.{field_line, form_line, last_line, lines_text, live_lines, window_lines}
use Rattle.cert_theory.specs.Phases.{Phase, IsMisshapen, IsRefusedLine, behind_header, behind_visits, behind_window}
use Rattle.cert_theory.specs.Phases.Phase.{AtVersion, AtAssertion, AtVisits, AtWindow, AtLive, AtLast}
use Rattle.cert_theory.specs.Sections.{Queries}
use Rattle.cert_theory.specs.Texts.{is_end}
use Rattle.cert_lines.specs.declared.reading.Reading.{Reading}
use Rattle.cert_lines.specs.declared.reading.Refusal.{Refusal}
use Rattle.cert_lines.specs.Fields.{GivesForm, GivesLive, GivesNumber, GivesWindow, IsAskedFor, IsNoAsked, IsNoForm, IsNoLast, IsNoLive, IsNoNumber, IsNoWindow}
use Rattle.cert_lines.specs.Readings.{IsAt, IsRefusedBy, RefusesAs, Takes}
use Rattle.cert_lines.proofs.Blocking.{blocked_by, is_head, no_header}
use Rattle.cert_lines.proofs.Moving.{at_next, refused_by}

-- any formulas
pub no_queries : Queries
no_queries = record {
  base = λ visits window. record { variables = 0; clauses = [] };
  induction = λ visits window. record { variables = 0; clauses = [] };
  initial = λ visits clauses. record { variables = 0; clauses = [] };
  step = λ visits clauses. record { variables = 0; clauses = [] };
  bad = λ visits clauses. record { variables = 0; clauses = [] };
  width = λ visits. 0;
}

-- a refusal, and that the text has no header
abbrev pub IsRefusedHead : Asked → Queries → List ℕ → Refusal → Type 0
IsRefusedHead asked queries text refusal =
    RefusesAs asked queries text refusal × ((header : Header) → HasHeader asked text header → ⊥)

-- how far a text was read
module _ (asked : Asked) (queries : Queries) (text : List ℕ) where
  pub after_form : (form : Form) (old new : Reading) → IsAt asked queries text AtVersion old → GivesForm form old new
      → IsAt asked queries text (AtAssertion form) new
  after_form form old new at gives =
      at_next asked queries text AtVersion (AtAssertion form) (form_line form) old new at gives (form, refl, refl)

  pub after_asked : (form : Form) (old new : Reading) → IsAt asked queries text (AtAssertion form) old → IsAskedFor asked old new
      → IsAt asked queries text (AtVisits form) new
  after_asked form old new at gives =
      at_next asked queries text (AtAssertion form) (AtVisits form) gives.2.0 old new at gives.2.2 (gives.0, gives.2.1, gives.1, refl)

  pub after_visits : (form : Form) (visits : ℕ) (old new : Reading) → IsAt asked queries text (AtVisits form) old → GivesNumber Visits visits old new
      → IsAt asked queries text (behind_visits form visits) new
  after_visits form visits old new at gives =
      at_next asked queries text (AtVisits form) (behind_visits form visits) gives.0 old new at gives.2 (visits, gives.1, refl)

  pub after_window : (form : Form) (visits window : ℕ) (old new : Reading) → IsAt asked queries text (behind_visits form visits) old
      → GivesWindow form window old new → IsAt asked queries text (behind_window form visits window) new
  after_window (Windowed version) visits window old new at gives =
      at_next asked queries text (AtWindow (Windowed version) visits) (behind_window (Windowed version) visits window) gives.0 old new at gives.2 (window, gives.1, refl)
  after_window Clausal visits window old new at gives =
      subst (λ (r : Reading). IsAt asked queries text (AtLive Clausal visits window) r) (sym gives.1)
      (subst (λ (one : ℕ). IsAt asked queries text (AtLive Clausal visits one) old) (sym gives.0) at)

  pub after_live : (form : Form) (visits window live : ℕ) (old new : Reading) → IsAt asked queries text (behind_window form visits window) old
      → GivesLive form live old new → IsAt asked queries text (AtLast (record { form = form; visits = visits; window = window; live = live })) new
  after_live (Windowed One) visits window live old new at gives =
      subst (λ (r : Reading). IsAt asked queries text (AtLast (record { form = Windowed One; visits = visits; window = window; live = live })) r) (sym gives.1)
      (subst (λ (most : ℕ). IsAt asked queries text (AtLast (record { form = Windowed One; visits = visits; window = window; live = most })) old) (sym gives.0) at)
  after_live (Windowed Two) visits window live old new at gives =
      at_next asked queries text (AtLive (Windowed Two) visits window) (AtLast (record { form = Windowed Two; visits = visits; window = window; live = live })) gives.0 old new at gives.2
      (live, gives.1, refl)
  after_live Clausal visits window live old new at gives =
      at_next asked queries text (AtLive Clausal visits window) (AtLast (record { form = Clausal; visits = visits; window = window; live = live })) gives.0 old new at gives.2
      (live, gives.1, refl)

  pub after_last : (header : Header) (old new : Reading) → IsAt asked queries text (AtLast header) old → Takes (last_line header.form) old new
      → IsAt asked queries text (behind_header header) new
  after_last header old new at takes = at_next asked queries text (AtLast header) (behind_header header) (last_line header.form) old new at takes (refl, refl)

  -- what is refused
  misshapen : (phase : Phase) (line : List ℕ) (reason : CertReason) → reason ≡ BadHeader → IsMisshapen phase line → IsRefusedLine asked queries phase line reason
  misshapen phase line reason is bad = subst (λ (r : CertReason). IsRefusedLine asked queries phase line r) (sym is) bad

  no_asked : (form : Form) (line : List ℕ) (reason : CertReason) → IsNoAsked asked line reason → IsRefusedLine asked queries (AtAssertion form) line reason
  no_asked form line reason (inl bad) = misshapen (AtAssertion form) line reason bad.0 bad.1
  no_asked form line reason (inr wrong) =
      subst (λ (r : CertReason). IsRefusedLine asked queries (AtAssertion form) line r) (sym wrong.0) (wrong.1, wrong.2, wrong.3)

  refused_head : (phase : Phase) (rule : List ℕ → CertReason → Type 0) (reading : Reading) (refusal : Refusal) → IsAt asked queries text phase reading
      → is_end phase ≡ false → is_head phase ≡ true → ((line : List ℕ) (reason : CertReason) → rule line reason → IsRefusedLine asked queries phase line reason)
      → IsRefusedBy rule reading refusal → IsRefusedHead asked queries text refusal
  refused_head phase rule reading refusal at more head of by = (
    refused_by asked queries text phase rule reading refusal at more of by,
    no_header asked queries text phase reading at head (blocked_by asked queries phase rule reading refusal of by),
  )

  pub refuses_form : (reading : Reading) (refusal : Refusal) → IsAt asked queries text AtVersion reading → IsRefusedBy IsNoForm reading refusal
      → IsRefusedHead asked queries text refusal
  refuses_form reading refusal at by =
      refused_head AtVersion IsNoForm reading refusal at refl refl (λ line reason bad. misshapen AtVersion line reason bad.0 bad.1) by

  pub refuses_asked : (form : Form) (reading : Reading) (refusal : Refusal) → IsAt asked queries text (AtAssertion form) reading
      → IsRefusedBy (IsNoAsked asked) reading refusal → IsRefusedHead asked queries text refusal
  refuses_asked form reading refusal at by =
      refused_head (AtAssertion form) (IsNoAsked asked) reading refusal at refl refl (no_asked form) by

  pub refuses_visits : (form : Form) (reading : Reading) (refusal : Refusal) → IsAt asked queries text (AtVisits form) reading
      → IsRefusedBy (IsNoNumber Visits) reading refusal → IsRefusedHead asked queries text refusal
  refuses_visits form reading refusal at by =
      refused_head (AtVisits form) (IsNoNumber Visits) reading refusal at refl refl
      (λ line reason bad. misshapen (AtVisits form) line reason bad.0 bad.1) by

  pub refuses_window : (form : Form) (visits : ℕ) (reading : Reading) (refusal : Refusal) → IsAt asked queries text (behind_visits form visits) reading
      → IsRefusedBy (IsNoWindow form) reading refusal → IsRefusedHead asked queries text refusal
  refuses_window (Windowed version) visits reading refusal at by =
      refused_head (AtWindow (Windowed version) visits) (IsNoWindow (Windowed version)) reading refusal at refl refl
      (λ line reason bad. misshapen (AtWindow (Windowed version) visits) line reason bad.0 bad.1) by
  refuses_window Clausal visits reading refusal at by =
      refused_head (behind_visits Clausal visits) (IsNoWindow Clausal) reading refusal at refl refl (λ line reason bad. absurd bad) by

  pub refuses_live : (form : Form) (visits window : ℕ) (reading : Reading) (refusal : Refusal) → IsAt asked queries text (behind_window form visits window) reading
      → IsRefusedBy (IsNoLive form) reading refusal → IsRefusedHead asked queries text refusal
  refuses_live (Windowed One) visits window reading refusal at by =
      refused_head (behind_window (Windowed One) visits window) (IsNoLive (Windowed One)) reading refusal at refl refl (λ line reason bad. absurd bad) by
  refuses_live (Windowed Two) visits window reading refusal at by =
      refused_head (AtLive (Windowed Two) visits window) (IsNoLive (Windowed Two)) reading refusal at refl refl
      (λ line reason bad. misshapen (AtLive (Windowed Two) visits window) line reason bad.0 bad.1) by
  refuses_live Clausal visits window reading refusal at by =
      refused_head (AtLive Clausal visits window) (IsNoLive Clausal) reading refusal at refl refl
      (λ line reason bad. misshapen (AtLive Clausal visits window) line reason bad.0 bad.1) by

  pub refuses_last : (header : Header) (reading : Reading) (refusal : Refusal) → IsAt asked queries text (AtLast header) reading
      → IsRefusedBy (IsNoLast header.form) reading refusal → IsRefusedHead asked queries text refusal
  refuses_last header reading refusal at by =
      refused_head (AtLast header) (IsNoLast header.form) reading refusal at refl refl (λ line reason bad. misshapen (AtLast header) line reason bad.0 bad.1) by

-- a text by its first line and what is behind
first_then : (text line rest last : List ℕ) (lines : List (List ℕ)) → text ≡ line ++ 10 ∷ rest → rest ≡ lines_text lines ++ last → text ≡ lines_text (line ∷ lines) ++ last
first_then text line rest last lines is more =
    is ∙ ap (λ (behind : List ℕ). line ++ 10 ∷ behind) more ∙ sym (append_assoc line (10 ∷ lines_text lines) last)

-- what the lines of a header say
pub record HeaderLines (asked : Asked) (header : Header) (r0 r1 r2 r3 r4 r5 r6 : Reading) : Type 0 where
  pub form : GivesForm header.form r0 r1
  pub asked_for : IsAskedFor asked r1 r2
  pub visits : GivesNumber Visits header.visits r2 r3
  pub window : GivesWindow header.form header.window r3 r4
  pub live : GivesLive header.form header.live r4 r5
  pub last : Takes (last_line header.form) r5 r6

window_may : (form : Form) (window : ℕ) (old new : Reading) → GivesWindow form window old new → MayBe Window window
window_may (Windowed version) window old new gives = gives.1.may
window_may Clausal window old new gives = record { least = omega (arith, gives.0); most = omega (arith, gives.0) }

window_third : (form : Form) (window : ℕ) (old new : Reading) → GivesWindow form window old new → form ≡ Clausal → window ≡ 1
window_third (Windowed version) window old new gives is = cc
window_third Clausal window old new gives is = gives.0

live_may : (form : Form) (live : ℕ) (old new : Reading) → GivesLive form live old new → MayBe Live live
live_may (Windowed One) live old new gives = record { least = omega arith; most = omega (arith, gives.0) }
live_may (Windowed Two) live old new gives = gives.1.may
live_may Clausal live old new gives = gives.1.may

live_first : (form : Form) (live : ℕ) (old new : Reading) → GivesLive form live old new → form ≡ Windowed One → live ≡ MOST_VARIABLES
live_first (Windowed One) live old new gives is = gives.0
live_first (Windowed Two) live old new gives is = let other : Two ≡ One = cc in cc
live_first Clausal live old new gives is = cc

-- the lines from one place on
number_then : (field : Field) (number : ℕ) (old new last : Reading) (lines : List (List ℕ)) → GivesNumber field number old new
    → new.rest.now ≡ lines_text lines ++ last.rest.now → old.rest.now ≡ lines_text (field_line field number ∷ lines) ++ last.rest.now
number_then field number old new last lines gives more =
    first_then old.rest.now (field_line field number) new.rest.now last.rest.now lines
    (gives.2.is ∙ ap (λ (line : List ℕ). line ++ 10 ∷ new.rest.now) gives.1.is) more

last_then : (form : Form) (old last : Reading) → Takes (last_line form) old last → old.rest.now ≡ lines_text (last_line form ∷ []) ++ last.rest.now
last_then form old last takes = first_then old.rest.now (last_line form) last.rest.now last.rest.now [] takes.is refl

live_then : (form : Form) (live : ℕ) (old new last : Reading) (lines : List (List ℕ)) → GivesLive form live old new
    → new.rest.now ≡ lines_text lines ++ last.rest.now → old.rest.now ≡ lines_text (live_lines form live ++ lines) ++ last.rest.now
live_then (Windowed One) live old new last lines gives more = subst (λ (r : Reading). r.rest.now ≡ lines_text lines ++ last.rest.now) gives.1 more
live_then (Windowed Two) live old new last lines gives more = number_then Live live old new last lines gives more
live_then Clausal live old new last lines gives more = number_then Live live old new last lines gives more

window_then : (form : Form) (window : ℕ) (old new last : Reading) (lines : List (List ℕ)) → GivesWindow form window old new
    → new.rest.now ≡ lines_text lines ++ last.rest.now → old.rest.now ≡ lines_text (window_lines form window ++ lines) ++ last.rest.now
window_then (Windowed version) window old new last lines gives more = number_then Window window old new last lines gives more
window_then Clausal window old new last lines gives more = subst (λ (r : Reading). r.rest.now ≡ lines_text lines ++ last.rest.now) gives.1 more

pub has_header : (asked : Asked) (header : Header) (r0 r1 r2 r3 r4 r5 r6 : Reading) → HeaderLines asked header r0 r1 r2 r3 r4 r5 r6 → HasHeader asked r0.rest.now header
has_header asked header r0 r1 r2 r3 r4 r5 r6 all =
    let number = all.asked_for.1.0 in
    let gives = all.asked_for.2 in
    let end = last_line header.form ∷ [] in
    let behind = window_lines header.form header.window ++ (live_lines header.form header.live ++ end) in
    record {
      number = subst (λ (n : ℕ). MayBe Assertion n) number gives.1.may;
      has_claim = all.asked_for.1.1;
      numbers = record {
        visits = all.visits.1.may;
        window = window_may header.form header.window r3 r4 all.window;
        live = live_may header.form header.live r4 r5 all.live;
        first = live_first header.form header.live r4 r5 all.live;
        third = window_third header.form header.window r3 r4 all.window;
      };
      rest = r6.rest.now;
      is = first_then r0.rest.now (form_line header.form) r1.rest.now r6.rest.now
          (field_line Assertion asked.number ∷ field_line Visits header.visits ∷ behind) all.form.is
          (first_then r1.rest.now (field_line Assertion asked.number) r2.rest.now r6.rest.now (field_line Visits header.visits ∷ behind)
          (gives.2.is ∙ ap (λ (line : List ℕ). line ++ 10 ∷ r2.rest.now) (gives.1.is ∙ ap (field_line Assertion) number))
          (number_then Visits header.visits r2 r3 r6 behind all.visits
          (window_then header.form header.window r3 r4 r6 (live_lines header.form header.live ++ end) all.window
          (live_then header.form header.live r4 r5 r6 end all.live (last_then header.form r5 r6 all.last)))));
    }
