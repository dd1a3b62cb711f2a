-- A text, one line further.
use Rattle.std.proofs.Common.{◌≡◌, inl, inr, ◌∙◌, ap, sym, subst, ℕ, true, false, List, [], ◌∷◌, ◌++◌, arith, refl, append_assoc}
use Rattle.std.specs.Bool.{IsTrue}
use Rattle.std.specs.List.{list_all}
use Rattle.std.proofs.lemmas.Bool.{and_from}
use Rattle.std.proofs.lemmas.List.{length_push}
use Rattle.std.proofs.lemmas.List.Folds.{list_all-append}
use Rattle.clause_text.specs.Lines.{lacks}
use Rattle.cert_theory.specs.declared.answer.CertReason.{CertReason}
use Rattle.cert_theory.specs.declared.answer.CertReason.TheVariants.{BadHeader, BadLine, WrongAssertion, LemmaFails, NoEmptyClause, EndsInside, TrailingBytes, TooManyLive, BadDrop, BadClause}
use Rattle.cert_theory.specs.declared.header.Asked.{Asked}
use Rattle.cert_theory.specs.Lines.{lines_text}
use Rattle.cert_theory.specs.Phases.{Phase, Follows, IsRefusedLine}
use Rattle.cert_theory.specs.Phases.Phase.{AtVersion, AtEnd}
use Rattle.cert_theory.specs.Sections.{Queries}
use Rattle.cert_theory.specs.Texts.{FollowAll, IsRefusal, Reaches, RefusesLine, is_end}
use Rattle.cert_lines.specs.declared.reading.Reading.{Reading}
use Rattle.cert_lines.specs.declared.reading.Refusal.{Refusal}
use Rattle.cert_lines.specs.Readings.{IsAt, IsCutAt, IsRefusedBy, RefusesAs, Takes}

-- lines and one more
lines_push : (lines : List (List ℕ)) (line rest : List ℕ) → lines_text (lines ++ line ∷ []) ++ rest ≡ lines_text lines ++ (line ++ 10 ∷ rest)
lines_push [] line rest = append_assoc line (10 ∷ []) rest
lines_push (first ∷ lines) line rest =
    append_assoc first (10 ∷ lines_text (lines ++ line ∷ [])) rest
    ∙ ap (λ (text : List ℕ). first ++ 10 ∷ text) (lines_push lines line rest)
    ∙ sym (append_assoc first (10 ∷ lines_text lines) (line ++ 10 ∷ rest))

follow_push : (asked : Asked) (queries : Queries) (from phase next : Phase) (lines : List (List ℕ)) (line : List ℕ) → FollowAll asked queries from lines phase
    → Follows asked queries phase line next → FollowAll asked queries from (lines ++ line ∷ []) next
follow_push asked queries from phase next [] line follow here =
    (next, subst (λ (p : Phase). Follows asked queries p line next) (sym follow) here, refl)
follow_push asked queries from phase next (first ∷ lines) line follow here =
    (follow.0, follow.1, follow_push asked queries follow.0 phase next lines line follow.2 here)

-- where nothing was read
pub at_begin : (asked : Asked) (queries : Queries) (reading : Reading) → reading.line ≡ 1 → IsAt asked queries reading.rest.now AtVersion reading
at_begin asked queries reading first = record { lines = []; reaches = record { is = refl; whole = refl; follow = refl }; number = first }

-- one line further
pub at_next : (asked : Asked) (queries : Queries) (text : List ℕ) (phase next : Phase) (line : List ℕ) (old new : Reading) → IsAt asked queries text phase old
    → Takes line old new → Follows asked queries phase line next → IsAt asked queries text next new
at_next asked queries text phase next line old new at takes follows = record {
  lines = at.lines ++ line ∷ [];
  reaches = record {
    is = at.reaches.is ∙ ap (λ (rest : List ℕ). lines_text at.lines ++ rest) takes.is ∙ sym (lines_push at.lines line new.rest.now);
    whole = list_all-append (lacks 10) at.lines (line ∷ []) ∙ and_from (list_all (lacks 10) at.lines) (list_all (lacks 10) (line ∷ [])) at.reaches.whole (and_from (lacks 10 line) true takes.whole refl);
    follow = follow_push asked queries AtVersion phase next at.lines line at.reaches.follow follows;
  };
  number = omega (arith, at.number, takes.number, length_push at.lines line);
}

-- where no line feed is left
pub cut_at : (asked : Asked) (queries : Queries) (text : List ℕ) (phase : Phase) (reading : Reading) (refusal : Refusal) → IsAt asked queries text phase reading
    → is_end phase ≡ false → IsCutAt reading refusal → RefusesAs asked queries text refusal
cut_at asked queries text phase reading refusal at more cut =
    subst (λ (reason : CertReason). IsRefusal asked queries text reason refusal.line) (sym cut.reason) (record {
      lines = at.lines;
      phase = phase;
      rest = reading.rest.now;
      reaches = at.reaches;
      inside = cut.inside;
      more = more;
      number_is = cut.line ∙ at.number;
    })

-- a line that is refused
refusal_of : (asked : Asked) (queries : Queries) (text : List ℕ) (reason : CertReason) (number : ℕ) → RefusesLine asked queries text reason number
    → IsRefusal asked queries text reason number
refusal_of asked queries text BadHeader number refuses = refuses
refusal_of asked queries text BadLine number refuses = refuses
refusal_of asked queries text WrongAssertion number refuses = refuses
refusal_of asked queries text LemmaFails number refuses = refuses
refusal_of asked queries text NoEmptyClause number refuses = refuses
refusal_of asked queries text EndsInside number refuses = absurd refuses.refused
refusal_of asked queries text TrailingBytes number refuses = absurd refuses.refused
refusal_of asked queries text TooManyLive number refuses = refuses
refusal_of asked queries text BadDrop number refuses = refuses
refusal_of asked queries text BadClause number refuses = refuses

pub refused_next : (asked : Asked) (queries : Queries) (text : List ℕ) (phase : Phase) (reading : Reading) (line behind : List ℕ) (reason : CertReason) (number : ℕ)
    → IsAt asked queries text phase reading → reading.rest.now ≡ line ++ 10 ∷ behind → IsTrue (lacks 10 line) → IsRefusedLine asked queries phase line reason
    → number ≡ reading.line → IsRefusal asked queries text reason number
refused_next asked queries text phase reading line behind reason number at is whole refused here = refusal_of asked queries text reason number (record {
  lines = at.lines;
  phase = phase;
  line = line;
  behind = behind;
  reaches = record {
    is = at.reaches.is ∙ ap (λ (rest : List ℕ). lines_text at.lines ++ rest) is;
    whole = at.reaches.whole;
    follow = at.reaches.follow;
  };
  whole = whole;
  refused = refused;
  number_is = here ∙ at.number;
})

-- by a rule that the phase has
pub refused_by : (asked : Asked) (queries : Queries) (text : List ℕ) (phase : Phase) (rule : List ℕ → CertReason → Type 0) (reading : Reading) (refusal : Refusal)
    → IsAt asked queries text phase reading → is_end phase ≡ false → ((line : List ℕ) (reason : CertReason) → rule line reason → IsRefusedLine asked queries phase line reason)
    → IsRefusedBy rule reading refusal → RefusesAs asked queries text refusal
refused_by asked queries text phase rule reading refusal at more of (inl cut) = cut_at asked queries text phase reading refusal at more cut
refused_by asked queries text phase rule reading refusal at more of (inr next) =
    refused_next asked queries text phase reading next.line next.behind refusal.reason refusal.line at next.is next.whole (of next.line refusal.reason next.refused) next.number

-- behind the last line
pub ends_passed : (asked : Asked) (queries : Queries) (text rest : List ℕ) (lines : List (List ℕ)) → Reaches asked queries text lines AtEnd rest → rest ≡ []
    → Reaches asked queries text lines AtEnd []
ends_passed asked queries text rest lines reaches none = subst (λ (r : List ℕ). Reaches asked queries text lines AtEnd r) none reaches
