-- Texts that a blank or a line feed ends.
use Rattle.std.proofs.Common.{◌≡◌, ◌∙◌, ap, sym, ℕ, zero, suc, ◌<◌, ◌^◌, ℤ, pos, negsuc, true, not, eqb, leb, List, [], ◌∷◌, ◌++◌, length, drop, get_or, arith, refl, append_assoc}
use Rattle.std.specs.Prelude.{decimal}
use Rattle.std.specs.Fmt.{signed_decimal}
use Rattle.std.specs.Bool.{IsTrue}
use Rattle.std.specs.List.{list_all}
use Rattle.std.proofs.lemmas.Bool.{and_parts, and_from, false≢true, eq-eqb, ne_eqb, leb-true}
use Rattle.std.proofs.lemmas.Fmt.{signed_decimal_injective}
use Rattle.psl_base.specs.Bytes.{is_digit}
use lib.Signed.{mag}
use Rattle.std.proofs.lemmas.List.Folds.{list_all-append}
use Rattle.clauses.specs.Literals.{is_literal, clause_within}
use Rattle.clauses.specs.declared.flat.TheConstants.{MOST_VARIABLES}
use Rattle.clause_text.specs.Lines.{lacks, literals_text}
use Rattle.clause_text.specs.Words.{Ends, Begins}
use Rattle.clause_text.proofs.Numerals.{AreDigits, decimal_are_digits, number_parts}

-- the mark does not stand in a text that lacks it
not_mark : (mark byte : ℕ) (text : List ℕ) → lacks mark (byte ∷ text) ≡ true → byte ≡ mark → ⊥
not_mark mark byte text none same =
    let parts = and_parts (not (eqb byte mark)) (lacks mark text) none in
    false≢true (sym (ap not (eq-eqb byte mark same)) ∙ parts.0)

lacks_rest : (mark byte : ℕ) (text : List ℕ) → lacks mark (byte ∷ text) ≡ true → lacks mark text ≡ true
lacks_rest mark byte text none = (and_parts (not (eqb byte mark)) (lacks mark text) none).1

-- a mark, or nothing, comes next
abbrev pub EndsAt : ℕ → List ℕ → Type 0
EndsAt mark [] = Unit {0}
EndsAt mark (byte ∷ text) = byte ≡ mark

-- a text falls apart in one way at its first mark
pub split_once : (mark : ℕ) (first behind second rest : List ℕ) → lacks mark first ≡ true → lacks mark second ≡ true → EndsAt mark behind → EndsAt mark rest →
    first ++ behind ≡ second ++ rest → (first ≡ second) × (behind ≡ rest)
split_once mark [] behind [] rest none also end finish same = (refl, same)
split_once mark [] [] (byte ∷ second) rest none also end finish same = cc
split_once mark [] (next ∷ behind) (byte ∷ second) rest none also end finish same =
    let heads : next ≡ byte = cc in
    absurd (not_mark mark byte second also (sym heads ∙ end))
split_once mark (byte ∷ first) behind [] [] none also end finish same = cc
split_once mark (byte ∷ first) behind [] (next ∷ rest) none also end finish same =
    let heads : byte ≡ next = cc in
    absurd (not_mark mark byte first none (heads ∙ finish))
split_once mark (byte ∷ first) behind (other ∷ second) rest none also end finish same =
    let heads : byte ≡ other = cc in
    let tails : first ++ behind ≡ second ++ rest = cc in
    let more = split_once mark first behind second rest (lacks_rest mark byte first none) (lacks_rest mark other second also) end finish tails in
    (ap (λ b. b ∷ first) heads ∙ ap (λ bs. other ∷ bs) more.0, more.1)

-- digits are neither blanks nor line feeds
digits_lack : (mark : ℕ) (text : List ℕ) → mark < 48 → AreDigits text → lacks mark text ≡ true
digits_lack mark [] low digits = refl
digits_lack mark (byte ∷ text) low digits =
    let parts = and_parts _ (list_all _ text) digits in
    and_from (not (eqb byte mark)) (lacks mark text) (ap not (ne_eqb byte mark (λ same. above byte parts.0 same))) (digits_lack mark text low parts.1)
  where
    above : (b : ℕ) → is_digit b ≡ true → b ≡ mark → ⊥
    above b digit same = let least = leb-true 48 b (and_parts (leb 48 b) (leb b 57) digit).0 in omega arith

pub decimal_lacks : (mark number : ℕ) → mark < 48 → number < 2 ^ 64 → lacks mark (decimal number) ≡ true
decimal_lacks mark number low small = digits_lack mark (decimal number) low (decimal_are_digits number small)

pub literal_lacks : (mark : ℕ) (literal : ℤ) → mark < 45 → is_literal literal ≡ true → lacks mark (signed_decimal literal) ≡ true
literal_lacks mark (pos n) low some = decimal_lacks mark n (omega arith) (omega (arith, (number_parts n some).1))
literal_lacks mark (negsuc n) low some =
    and_from (not (eqb 45 mark)) (lacks mark (decimal (suc n))) (ap not (ne_eqb 45 mark (λ same. omega arith)))
    (decimal_lacks mark (suc n) (omega arith) (omega (arith, (number_parts (suc n) some).1)))

-- literals, each with a blank behind it
abbrev pub front : List ℤ → List ℕ
front [] = []
front (literal ∷ literals) = signed_decimal literal ++ 32 ∷ front literals

pub front_push : (literals : List ℤ) (literal : ℤ) (rest : List ℕ) → front (literals ++ literal ∷ []) ++ rest ≡ front literals ++ (signed_decimal literal ++ 32 ∷ rest)
front_push [] literal rest = append_assoc (signed_decimal literal) (32 ∷ []) rest
front_push (first ∷ literals) literal rest =
    append_assoc (signed_decimal first) (32 ∷ front (literals ++ literal ∷ [])) rest
    ∙ ap (λ bs. signed_decimal first ++ 32 ∷ bs) (front_push literals literal rest)
    ∙ sym (append_assoc (signed_decimal first) (32 ∷ front literals) (signed_decimal literal ++ 32 ∷ rest))

pub front_zero : (literals : List ℤ) (behind : List ℕ) → front literals ++ 48 ∷ behind ≡ literals_text literals ++ behind
front_zero [] behind = refl
front_zero (first ∷ literals) behind =
    append_assoc (signed_decimal first) (32 ∷ front literals) (48 ∷ behind)
    ∙ ap (λ bs. signed_decimal first ++ 32 ∷ bs) (front_zero literals behind)
    ∙ sym (append_assoc (signed_decimal first) (32 ∷ literals_text literals) behind)

ends_at : (text : List ℕ) → Ends text → EndsAt 32 text
ends_at [] end = tt
ends_at (byte ∷ text) end = end

-- the first word of literals with a 0 behind them
pub no_literals : (word behind rest : List ℕ) → lacks 32 word ≡ true → Ends behind → Ends rest → word ++ behind ≡ literals_text [] ++ rest → (word ≡ 48 ∷ []) × (behind ≡ rest)
no_literals word behind rest none end finish same = split_once 32 word behind (48 ∷ []) rest none refl (ends_at behind end) (ends_at rest finish) same

pub first_literal : (word behind rest : List ℕ) (literal : ℤ) (literals : List ℤ) → lacks 32 word ≡ true → Ends behind → is_literal literal ≡ true →
    word ++ behind ≡ literals_text (literal ∷ literals) ++ rest → (word ≡ signed_decimal literal) × (behind ≡ 32 ∷ (literals_text literals ++ rest))
first_literal word behind rest literal literals none end some same =
    split_once 32 word behind (signed_decimal literal) (32 ∷ (literals_text literals ++ rest)) none (literal_lacks 32 literal (omega arith) some) (ends_at behind end) refl
    (same ∙ append_assoc (signed_decimal literal) (32 ∷ literals_text literals) rest)

pub within_parts : (literal : ℤ) (literals : List ℤ) → IsTrue (clause_within MOST_VARIABLES (literal ∷ literals)) → (is_literal literal ≡ true) × IsTrue (clause_within MOST_VARIABLES literals)
within_parts literal literals all = and_parts (is_literal literal) (clause_within MOST_VARIABLES literals) all

-- what is left of a line goes on with the literals that were not read yet
abbrev pub GoesOn : List ℕ → List ℤ → List ℕ → Type 0
GoesOn line read rest = (behind : List ℕ) (literals : List ℤ) → Begins line behind literals → (more : List ℤ) × (literals ≡ read ++ more) × Begins rest behind more

pub begins_all : (line : List ℕ) → GoesOn line [] line
begins_all line behind literals begins = (literals, refl, begins)

-- no word that is neither 0 nor a literal begins what is left
pub bad_word : (line rest word behind : List ℕ) (read : List ℤ) → GoesOn line read rest → rest ≡ word ++ behind → lacks 32 word ≡ true → Ends behind →
    (word ≡ 48 ∷ [] → ⊥) → ((literal : ℤ) → is_literal literal ≡ true → word ≡ signed_decimal literal → ⊥) →
    (other : List ℕ) (literals : List ℤ) → Begins line other literals → ⊥
bad_word line rest word behind read goes is none end not_zero bad other literals begins =
    let next = goes other literals begins in
    by_more next.0 next.2
  where
    by_more : (more : List ℤ) → Begins rest other more → ⊥
    by_more [] left = not_zero (no_literals word behind other none end left.ends (sym is ∙ left.is)).0
    by_more (literal ∷ more) left =
        let some = within_parts literal more left.within in
        bad literal some.0 (first_literal word behind other literal more none end some.0 (sym is ∙ left.is)).0

-- nor does a literal at its end
pub no_blank : (line rest word : List ℕ) (read : List ℤ) → GoesOn line read rest → rest ≡ word ++ [] → lacks 32 word ≡ true → (word ≡ 48 ∷ [] → ⊥) →
    (other : List ℕ) (literals : List ℤ) → Begins line other literals → ⊥
no_blank line rest word read goes is none not_zero other literals begins =
    let next = goes other literals begins in
    by_more next.0 next.2
  where
    by_more : (more : List ℤ) → Begins rest other more → ⊥
    by_more [] left = not_zero (no_literals word [] other none tt left.ends (sym is ∙ left.is)).0
    by_more (literal ∷ more) left =
        let some = within_parts literal more left.within in
        let behind = (first_literal word [] other literal more none tt some.0 (sym is ∙ left.is)).1 in
        cc

pub mag_small : (literal : ℤ) → is_literal literal ≡ true → mag literal < 2 ^ 63
mag_small (pos n) some = omega (arith, (number_parts n some).1)
mag_small (negsuc n) some = omega (arith, (number_parts (suc n) some).1)

-- one literal more was read
pub goes_next : (line rest word next : List ℕ) (read : List ℤ) (literal : ℤ) → GoesOn line read rest → rest ≡ word ++ 32 ∷ next → lacks 32 word ≡ true →
    (word ≡ 48 ∷ [] → ⊥) → is_literal literal ≡ true → word ≡ signed_decimal literal → GoesOn line (read ++ literal ∷ []) next
goes_next line rest word next read literal goes is none not_zero some says = λ behind literals begins.
    let left = goes behind literals begins in
    by_more behind literals left.0 left.1 left.2
  where
    by_more : (behind : List ℕ) (literals more : List ℤ) → literals ≡ read ++ more → Begins rest behind more → (others : List ℤ) × (literals ≡ (read ++ literal ∷ []) ++ others) × Begins next behind others
    by_more behind literals [] all left = absurd (not_zero (no_literals word (32 ∷ next) behind none refl left.ends (sym is ∙ left.is)).0)
    by_more behind literals (first ∷ more) all left =
        let fits = within_parts first more left.within in
        let split = first_literal word (32 ∷ next) behind first more none refl fits.0 (sym is ∙ left.is) in
        let same : first ≡ literal = signed_decimal_injective first literal (mag_small first fits.0) (mag_small literal some) (sym split.0 ∙ says) in
        let tail : next ≡ literals_text more ++ behind = cc in (
          more,
          all ∙ ap (λ l. read ++ l ∷ more) same ∙ sym (append_assoc read (literal ∷ []) more),
          record { is = tail; within = fits.1; ends = left.ends },
        )

-- what stands behind a word that a blank or the end ends
pub ends_behind : (text : List ℕ) (place : ℕ) → (place < length text → get_or text place 0 ≡ 32) → Ends (drop place text)
ends_behind [] zero blank = tt
ends_behind [] (suc place) blank = tt
ends_behind (byte ∷ text) zero blank = blank (omega arith)
ends_behind (byte ∷ text) (suc place) blank = ends_behind text place (λ within. blank (omega arith))

pub within_push : (literals : List ℤ) (literal : ℤ) → IsTrue (clause_within MOST_VARIABLES literals) → is_literal literal ≡ true → IsTrue (clause_within MOST_VARIABLES (literals ++ literal ∷ []))
within_push literals literal all here =
    list_all-append is_literal literals (literal ∷ []) ∙ and_from (clause_within MOST_VARIABLES literals) (clause_within MOST_VARIABLES (literal ∷ [])) all (and_from (is_literal literal) true here refl)
