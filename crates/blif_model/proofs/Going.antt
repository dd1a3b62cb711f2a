-- Going over a text piece by piece, from the left.
use Rattle.std.proofs.Common.{◌≡◌, ℕ, ◌+◌, ◌<◌, ◌≤◌, Bool, true, false, cond, List, [], ◌∷◌, length, get_or, drop, refl, sym, ap, ◌∙◌, eqb, add-one, arith, drop-cons, length-drop, add-zero}
use Rattle.std.proofs.lemmas.List.{drop_all, get_or-drop}
use Rattle.psl_base.specs.Bytes.{is_white}
use Rattle.blif_model.specs.declared.class.Class.{Class}
use Rattle.blif_model.specs.declared.class.Class.TheVariants.{LineFeed, White, Comment, Join, Stray, Part}
use Rattle.blif_model.specs.Pieces.{class_of, class_of_backslash, goes_on, Piece, LineEnd, with_byte, pieces_from}

-- the class of the byte at a place
abbrev pub class_in : List ℕ → ℕ → Class
class_in text at = class_of (get_or text at 0) (drop (at + 1) text)

-- the pieces from a place on, outside comments and inside
abbrev pub outside : List ℕ → ℕ → List Piece
outside text at = pieces_from text at false (drop at text)

abbrev pub inside : List ℕ → ℕ → List Piece
inside text at = pieces_from text at true (drop at text)

-- one byte
pub at-byte : (text : List ℕ) (at : ℕ) → at < length text
    → outside text at ≡ with_byte text (class_in text at) at (get_or text at 0) (goes_on (drop (at + 1) text)) (outside text (at + 1)) (inside text (at + 1))
at-byte text at within = rw (add-one, drop-cons text at 0) refl

pub past-white : (text : List ℕ) (at : ℕ) → at < length text → class_in text at ≡ White → outside text at ≡ outside text (at + 1)
past-white text at within white = at-byte text at within ∙ rw white refl

pub into-comment : (text : List ℕ) (at : ℕ) → at < length text → class_in text at ≡ Comment → outside text at ≡ inside text (at + 1)
into-comment text at within comment = at-byte text at within ∙ rw comment refl

pub at-line_end : (text : List ℕ) (at : ℕ) → at < length text → class_in text at ≡ LineFeed → outside text at ≡ LineEnd ∷ outside text (at + 1)
at-line_end text at within feed = at-byte text at within ∙ rw feed refl

-- a comment goes on up to the line's end
pub in-comment : (text : List ℕ) (at : ℕ) → at < length text → eqb (get_or text at 0) 10 ≡ false → inside text at ≡ inside text (at + 1)
in-comment text at within other = rw (add-one, drop-cons text at 0) rw other refl

line_feed : (bs : List ℕ) (b : ℕ) → eqb b 10 ≡ true → class_of b bs ≡ LineFeed
line_feed bs b feed = rw feed refl

pub out-comment : (text : List ℕ) (at : ℕ) → at < length text → eqb (get_or text at 0) 10 ≡ true → inside text at ≡ outside text at
out-comment text at within feed =
    let here : inside text at ≡ LineEnd ∷ outside text (at + 1) = rw (add-one, drop-cons text at 0) rw feed refl in
    here ∙ sym (at-line_end text at within (line_feed (drop (at + 1) text) (get_or text at 0) feed))

pub at-end : (text : List ℕ) (at : ℕ) (commented : Bool) → length text ≤ at → pieces_from text at commented (drop at text) ≡ []
at-end text at true past = rw (drop_all at text past) refl
at-end text at false past = rw (drop_all at text past) refl

by-tests : (feed white hash back : Bool) (class : Class) → cond feed LineFeed (cond white White (cond hash Comment (cond back class Part))) ≡ Join → class ≡ Join
by-tests true white hash back class join = cc
by-tests false true hash back class join = cc
by-tests false false true back class join = cc
by-tests false false false true class join = join
by-tests false false false false class join = cc

by-feed : (feed : Bool) → cond feed Join Part ≡ Join → feed ≡ true
by-feed true join = refl
by-feed false join = cc

no-stray : (feed : Bool) → cond feed Stray Part ≡ Join → ⊥
no-stray true join = cc
no-stray false join = cc

-- a backslash that joins has a line's end and more behind it
joins : (bs : List ℕ) → class_of_backslash bs ≡ Join → (1 < length bs) × (eqb (get_or bs 0 0) 10 ≡ true)
joins [] join = cc
joins (b ∷ []) join = absurd (no-stray (eqb b 10) join)
joins (b ∷ c ∷ rest) join = (omega arith, by-feed (eqb b 10) join)

pub past-join : (text : List ℕ) (at : ℕ) → at < length text → class_in text at ≡ Join → (at + 2 ≤ length text) × (outside text at ≡ outside text (at + 2))
past-join text at within join =
    let b = get_or text at 0 in
    let bs = drop (at + 1) text in
    let behind = joins bs (by-tests (eqb b 10) (is_white b) (eqb b 35) (eqb b 92) (class_of_backslash bs) join) in
    let size = length-drop (at + 1) text in
    let next : at + 1 < length text = omega (arith, behind.0) in
    let feed : eqb (get_or text (at + 1) 0) 10 ≡ true = ap (λ byte. eqb byte 10) (sym (get_or-drop (at + 1) text 0 0 ∙ ap (λ k. get_or text k 0) (add-zero (at + 1)))) ∙ behind.1 in
    let two : at + 1 + 1 ≡ at + 2 = omega arith in (
      omega (arith, behind.0),
      at-byte text at within ∙ rw join (ap (drop 1) (at-line_end text (at + 1) next (line_feed (drop (at + 1 + 1) text) (get_or text (at + 1) 0) feed)) ∙ ap (outside text) two),
    )
