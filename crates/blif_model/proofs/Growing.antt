-- A word that grows byte by byte.
use Rattle.std.proofs.Common.{◌≡◌, ℕ, ◌+◌, ◌<◌, ◌≤◌, Bool, true, false, cond, List, [], ◌∷◌, ◌++◌, length, get_or, drop, refl, sym, ap, ◌∙◌, ◌-◌, add-one, arith, drop-cons, append_assoc}
use Rattle.std.proofs.lemmas.List.Edits.{between_more}
use Rattle.std.specs.List.{slice_range}
use Rattle.psl_base.specs.Tokens.{token_at}
use Rattle.blif_model.specs.declared.class.Class.TheVariants.{Part}
use Rattle.blif_model.specs.Pieces.{is_part, goes_on, Piece, Word, LineEnd, Backslash, onto_word, pieces_from}
use Rattle.blif_model.proofs.Going.{class_in, outside, at-byte}

-- more bytes before the first word, whose text they begin
abbrev pub onto_text : List ℕ → ℕ → List ℕ → List Piece → List Piece
onto_text whole at more (Word t ∷ pieces) = Word (token_at whole at (more ++ t.text)) ∷ pieces
onto_text whole at more pieces = pieces

-- the pieces of a text whose first word has these bytes before place i, and what is left from there on
abbrev pub grown : List ℕ → ℕ → List ℕ → ℕ → List ℕ → List Piece
grown whole start text i rest = cond (goes_on rest) (onto_text whole start text (pieces_from whole i false rest)) (Word (token_at whole start text) ∷ pieces_from whole i false rest)

onto_one : (whole : List ℕ) (at b : ℕ) (pieces : List Piece) → onto_word whole at b pieces ≡ onto_text whole at (b ∷ []) pieces
onto_one whole at b [] = refl
onto_one whole at b (Word t ∷ pieces) = refl
onto_one whole at b (LineEnd ∷ pieces) = refl
onto_one whole at b (Backslash place ∷ pieces) = refl

onto_two : (whole : List ℕ) (start i b : ℕ) (text : List ℕ) (pieces : List Piece) → onto_text whole start text (onto_word whole i b pieces) ≡ onto_text whole start (text ++ b ∷ []) pieces
onto_two whole start i b text [] = refl
onto_two whole start i b text (Word t ∷ pieces) = ap (λ more. Word (token_at whole start more) ∷ pieces) (sym (append_assoc text (b ∷ []) t.text))
onto_two whole start i b text (LineEnd ∷ pieces) = refl
onto_two whole start i b text (Backslash place ∷ pieces) = refl

by_rest : (whole : List ℕ) (start i b : ℕ) (text : List ℕ) (pieces : List Piece) (more : Bool) →
    onto_text whole start text (cond more (onto_word whole i b pieces) (Word (token_at whole i (b ∷ [])) ∷ pieces)) ≡ cond more (onto_text whole start (text ++ b ∷ []) pieces) (Word (token_at whole start (text ++ b ∷ [])) ∷ pieces)
by_rest whole start i b text pieces true = onto_two whole start i b text pieces
by_rest whole start i b text pieces false = refl

part_more : (bytes : List ℕ) (start i : ℕ) → start ≤ i → i < length bytes → slice_range bytes start (i + 1) ≡ slice_range bytes start i ++ get_or bytes i 0 ∷ []
part_more bytes start i after in_range = between_more bytes start i 0 after in_range

pub starts_word : (text : List ℕ) (start : ℕ) → start < length text → class_in text start ≡ Part
    → outside text start ≡ grown text start (slice_range text start (start + 1)) (start + 1) (drop (start + 1) text)
starts_word text start within part =
    let zero : start - start ≡ 0 = omega arith in
    let none : slice_range text start start ≡ [] = rw zero refl in
    let one : slice_range text start (start + 1) ≡ get_or text start 0 ∷ [] = part_more text start start (omega arith) within ∙ rw none refl in
    let rest = drop (start + 1) text in
    let first : outside text start ≡ cond (goes_on rest) (onto_word text start (get_or text start 0) (outside text (start + 1))) (Word (token_at text start (get_or text start 0 ∷ [])) ∷ outside text (start + 1)) = at-byte text start within ∙ rw part refl in
    rw one (first ∙ ap (λ (pieces : List Piece). cond (goes_on rest) pieces (Word (token_at text start (get_or text start 0 ∷ [])) ∷ outside text (start + 1))) (onto_one text start (get_or text start 0) (outside text (start + 1))))

goes-on : (text : List ℕ) (i : ℕ) → i < length text → goes_on (drop i text) ≡ is_part (class_in text i)
goes-on text i within = rw (add-one, drop-cons text i 0) refl

pub grows_word : (text : List ℕ) (start i : ℕ) → start ≤ i → i < length text → class_in text i ≡ Part
    → grown text start (slice_range text start i) i (drop i text) ≡ grown text start (slice_range text start (i + 1)) (i + 1) (drop (i + 1) text)
grows_word text start i after within part =
    let b = get_or text i 0 in
    let rest = drop (i + 1) text in
    let grownup = slice_range text start i in
    let on : goes_on (drop i text) ≡ true = goes-on text i within ∙ ap is_part part in
    let next : outside text i ≡ cond (goes_on rest) (onto_word text i b (outside text (i + 1))) (Word (token_at text i (b ∷ [])) ∷ outside text (i + 1)) =
    at-byte text i within ∙ rw part refl in
    let whole : grown text start grownup i (drop i text) ≡ onto_text text start grownup (outside text i) =
    ap (λ (more : Bool). cond more (onto_text text start grownup (outside text i)) (Word (token_at text start grownup) ∷ outside text i)) on in
    whole
    ∙ ap (onto_text text start grownup) next
    ∙ by_rest text start i b grownup (outside text (i + 1)) (goes_on rest)
    ∙ ap (λ (word : List ℕ). grown text start word (i + 1) rest) (sym (part_more text start i after within))
