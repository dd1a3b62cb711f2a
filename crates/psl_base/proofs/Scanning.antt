-- Going over a text byte by byte, from the left.
use Rattle.std.proofs.Common.{◌≡◌, ℕ, suc, ◌+◌, ◌<◌, ◌≤◌, Bool, true, false, cond, List, [], ◌∷◌, ◌++◌, length, get_or, drop, refl, sym, ap, ◌∙◌, ◌-◌, add-one, arith, drop-cons, append_assoc}
use Rattle.std.proofs.lemmas.List.Edits.{between_more}
use Rattle.std.specs.List.{slice_range}
use Rattle.psl_base.specs.Bytes.{is_white}
use Rattle.psl_base.specs.Tokens.{PlacedToken, token_at, begins_token, onto_first, tokens_from}

-- white space before the first token is none of it
pub past_white : (bytes : List ℕ) (i : ℕ) → i < length bytes → is_white (get_or bytes i 0) ≡ true → tokens_from bytes i (drop i bytes) ≡ tokens_from bytes (i + 1) (drop (i + 1) bytes)
past_white bytes i in_range white = rw (add-one, drop-cons bytes i 0) rw white refl

-- more bytes before the first token, whose text they begin
abbrev pub onto_token : List ℕ → ℕ → List ℕ → List PlacedToken → List PlacedToken
onto_token whole at more [] = []
onto_token whole at more (t ∷ ts) = token_at whole at (more ++ t.text) ∷ ts

-- the tokens of a text whose first token has these bytes before place i, and what is left from there on
abbrev pub grown : List ℕ → ℕ → List ℕ → ℕ → List ℕ → List PlacedToken
grown whole start text i rest = cond (begins_token rest) (onto_token whole start text (tokens_from whole i rest)) (token_at whole start text ∷ tokens_from whole i rest)

onto_one : (whole : List ℕ) (at b : ℕ) (ts : List PlacedToken) → onto_first whole at b ts ≡ onto_token whole at (b ∷ []) ts
onto_one whole at b [] = refl
onto_one whole at b (t ∷ ts) = refl

onto_two : (whole : List ℕ) (start i b : ℕ) (text : List ℕ) (ts : List PlacedToken) → onto_token whole start text (onto_first whole i b ts) ≡ onto_token whole start (text ++ b ∷ []) ts
onto_two whole start i b text [] = refl
onto_two whole start i b text (t ∷ ts) = ap (λ more. token_at whole start more ∷ ts) (sym (append_assoc text (b ∷ []) t.text))

-- the first byte of a token
first_byte : (whole : List ℕ) (start b : ℕ) (rest : List ℕ) → is_white b ≡ false → tokens_from whole start (b ∷ rest) ≡ grown whole start (b ∷ []) (suc start) rest
first_byte whole start b rest part =
    rw part (ap (λ ts. cond (begins_token rest) ts (token_at whole start (b ∷ []) ∷ tokens_from whole (suc start) rest)) (onto_one whole start b (tokens_from whole (suc start) rest)))

-- one byte more of it
by_rest : (whole : List ℕ) (start i b : ℕ) (text : List ℕ) (ts : List PlacedToken) (more : Bool) →
    onto_token whole start text (cond more (onto_first whole i b ts) (token_at whole i (b ∷ []) ∷ ts)) ≡ cond more (onto_token whole start (text ++ b ∷ []) ts) (token_at whole start (text ++ b ∷ []) ∷ ts)
by_rest whole start i b text ts true = onto_two whole start i b text ts
by_rest whole start i b text ts false = refl

next_byte : (whole : List ℕ) (start i b : ℕ) (text rest : List ℕ) → is_white b ≡ false → grown whole start text i (b ∷ rest) ≡ grown whole start (text ++ b ∷ []) (suc i) rest
next_byte whole start i b text rest part = rw part (by_rest whole start i b text (tokens_from whole (suc i) rest) (begins_token rest))

-- one byte more of a part
part_more : (bytes : List ℕ) (start i : ℕ) → start ≤ i → i < length bytes → slice_range bytes start (i + 1) ≡ slice_range bytes start i ++ get_or bytes i 0 ∷ []
part_more bytes start i after in_range = between_more bytes start i 0 after in_range

pub starts_token : (bytes : List ℕ) (start : ℕ) → start < length bytes → is_white (get_or bytes start 0) ≡ false →
    tokens_from bytes start (drop start bytes) ≡ grown bytes start (slice_range bytes start (start + 1)) (start + 1) (drop (start + 1) bytes)
starts_token bytes start in_range part =
    let zero : start - start ≡ 0 = omega arith in
    let none : slice_range bytes start start ≡ [] = rw zero refl in
    let one : slice_range bytes start (start + 1) ≡ get_or bytes start 0 ∷ [] = part_more bytes start start (omega arith) in_range ∙ rw none refl in
    rw one rw (add-one, drop-cons bytes start 0) (first_byte bytes start (get_or bytes start 0) (drop (suc start) bytes) part)

pub grows_token : (bytes : List ℕ) (start i : ℕ) → start ≤ i → i < length bytes → is_white (get_or bytes i 0) ≡ false →
    grown bytes start (slice_range bytes start i) i (drop i bytes) ≡ grown bytes start (slice_range bytes start (i + 1)) (i + 1) (drop (i + 1) bytes)
grows_token bytes start i after in_range part =
    rw (part_more bytes start i after in_range, add-one, drop-cons bytes i 0) (next_byte bytes start i (get_or bytes i 0) (slice_range bytes start i) (drop (suc i) bytes) part)
