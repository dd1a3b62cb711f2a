-- The tokens of a text stand in it where they say.
use Rattle.std.proofs.Common.{◌≡◌, ℕ, suc, zero, ◌+◌, ◌<◌, ◌≤◌, Bool, true, false, cond, List, [], ◌∷◌, length, take, drop, refl, sym, ap, ◌∙◌, arith, length-drop}
use Rattle.std.proofs.lemmas.Bool.{not-true, cond-false}
use Rattle.psl_base.specs.Bytes.{is_white}
use Rattle.psl_base.specs.Tokens.{PlacedToken, token_at, begins_token, onto_first, tokens_from, tokens}

-- the token's bytes are those of the text at its place
pub record IsPlaced (bytes : List ℕ) (t : PlacedToken) : Type 0 where
  pub within : t.at + length t.text ≤ length bytes
  pub same : take (length t.text) (drop t.at bytes) ≡ t.text

abbrev pub ArePlaced : List ℕ → List PlacedToken → Type 0
ArePlaced bytes [] = Unit {0}
ArePlaced bytes (t ∷ ts) = IsPlaced bytes t × ArePlaced bytes ts

-- what is left of a text after one more byte
pub rest_after : (bytes rest : List ℕ) (b at : ℕ) → drop at bytes ≡ b ∷ rest → drop (suc at) bytes ≡ rest
rest_after [] rest b zero here = absurd (let no : [] ≡ b ∷ rest = here in cc)
rest_after [] rest b (suc n) here = absurd (let no : [] ≡ b ∷ rest = here in cc)
rest_after (x ∷ xs) rest b zero here = cc
rest_after (x ∷ xs) rest b (suc n) here = rest_after xs rest b n here

one_left : (bytes rest : List ℕ) (b at : ℕ) → drop at bytes ≡ b ∷ rest → at < length bytes
one_left bytes rest b at here = let sized = length-drop at bytes in let some = ap length here in omega (arith, sized, some)

at_first : (whole : List ℕ) (at b : ℕ) (all : List PlacedToken) (begins : Bool) (t : PlacedToken) (ts : List PlacedToken) → cond begins (onto_first whole at b all) (token_at whole at (b ∷ []) ∷ all) ≡ t ∷ ts → t.at ≡ at
at_first whole at b [] true t ts here = absurd (let no : [] ≡ t ∷ ts = here in cc)
at_first whole at b (x ∷ xs) true t ts here = let same : token_at whole at (b ∷ x.text) ≡ t = cc in ap (λ (token : PlacedToken). token.at) (sym same)
at_first whole at b all false t ts here = let same : token_at whole at (b ∷ []) ≡ t = cc in ap (λ (token : PlacedToken). token.at) (sym same)

-- the first token begins at the first byte, if that is one of a token
begins_here : (whole : List ℕ) (at : ℕ) (bs : List ℕ) → begins_token bs ≡ true → (t : PlacedToken) (ts : List PlacedToken) → tokens_from whole at bs ≡ t ∷ ts → t.at ≡ at
begins_here whole at [] begins t ts here = cc
begins_here whole at (b ∷ bs) begins t ts here =
    let part : is_white b ≡ false = not-true (is_white b) begins in
    at_first whole at b (tokens_from whole (suc at) bs) (begins_token bs) t ts (sym (cond-false (is_white b) _ _ part) ∙ here)

placed_onto : (bytes rest : List ℕ) (b at : ℕ) (ts : List PlacedToken) → drop at bytes ≡ b ∷ rest → ((t : PlacedToken) (more : List PlacedToken) → ts ≡ t ∷ more → t.at ≡ suc at) → ArePlaced bytes ts → ArePlaced bytes (onto_first bytes at b ts)
placed_onto bytes rest b at [] here first placed = tt
placed_onto bytes rest b at (t ∷ ts) here first placed =
    let next : t.at ≡ suc at = first t ts refl in
    let after : drop t.at bytes ≡ rest = ap (λ n. drop n bytes) next ∙ rest_after bytes rest b at here in
    let low = placed.0.within in
    let same = rw after at placed.0.same in
    (record { within = omega (arith, low, next); same = rw here (ap (λ (text : List ℕ). b ∷ text) same) }, placed.1)

by_byte : (bytes rest : List ℕ) (b at : ℕ) (ts : List PlacedToken) (white begins : Bool) → drop at bytes ≡ b ∷ rest → (begins ≡ true → (t : PlacedToken) (more : List PlacedToken) → ts ≡ t ∷ more → t.at ≡ suc at) → ArePlaced bytes ts →
    ArePlaced bytes (cond white ts (cond begins (onto_first bytes at b ts) (token_at bytes at (b ∷ []) ∷ ts)))
by_byte bytes rest b at ts true begins here first placed = placed
by_byte bytes rest b at ts false true here first placed = placed_onto bytes rest b at ts here (first refl) placed
by_byte bytes rest b at ts false false here first placed =
    let some = one_left bytes rest b at here in
    (record { within = omega (arith, some); same = rw here refl }, placed)

placed_from : (bytes : List ℕ) (at : ℕ) (bs : List ℕ) → drop at bytes ≡ bs → ArePlaced bytes (tokens_from bytes at bs)
placed_from bytes at [] here = tt
placed_from bytes at (b ∷ bs) here =
    by_byte bytes bs b at (tokens_from bytes (suc at) bs) (is_white b) (begins_token bs) here (begins_here bytes (suc at) bs) (placed_from bytes (suc at) bs (rest_after bytes bs b at here))

pub placed : (bytes : List ℕ) → ArePlaced bytes (tokens bytes)
placed bytes = placed_from bytes 0 bytes refl

-- there are no more tokens than bytes
length-onto_first : (whole : List ℕ) (at b : ℕ) (ts : List PlacedToken) → length (onto_first whole at b ts) ≡ length ts
length-onto_first whole at b [] = refl
length-onto_first whole at b (t ∷ ts) = refl

by_count : (whole : List ℕ) (at b n : ℕ) (ts : List PlacedToken) (white begins : Bool) → length ts ≤ n → length (cond white ts (cond begins (onto_first whole at b ts) (token_at whole at (b ∷ []) ∷ ts))) ≤ suc n
by_count whole at b n ts true begins few = omega (arith, few)
by_count whole at b n ts false true few = omega (arith, few, length-onto_first whole at b ts)
by_count whole at b n ts false false few = omega (arith, few)

length-tokens_from : (whole : List ℕ) (at : ℕ) (bs : List ℕ) → length (tokens_from whole at bs) ≤ length bs
length-tokens_from whole at [] = omega arith
length-tokens_from whole at (b ∷ bs) = by_count whole at b (length bs) (tokens_from whole (suc at) bs) (is_white b) (begins_token bs) (length-tokens_from whole (suc at) bs)

pub length-tokens : (bytes : List ℕ) → length (tokens bytes) ≤ length bytes
length-tokens bytes = length-tokens_from bytes 0 bytes
