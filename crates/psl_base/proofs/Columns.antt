-- The place of a byte, one byte further.
use Rattle.std.proofs.Common.{◌≡◌, ℕ, ◌+◌, ◌<◌, ◌≤◌, suc, Bool, false, not, List, [], ◌∷◌, ◌++◌, length, get_or, take, reverse, nat_eq, refl, sym, ap, ◌∙◌, take-suc, add-one, arith}
use Rattle.std.proofs.lemmas.Bool.{eq-eqb, ne_eqb}
use Rattle.std.proofs.lemmas.List.{reverse-append, length-reverse, length-take}
use Rattle.std.proofs.lemmas.List.Sums.{prefix_len-le-length, count_by-le-length, count_by_more_yes, count_by_more_no}
use Rattle.std.specs.List.{prefix_len}
use Rattle.psl_base.specs.declared.place.Place.{Place}
use Rattle.psl_base.specs.Places.{place_at}

abbrev place_of : ℕ → ℕ → Place
place_of l c = record { line = l; column = c }

abbrev is_feed : ℕ → Bool
is_feed byte = nat_eq byte 10

-- a byte that ends no line
abbrev is_inline : ℕ → Bool
is_inline byte = not (nat_eq byte 10)

same_place : (l m c d : ℕ) → l ≡ m → c ≡ d → record { line = l; column = c } ≡ place_of m d
same_place l m c d h e = rw (h, e) refl

one_more : (n : ℕ) → suc n ≡ n + 1
one_more n = omega arith

column_feed : (bytes : List ℕ) → suc (prefix_len is_inline (reverse (bytes ++ 10 ∷ []))) ≡ 1
column_feed bytes = rw (reverse-append bytes (10 ∷ [])) refl

column_inline : (bytes : List ℕ) (b : ℕ) → nat_eq b 10 ≡ false → suc (prefix_len is_inline (reverse (bytes ++ b ∷ []))) ≡ suc (prefix_len is_inline (reverse bytes)) + 1
column_inline bytes b h = rw (reverse-append bytes (b ∷ [])) rw h (omega arith)

taken : (text : List ℕ) (at : ℕ) → at < length text → take (at + 1) text ≡ take at text ++ get_or text at 0 ∷ []
taken text at within = ap (λ n. take n text) (add-one at) ∙ take-suc text at 0 within

pub place_feed : (text : List ℕ) (at : ℕ) → at < length text → get_or text at 0 ≡ 10 → record { line = (place_at text at).line + 1; column = 1 } ≡ place_at text (at + 1)
place_feed text at within feed =
    let lines = count_by_more_yes is_feed text at 0 within (eq-eqb (get_or text at 0) 10 feed) in
    same_place ((place_at text at).line + 1) ((place_at text (at + 1)).line) 1 ((place_at text (at + 1)).column)
    (omega (arith, lines))
    (sym (ap (λ t. suc (prefix_len is_inline (reverse t))) (taken text at within ∙ ap (λ b. take at text ++ b ∷ []) feed) ∙ column_feed (take at text)))

pub place_inline : (text : List ℕ) (at : ℕ) → at < length text → (get_or text at 0 ≡ 10 → ⊥) → record { line = (place_at text at).line; column = (place_at text at).column + 1 } ≡ place_at text (at + 1)
place_inline text at within other =
    let no_feed = ne_eqb (get_or text at 0) 10 other in
    let lines = count_by_more_no is_feed text at 0 within no_feed in
    same_place ((place_at text at).line) ((place_at text (at + 1)).line) ((place_at text at).column + 1) ((place_at text (at + 1)).column)
    (ap suc (sym lines))
    (sym (ap (λ t. suc (prefix_len is_inline (reverse t))) (taken text at within) ∙ column_inline (take at text) (get_or text at 0) no_feed))

pub line_within : (text : List ℕ) (at : ℕ) → (place_at text at).line ≤ at + 1
line_within text at = let most = count_by-le-length is_feed (take at text) in let size = length-take at text in omega (arith, most, size)

pub column_within : (text : List ℕ) (at : ℕ) → (place_at text at).column ≤ at + 1
column_within text at =
    let most = prefix_len-le-length is_inline (reverse (take at text)) in
    let same = length-reverse (take at text) in
    let size = length-take at text in
    omega (arith, most, same, size)
