-- Words, with and without a `!`: what is read stands there, and what stands there is read.
use Rattle.std.proofs.Common.{◌≡◌, ℕ, ◌+◌, ◌≤◌, Bool, true, false, not, ◌&&◌, List, [], ◌∷◌, ◌++◌, length, take, drop, Option, Some, None, nat_eq, refl, sym, ap, subst, ◌∙◌, inl, inr, ⊎_elim, append_assoc, length-append, arith}
use Rattle.std.proofs.Math.Seq.{take-append_seam, drop-append_seam}
use Rattle.std.proofs.lemmas.Bool.{not-true, eqb-true, cases_order}
use Rattle.std.proofs.lemmas.Bool.Decides.{nat_tests}
use Rattle.std.proofs.lemmas.List.{take-append-drop, take_at}
use Rattle.std.proofs.lemmas.List.Folds.{length-prefix_len}
use Rattle.std.specs.List.{prefix_len, list_all}
use Rattle.psl_lexer.specs.declared.kind.TokenKind.{TokenKind}
use Rattle.psl_lexer.specs.declared.front.Front.TheVariants as fronts
use Rattle.psl_lexer.specs.Bytes.{is_white, begins_name, continues_name}
use Rattle.psl_lexer.specs.Spellings.{Spellings, kind_in, strong_words, overlapping_words, word_kind}
use Rattle.psl_lexer.specs.Tokens.{Word, StrongWord, OverlappingWord, IsWord, IsToken, Stops}
use Rattle.psl_lexer.specs.Fronts.{Stands, Covers}
use Rattle.psl_lexer.specs.Reading.{begins, takes_strong, takes_overlapping, kind_where, longest_word, word_before, word_front, front_of}
use Rattle.psl_lexer.proofs.Runs.{both_pass, front_passes, front_stops, prefix_len-front, prefix_len-more}

-- a byte that begins a name may stand further on too
begins_continues : (b : ℕ) → begins_name b ≡ true → continues_name b ≡ true
unfolding continues_name
begins_continues b h = rw h refl

-- and it is no white space
pub begins_no_white : (b : ℕ) → begins_name b ≡ true → is_white b ≡ false
unfolding begins_name
begins_no_white b h = grind (arith, nat_tests)

word_continues : (word : List ℕ) → IsWord word → list_all continues_name word ≡ true
word_continues [] h = elim h [ ]
word_continues (first ∷ others) h = rw (begins_continues first h.0) h.1

-- the front of a text that begins with a letter is a word
word_is : (word after : List ℕ) (b : ℕ) (bs : List ℕ) → word ++ after ≡ b ∷ bs → begins_name b ≡ true → list_all continues_name word ≡ true → Stops continues_name after → IsWord word
word_is [] [] b bs is h passes stops = cc
word_is [] (x ∷ after) b bs is h passes stops =
    let first : x ≡ b = cc in
    let bad : continues_name b ≡ false = subst (λ (n : ℕ). continues_name n ≡ false) first stops in
    let good = begins_continues b h in
    cc
word_is (x ∷ word) after b bs is h passes stops =
    let first : b ≡ x = cc in
    (subst (λ (n : ℕ). begins_name n ≡ true) first h, (both_pass (continues_name x) (list_all continues_name word) passes).1)

where_some : (takes : Bool) (rows : Spellings) (word : List ℕ) (kind : TokenKind) → kind_where takes rows word ≡ Some kind → (takes ≡ true) × (kind_in rows word ≡ Some kind)
where_some true rows word kind h = (refl, h)
where_some false rows word kind h = cc

stops_where : (p : ℕ → Bool) (after : List ℕ) → not (begins p after) ≡ true → Stops p after
stops_where p [] h = tt
stops_where p (b ∷ after) h = not-true (p b) h

pub where_stops : (p : ℕ → Bool) (after : List ℕ) → Stops p after → begins p after ≡ false
where_stops p [] h = refl
where_stops p (b ∷ after) h = h

strong_end : (after : List ℕ) → takes_strong after ≡ true → (rest : List ℕ) × (after ≡ 33 ∷ rest) × Stops (λ byte. nat_eq byte 61) rest
strong_end [] h = cc
strong_end (b ∷ rest) h =
    let each = both_pass (nat_eq b 33) (not (begins (λ next. nat_eq next 61) rest)) h in
    (rest, rw (eqb-true b 33 each.0) refl, stops_where (λ next. nat_eq next 61) rest each.1)

overlapping_end : (after : List ℕ) → takes_overlapping after ≡ true → (rest : List ℕ) × (after ≡ 33 ∷ 95 ∷ rest) × Stops continues_name rest
overlapping_end [] h = cc
overlapping_end (b ∷ []) h = cc
overlapping_end (b ∷ c ∷ rest) h =
    let two = both_pass (nat_eq b 33 && nat_eq c 95) (not (begins continues_name rest)) h in
    let each = both_pass (nat_eq b 33) (nat_eq c 95) two.0 in
    (rest, rw (eqb-true b 33 each.0, eqb-true c 95 each.1) refl, stops_where continues_name rest two.1)

take_front : (word after : List ℕ) (n : ℕ) → n ≡ length word → take n (word ++ after) ≡ word
take_front word after n h = take_at word after n (sym h)

before_stands : (word after : List ℕ) → IsWord word → Stands (word ++ after) (word_before word after)
unfolding word_before
before_stands word after is_word =
    at (kind_where (takes_overlapping after) overlapping_words word) refl (kind_where (takes_strong after) strong_words word) refl where
      at : (o : Option TokenKind) → kind_where (takes_overlapping after) overlapping_words word ≡ o →
          (s : Option TokenKind) → kind_where (takes_strong after) strong_words word ≡ s →
          Stands (word ++ after) (longest_word o s (word_kind word) (length word))
      at (Some kind) o s t =
          let found = where_some (takes_overlapping after) overlapping_words word kind o in
          let end = overlapping_end after found.0 in
          let whole : word ++ after ≡ (word ++ 33 ∷ 95 ∷ []) ++ end.0 = ap (λ t. word ++ t) end.1 ∙ sym (append_assoc word (33 ∷ 95 ∷ []) end.0) in
          let size : length word + 2 ≡ length (word ++ 33 ∷ 95 ∷ []) = sym (length-append word (33 ∷ 95 ∷ [])) in (
            OverlappingWord word,
            record { after = end.0; is = whole; token = (is_word, found.1, end.2); len_is = size },
            refl,
            sym (ap (take (length word + 2)) whole ∙ take_front (word ++ 33 ∷ 95 ∷ []) end.0 (length word + 2) size),
          )
      at None o (Some kind) t =
          let found = where_some (takes_strong after) strong_words word kind t in
          let end = strong_end after found.0 in
          let whole : word ++ after ≡ (word ++ 33 ∷ []) ++ end.0 = ap (λ t. word ++ t) end.1 ∙ sym (append_assoc word (33 ∷ []) end.0) in
          let size : length word + 1 ≡ length (word ++ 33 ∷ []) = sym (length-append word (33 ∷ [])) in (
            StrongWord word,
            record { after = end.0; is = whole; token = (is_word, found.1, end.2); len_is = size },
            refl,
            sym (ap (take (length word + 1)) whole ∙ take_front (word ++ 33 ∷ []) end.0 (length word + 1) size),
          )
      at None o None t =
          (Word word, record { after = after; is = refl; token = (is_word, refl); len_is = refl }, refl, sym (take_front word after (length word) refl))

-- how many bytes of a list are taken
taken_len : (p : ℕ → Bool) (xs : List ℕ) → length (take (prefix_len p xs) xs) ≡ prefix_len p xs
taken_len p xs = length-prefix_len p xs

pub word_stands : (b : ℕ) (bs : List ℕ) → begins_name b ≡ true → Stands (b ∷ bs) (word_front (b ∷ bs))
unfolding word_front
word_stands b bs h =
    let n = prefix_len continues_name (b ∷ bs) in
    let split = take-append-drop n (b ∷ bs) in
    let is_word = word_is (take n (b ∷ bs)) (drop n (b ∷ bs)) b bs split h (front_passes continues_name (b ∷ bs)) (front_stops continues_name (b ∷ bs)) in
    subst (λ (rest : List ℕ). Stands rest (word_before (take n (b ∷ bs)) (drop n (b ∷ bs)))) split (before_stands (take n (b ∷ bs)) (drop n (b ∷ bs)) is_word)

-- where a text begins with a word, one is read
reads_word : (word after : List ℕ) → IsWord word → front_of (word ++ after) ≡ word_front (word ++ after)
unfolding front_of
reads_word [] after h = elim h [ ]
reads_word (first ∷ others) after h = rw (begins_no_white first h.0, h.0) refl

-- and the whole of it, where it ends
reads_whole : (word after : List ℕ) → IsWord word → Stops continues_name after → front_of (word ++ after) ≡ word_before word after
unfolding word_front
reads_whole word after is_word stops =
    let len = prefix_len-front continues_name word after (word_continues word is_word) stops in
    reads_word word after is_word ∙ rw (len, take-append_seam word after, drop-append_seam word after) refl

pub word_covers : (word after : List ℕ) (kind : TokenKind) → IsToken (Word word) kind after → Covers (word ++ after) (Word word) kind (front_of (word ++ after))
unfolding word_front word_before
word_covers word after kind token =
    let text = word ++ after in
    let n = prefix_len continues_name text in
    let more : length word ≤ n = prefix_len-more continues_name word after (word_continues word token.0) in
    let size = length-prefix_len continues_name text in
    rw (reads_word word after token.0) (at more size (kind_where (takes_overlapping (drop n text)) overlapping_words (take n text)) (kind_where (takes_strong (drop n text)) strong_words (take n text))) where
      at : length word ≤ prefix_len continues_name (word ++ after) → length (take (prefix_len continues_name (word ++ after)) (word ++ after)) ≡ prefix_len continues_name (word ++ after) → (o s : Option TokenKind) →
          Covers (word ++ after) (Word word) kind (longest_word o s (word_kind (take (prefix_len continues_name (word ++ after)) (word ++ after))) (length (take (prefix_len continues_name (word ++ after)) (word ++ after))))
      at more size (Some k) s = inl (omega (arith, more, size))
      at more size None (Some k) = inl (omega (arith, more, size))
      at more size None None =
          rw size
          (⊎_elim (λ e. inr (e, token.1 ∙ ap word_kind (sym (take_front word after (prefix_len continues_name (word ++ after)) (sym e))), refl, sym (take_front word after (prefix_len continues_name (word ++ after)) (sym e))))
          (λ o. inl (⊎_elim (λ lt. lt) (λ gt. absurd (omega (arith, more, gt))) o))
          (cases_order (length word) (prefix_len continues_name (word ++ after))))

pub strong_covers : (word after : List ℕ) (kind : TokenKind) → IsToken (StrongWord word) kind after → Covers ((word ++ 33 ∷ []) ++ after) (StrongWord word) kind (front_of ((word ++ 33 ∷ []) ++ after))
unfolding word_before continues_name begins_name
strong_covers word after kind token =
    let size : length (word ++ 33 ∷ []) ≡ length word + 1 = length-append word (33 ∷ []) in
    let takes : takes_strong (33 ∷ after) ≡ true = rw (where_stops (λ byte. nat_eq byte 61) after token.2) refl in
    let read : front_of ((word ++ 33 ∷ []) ++ after) ≡ longest_word (kind_where (takes_overlapping (33 ∷ after)) overlapping_words word) (Some kind) (word_kind word) (length word) =
    ap front_of (append_assoc word (33 ∷ []) after) ∙ reads_whole word (33 ∷ after) token.0 refl ∙ rw (takes, token.1) refl in
    rw read (at size (kind_where (takes_overlapping (33 ∷ after)) overlapping_words word)) where
      at : length (word ++ 33 ∷ []) ≡ length word + 1 → (o : Option TokenKind) → Covers ((word ++ 33 ∷ []) ++ after) (StrongWord word) kind (longest_word o (Some kind) (word_kind word) (length word))
      at size (Some k) = inl (omega (arith, size))
      at size None = inr (size, refl, refl, sym (take_front (word ++ 33 ∷ []) after (length word + 1) (sym size)))

pub overlapping_covers : (word after : List ℕ) (kind : TokenKind) → IsToken (OverlappingWord word) kind after → Covers ((word ++ 33 ∷ 95 ∷ []) ++ after) (OverlappingWord word) kind (front_of ((word ++ 33 ∷ 95 ∷ []) ++ after))
unfolding word_before continues_name begins_name
overlapping_covers word after kind token =
    let size : length (word ++ 33 ∷ 95 ∷ []) ≡ length word + 2 = length-append word (33 ∷ 95 ∷ []) in
    let takes : takes_overlapping (33 ∷ 95 ∷ after) ≡ true = rw (where_stops continues_name after token.2) refl in
    let read : front_of ((word ++ 33 ∷ 95 ∷ []) ++ after) ≡ fronts.Token kind (length word + 2) =
    ap front_of (append_assoc word (33 ∷ 95 ∷ []) after) ∙ reads_whole word (33 ∷ 95 ∷ after) token.0 refl ∙ rw (takes, token.1) refl in
    rw read (inr (size, refl, refl, sym (take_front (word ++ 33 ∷ 95 ∷ []) after (length word + 2) (sym size))))
