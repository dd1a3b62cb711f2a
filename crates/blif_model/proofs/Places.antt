-- The places of texts in a list that grows at its end.
use Rattle.std.proofs.Common.{◌≡◌, ℕ, ◌+◌, ◌<◌, Bool, true, false, cond, List, [], ◌∷◌, ◌++◌, length, Option, None, Some, is_none, refl, sym, ap, ◌∙◌, ⊎_elim, arith}
use Rattle.std.proofs.lemmas.Bool.{cases_Bool}
use Rattle.std.proofs.lemmas.Slice.Eq.{bytes_eq-Decides}
use Rattle.std.specs.List.{position_from}
use Rattle.std.specs.Prelude.{IfSome}
use Rattle.std.specs.Str.{bytes_eq}
use Rattle.blif_model.specs.Names.{place_of, is_new}

-- a text that fails the test, behind the others
position_from-failing : (test : List ℕ → Bool) (i : ℕ) (xs : List (List ℕ)) (x : List ℕ) → test x ≡ false → position_from test i (xs ++ x ∷ []) ≡ position_from test i xs
position_from-failing test i [] x fails = rw fails refl
position_from-failing test i (y ∷ ys) x fails = ap (λ rest. cond (test y) (Some i) rest) (position_from-failing test (i + 1) ys x fails)

by_head : (b : Bool) (i : ℕ) (old new result : Option ℕ) → cond b (Some i) old ≡ None → (old ≡ None → new ≡ result) → cond b (Some i) new ≡ result
by_head true i old new result none next = cc
by_head false i old new result none next = next none

-- the first text that passes the test, behind the others
position_from-passing : (test : List ℕ → Bool) (i n : ℕ) (xs : List (List ℕ)) (x : List ℕ) → n ≡ i + length xs → test x ≡ true → position_from test i xs ≡ None → position_from test i (xs ++ x ∷ []) ≡ Some n
position_from-passing test i n [] x at passes none = rw passes (ap Some (omega arith))
position_from-passing test i n (y ∷ ys) x at passes none =
    by_head (test y) i (position_from test (i + 1) ys) (position_from test (i + 1) (ys ++ x ∷ [])) (Some n) none
    (position_from-passing test (i + 1) n ys x (omega arith) passes)

pub none_from : (o : Option ℕ) → is_none o ≡ true → o ≡ None
none_from None _ = refl
none_from (Some n) e = cc

bytes_eq-true : (xs ys : List ℕ) → bytes_eq xs ys ≡ true → xs ≡ ys
bytes_eq-true xs ys = (bytes_eq-Decides xs ys).0

pub bytes_eq-sym_false : (xs ys : List ℕ) → bytes_eq xs ys ≡ false → bytes_eq ys xs ≡ false
bytes_eq-sym_false xs ys differ =
    ⊎_elim (λ same. absurd (let e : bytes_eq xs ys ≡ true = (bytes_eq-Decides xs ys).1 (sym (bytes_eq-true ys xs same)) in cc)) (λ other. other) (cases_Bool (bytes_eq ys xs))

pub bytes_eq-sym : (xs ys : List ℕ) → bytes_eq xs ys ≡ bytes_eq ys xs
bytes_eq-sym xs ys =
    ⊎_elim
    (λ same. let e : ys ≡ xs = sym (bytes_eq-true xs ys same) in same ∙ sym ((bytes_eq-Decides ys xs).1 e))
    (λ differ. differ ∙ sym (bytes_eq-sym_false xs ys differ))
    (cases_Bool (bytes_eq xs ys))

-- the place of each text, after a new one came behind the others
pub place_of-push : (texts : List (List ℕ)) (text query : List ℕ) (n : ℕ) → n ≡ length texts → is_new texts text ≡ true → cond (bytes_eq text query) (Some n) (place_of texts query) ≡ place_of (texts ++ text ∷ []) query
place_of-push texts text query n at new =
    ⊎_elim
    (λ same. let e : text ≡ query = bytes_eq-true text query same in
    let passes : bytes_eq query text ≡ true = (bytes_eq-Decides query text).1 (sym e) in
    let none : place_of texts query ≡ None = ap (place_of texts) (sym e) ∙ none_from (place_of texts text) new in
    rw same (sym (position_from-passing (λ other. bytes_eq query other) 0 n texts text (omega arith) passes none)))
    (λ differ. rw differ (sym (position_from-failing (λ other. bytes_eq query other) 0 texts text (bytes_eq-sym_false text query differ))))
    (cases_Bool (bytes_eq text query))

by_length : (b : Bool) (i n end : ℕ) (later : Option ℕ) → i < end → cond b (Some i) later ≡ Some n → (later ≡ Some n → n < end) → n < end
by_length true i n end later below found next = let same : i ≡ n = cc in omega arith
by_length false i n end later below found next = next found

position_from-high : (test : List ℕ → Bool) (i n end : ℕ) (xs : List (List ℕ)) → end ≡ i + length xs → position_from test i xs ≡ Some n → n < end
position_from-high test i n end [] at found = absurd (let no : None ≡ Some n = found in cc)
position_from-high test i n end (x ∷ xs) at found =
    by_length (test x) i n end (position_from test (i + 1) xs) (omega arith) found (position_from-high test (i + 1) n end xs (omega arith))

-- the place of a text is one of the list's
pub place_of-within : (texts : List (List ℕ)) (text : List ℕ) (n : ℕ) → place_of texts text ≡ Some n → n < length texts
place_of-within texts text n found = position_from-high (λ other. bytes_eq text other) 0 n (length texts) texts (omega arith) found

pub found-within : (texts : List (List ℕ)) (text : List ℕ) (found : Option ℕ) → found ≡ place_of texts text → IfSome found (λ number. number < length texts)
found-within texts text None is = tt
found-within texts text (Some number) is = place_of-within texts text number (sym is)

-- the place of a new text
pub place_of-new : (texts : List (List ℕ)) (text : List ℕ) (n : ℕ) → n ≡ length texts → place_of texts text ≡ None → place_of (texts ++ text ∷ []) text ≡ Some n
place_of-new texts text n at none = position_from-passing (λ other. bytes_eq text other) 0 n texts text (omega arith) ((bytes_eq-Decides text text).1 refl) none
