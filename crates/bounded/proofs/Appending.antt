-- What is put behind a list part by part.
use Rattle.std.proofs.Common.{◌≡◌, ℕ, suc, ◌+◌, ◌-◌, ◌<◌, ◌≤◌, List, [], ◌∷◌, ◌++◌, map, Err, Ok, refl, sym, ap, ◌∙◌, arith, append_assoc, drop, length, get_or}
use Rattle.std.specs.List.{flat_map, range_with_len}
use Rattle.std.specs.Prelude.{Result}
use Rattle.std.proofs.lemmas.List.{append-nil, drop_more}
use Rattle.clauses.specs.declared.flat.CnfFault.{CnfFault}
use Rattle.bounded.specs.Adding.{Appends}

-- the numbers of a range from one of them on
pub range-next : (i n : ℕ) → i < n → range_with_len i (n - i) ≡ i ∷ range_with_len (i + 1) (n - (i + 1))
range-next i n low = let e : n - i ≡ suc (n - (i + 1)) = omega arith in ap (range_with_len i) e

pub range-none : (n : ℕ) → range_with_len n (n - n) ≡ []
range-none n = let e : n - n ≡ 0 = omega arith in ap (range_with_len n) e

pub range-whole : (n : ℕ) → range_with_len 0 (n - 0) ≡ range_with_len 0 n
range-whole n = let e : n - 0 ≡ n = omega arith in ap (range_with_len 0) e

-- parts for the numbers of a range, as far as they are put
pub record Left {X : Type 0} (f : ℕ → List X) (old mid : List X) (i n : ℕ) : Type 0 where
  pub left : mid ++ flat_map f (range_with_len i (n - i)) ≡ old ++ flat_map f (range_with_len 0 n)

-- parts for the members of a list, as far as they are put
pub record Rest {X : Type 0} (f : ℕ → List X) (old mid : List X) (i : ℕ) (xs : List ℕ) : Type 0 where
  pub left : mid ++ flat_map f (drop i xs) ≡ old ++ flat_map f xs

pub singles : {X : Type 0} (f : ℕ → X) (xs : List ℕ) → flat_map (λ x. f x ∷ []) xs ≡ map f xs
singles f [] = refl
singles f (x ∷ xs) = ap (λ l. f x ∷ l) (singles f xs)

module _ {X : Type 0} (size : List X → ℕ) (most : ℕ) (grows : (xs ys : List X) → size xs ≤ size (xs ++ ys)) where
  -- some parts are put, and the rest of all is left
  pub appends-step : (old mid new part rest all : List X) → mid ++ (part ++ rest) ≡ old ++ all → Appends size most mid new part (Ok tt) → new ++ rest ≡ old ++ all
  appends-step old mid new part rest all left put = ap (λ l. l ++ rest) put.ok ∙ append_assoc mid part rest ∙ left

  pub appends-fail : (old mid new part rest all : List X) (fault : CnfFault) → mid ++ (part ++ rest) ≡ old ++ all → Appends size most mid new part (Err fault)
      → Appends size most old new all (Err fault)
  appends-fail old mid new part rest all fault left failed = record {
    ok = tt;
    large = λ e. (let more = grows (mid ++ part) rest in
        let same : size ((mid ++ part) ++ rest) ≡ size (old ++ all) = ap size (append_assoc mid part rest ∙ left) in
        omega (arith, failed.large e, more, same));
  }

  pub appends-end : (old mid all : List X) → mid ++ [] ≡ old ++ all → Appends size most old mid all (Ok tt)
  appends-end old mid all left = record { ok = sym (append-nil mid) ∙ left; large = tt }

  -- one part behind the other
  pub appends-then : (old mid new first more : List X) (result : Result (Unit {0}) CnfFault) → Appends size most old mid first (Ok tt) → Appends size most mid new more result
      → Appends size most old new (first ++ more) result
  appends-then old mid new first more (Ok other) one two = record {
    ok = two.ok ∙ ap (λ l. l ++ more) one.ok ∙ append_assoc old first more;
    large = tt;
  }
  appends-then old mid new first more (Err fault) one two = record {
    ok = tt;
    large = λ e. (let same : size (mid ++ more) ≡ size (old ++ (first ++ more)) = ap size (ap (λ l. l ++ more) one.ok ∙ append_assoc old first more) in
        omega (arith, two.large e, same));
  }

  pub appends-first : (old new first more : List X) (fault : CnfFault) → Appends size most old new first (Err fault) → Appends size most old new (first ++ more) (Err fault)
  appends-first old new first more fault failed = record {
    ok = tt;
    large = λ e. (let more_is = grows (old ++ first) more in
        let same : size ((old ++ first) ++ more) ≡ size (old ++ (first ++ more)) = ap size (append_assoc old first more) in
        omega (arith, failed.large e, more_is, same));
  }

  -- memory is refused
  pub appends-refused : (old new all : List X) (fault : CnfFault) → (fault ≡ CnfFault.TooLarge → ⊥) → Appends size most old new all (Err fault)
  appends-refused old new all fault other = record { ok = tt; large = λ e. absurd (other e) }

  module _ (f : ℕ → List X) (n : ℕ) where
    pub left-start : (old : List X) → Left f old old 0 n
    left-start old = record { left = ap (λ r. old ++ flat_map f r) (range-whole n) }

    here : (old mid : List X) (i : ℕ) → i < n → Left f old mid i n
        → mid ++ (f i ++ flat_map f (range_with_len (i + 1) (n - (i + 1)))) ≡ old ++ flat_map f (range_with_len 0 n)
    here old mid i low before = sym (ap (λ r. mid ++ flat_map f r) (range-next i n low)) ∙ before.left

    pub left-step : (old mid new : List X) (i : ℕ) → i < n → Left f old mid i n → Appends size most mid new (f i) (Ok tt) → Left f old new (i + 1) n
    left-step old mid new i low before put =
        record { left = appends-step old mid new (f i) (flat_map f (range_with_len (i + 1) (n - (i + 1)))) (flat_map f (range_with_len 0 n)) (here old mid i low before) put }

    pub left-fail : (old mid new : List X) (i : ℕ) (fault : CnfFault) → i < n → Left f old mid i n → Appends size most mid new (f i) (Err fault)
        → Appends size most old new (flat_map f (range_with_len 0 n)) (Err fault)
    left-fail old mid new i fault low before failed =
        appends-fail old mid new (f i) (flat_map f (range_with_len (i + 1) (n - (i + 1)))) (flat_map f (range_with_len 0 n)) fault (here old mid i low before) failed

    pub left-end : (old mid : List X) (i : ℕ) → n ≤ i → i ≤ n → Left f old mid i n → Appends size most old mid (flat_map f (range_with_len 0 n)) (Ok tt)
    left-end old mid i low high before =
        let e : i ≡ n = omega arith in
        appends-end old mid (flat_map f (range_with_len 0 n))
        (sym (ap (λ r. mid ++ flat_map f r) (ap (λ k. range_with_len k (n - k)) e ∙ range-none n)) ∙ before.left)

  module _ (f : ℕ → List X) (xs : List ℕ) where
    there : (old mid : List X) (i : ℕ) → i < length xs → Rest f old mid i xs → mid ++ (f (get_or xs i 0) ++ flat_map f (drop (i + 1) xs)) ≡ old ++ flat_map f xs
    there old mid i low before = sym (ap (λ r. mid ++ flat_map f r) (drop_more xs i 0 low)) ∙ before.left

    pub rest-step : (old mid new : List X) (i : ℕ) → i < length xs → Rest f old mid i xs → Appends size most mid new (f (get_or xs i 0)) (Ok tt) → Rest f old new (i + 1) xs
    rest-step old mid new i low before put =
        record { left = appends-step old mid new (f (get_or xs i 0)) (flat_map f (drop (i + 1) xs)) (flat_map f xs) (there old mid i low before) put }

    pub rest-fail : (old mid new : List X) (i : ℕ) (fault : CnfFault) → i < length xs → Rest f old mid i xs → Appends size most mid new (f (get_or xs i 0)) (Err fault)
        → Appends size most old new (flat_map f xs) (Err fault)
    rest-fail old mid new i fault low before failed =
        appends-fail old mid new (f (get_or xs i 0)) (flat_map f (drop (i + 1) xs)) (flat_map f xs) fault (there old mid i low before) failed

    pub rest-end : (old mid : List X) (i : ℕ) → drop i xs ≡ [] → Rest f old mid i xs → Appends size most old mid (flat_map f xs) (Ok tt)
    rest-end old mid i none before = appends-end old mid (flat_map f xs) (sym (ap (λ r. mid ++ flat_map f r) none) ∙ before.left)
