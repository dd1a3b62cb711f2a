-- What the clauses beside those of nodes say, and which literals they name.
use Rattle.std.proofs.Common.{◌≡◌, ℕ, suc, ◌+◌, ◌<◌, ◌≤◌, ◌==◌, ℤ, pos, neg_ℤ, Bool, true, false, not, ◌&&◌, ◌||◌, cond, List, [], ◌∷◌, ◌++◌, map, get_or, refl, sym, ap, ◌∙◌, subst, arith}
use Rattle.std.specs.Bool.{IsTrue}
use Rattle.std.specs.List.{All, filter, flat_map, list_all, list_any, range_with_len}
use Rattle.std.proofs.lemmas.Bool.{and_from, and_parts, eq-eqb, false≢true, or_left, or_right}
use Rattle.std.proofs.lemmas.List.Elements.{All-cons, All-head, All-nil, All-tail, All-weaker}
use Rattle.std.proofs.lemmas.List.Folds.{list_all-append, list_any-append, list_any_at}
use Rattle.std.proofs.lemmas.List.FromFn.{get_or-map-range_with_len, get_or-range_with_len, length-map-range_with_len, length-range_with_len}
use Rattle.alternating_theory.specs.Obligations.{Automaton}
use Rattle.clauses.specs.Literals.{variable_of}
use Rattle.clauses.specs.Models.{Assignment, IsModel, is_true, meets}
use Rattle.gates_frames.specs.Frames.{literal_at}
use Rattle.gates_nodes.specs.Clauses.{asks}
use Rattle.gates_theory.proofs.Literals.{true-neg}
use Rattle.netlist.specs.Design.{Design, free_of}
use Rattle.bounded.specs.Places.{begins_at, bit_at, owed_at, place_bits}
use Rattle.bounded.specs.Searches.{asked_clauses, asked_of, before_places, closing_clauses, first_clauses, free_in, literals_of, same_frames, same_places, same_under, search_cone}

-- lists that are made one behind another
flat-each : (test : List ℤ → Bool) (f : ℕ → List (List ℤ)) (xs : List ℕ) → IsTrue (list_all test (flat_map f xs)) → All (λ x. IsTrue (list_all test (f x))) xs
flat-each test f [] met = All-nil (λ x. IsTrue (list_all test (f x)))
flat-each test f (x ∷ xs) met =
    let parts = and_parts (list_all test (f x)) (list_all test (flat_map f xs)) (sym (list_all-append test (f x) (flat_map f xs)) ∙ met) in
    All-cons (λ y. IsTrue (list_all test (f y))) x xs parts.0 (flat-each test f xs parts.1)

pub each-flat : (test : List ℤ → Bool) (f : ℕ → List (List ℤ)) (xs : List ℕ) → All (λ x. IsTrue (list_all test (f x))) xs → IsTrue (list_all test (flat_map f xs))
each-flat test f [] all = refl
each-flat test f (x ∷ xs) all =
    list_all-append test (f x) (flat_map f xs)
    ∙ and_from (list_all test (f x)) (list_all test (flat_map f xs)) (All-head (λ y. IsTrue (list_all test (f y))) x xs all)
    (each-flat test f xs (All-tail (λ y. IsTrue (list_all test (f y))) x xs all))

range-each : (P : ℕ → Type 0) (count : ℕ) → All P (range_with_len 0 count) → (i : ℕ) → i < count → P i
range-each P count all i low =
    subst P (get_or-range_with_len 0 count i 0 low ∙ omega arith) (all i 0 (omega (arith, length-range_with_len 0 count)))

pub each-range : (P : ℕ → Type 0) (count : ℕ) → ((i : ℕ) → i < count → P i) → All P (range_with_len 0 count)
each-range P count each i d low =
    let below : i < count = omega (arith, low, length-range_with_len 0 count) in
    let e : i ≡ 0 + i = omega arith in
    subst P (e ∙ sym (get_or-range_with_len 0 count i d below)) (each i below)

filter-each : (test : ℕ → Bool) (P : ℕ → Type 0) (xs : List ℕ) → All P (filter test xs) → All (λ x. IsTrue (test x) → P x) xs
filter-each test P [] all = All-nil (λ x. IsTrue (test x) → P x)
filter-each test P (x ∷ xs) all = by (test x) refl all (filter-each test P xs)
  where
    by : (b : Bool) → test x ≡ b → All P (cond b (x ∷ filter test xs) (filter test xs)) → (All P (filter test xs) → All (λ y. IsTrue (test y) → P y) xs) → All (λ y. IsTrue (test y) → P y) (x ∷ xs)
    by true is parts rest = All-cons (λ y. IsTrue (test y) → P y) x xs (λ on. All-head P x (filter test xs) parts) (rest (All-tail P x (filter test xs) parts))
    by false is parts rest = All-cons (λ y. IsTrue (test y) → P y) x xs (λ on. absurd (false≢true (sym is ∙ on))) (rest parts)

pub each-filter : (test : ℕ → Bool) (P : ℕ → Type 0) (xs : List ℕ) → All (λ x. IsTrue (test x) → P x) xs → All P (filter test xs)
each-filter test P [] all = All-nil P
each-filter test P (x ∷ xs) all =
    by (test x) refl (each-filter test P xs (All-tail (λ y. IsTrue (test y) → P y) x xs all)) (All-head (λ y. IsTrue (test y) → P y) x xs all)
  where
    by : (b : Bool) → test x ≡ b → All P (filter test xs) → (IsTrue (test x) → P x) → All P (cond b (x ∷ filter test xs) (filter test xs))
    by true is rest here = All-cons P x (filter test xs) (here is) rest
    by false is rest here = rest

-- equal values under a guard
guard-says : (g x y : Bool) → ((not g || (not x || (y || false))) && ((not g || (x || (not y || false))) && true)) ≡ true → g ≡ true → x ≡ y
guard-says true true true met on = refl
guard-says true true false met on = absurd (false≢true met)
guard-says true false true met on = absurd (false≢true met)
guard-says true false false met on = refl
guard-says false x y met on = absurd (false≢true on)

guard-from : (g x y : Bool) → (g ≡ true → x ≡ y) → ((not g || (not x || (y || false))) && ((not g || (x || (not y || false))) && true)) ≡ true
guard-from true true true same = refl
guard-from true true false same = sym (same refl)
guard-from true false true same = same refl
guard-from true false false same = refl
guard-from false x y same = refl

module _ (v : Assignment) (g x y : ℤ) (some_g : 0 < variable_of g) (some_x : 0 < variable_of x) (some_y : 0 < variable_of y) where
  same-value : list_all (meets v) (same_under g x y)
      ≡ ((not (is_true v g) || (not (is_true v x) || (is_true v y || false))) && ((not (is_true v g) || (is_true v x || (not (is_true v y) || false))) && true))
  same-value = rw (true-neg v g some_g, true-neg v x some_x, true-neg v y some_y) refl

  same-says : IsTrue (list_all (meets v) (same_under g x y)) → IsTrue (is_true v g) → is_true v x ≡ is_true v y
  same-says met on = guard-says (is_true v g) (is_true v x) (is_true v y) (sym same-value ∙ met) on

  says-same : (IsTrue (is_true v g) → is_true v x ≡ is_true v y) → IsTrue (list_all (meets v) (same_under g x y))
  says-same same = same-value ∙ guard-from (is_true v g) (is_true v x) (is_true v y) same

module _ (d : Design) (a : Automaton) (n : ℕ) (some_literal : (p s : ℕ) → p ≤ n → 0 < variable_of (literal_at 0 (literals_of d a p) s)) where
  abbrev B : ℕ
  B = before_places d a n

  abbrev begins : ℕ → ℤ
  begins p = begins_at a n B p

  abbrev literal : ℕ → ℕ → ℤ
  literal p s = literal_at 0 (literals_of d a p) s

  abbrev frame_clauses : ℕ → ℕ → List (List ℤ)
  frame_clauses p s = same_under (begins p) (literal p s) (literal n s)

  abbrev place_clauses : ℕ → ℕ → List (List ℤ)
  place_clauses p k = same_under (begins p) (bit_at a B (suc p) k) (bit_at a B (suc n) k)

  abbrev closings : List (List ℤ)
  closings = flat_map (closing_clauses d a n B) (range_with_len 0 n)

  pub record Parts (w : Assignment) : Type 0 where
    pub start : IsTrue (is_true w (owed_at a B 0 a.start))
    pub some : IsTrue (meets w (map begins (range_with_len 0 n)))
    pub frames : (p : ℕ) → p < n → IsTrue (is_true w (begins p)) → All (λ s. IsTrue (search_cone d a s) → is_true w (literal p s) ≡ is_true w (literal n s)) (free_of d)
    pub places : (p k : ℕ) → p < n → k < place_bits a → IsTrue (is_true w (begins p)) → is_true w (bit_at a B (suc p) k) ≡ is_true w (bit_at a B (suc n) k)
    pub asked : IsTrue (list_all (meets w) (asked_of d a n).clauses)

  one-true : (b : Bool) → IsTrue (b || false) → IsTrue b
  one-true true met = refl
  one-true false met = met

  closing-parts : (w : Assignment) (p : ℕ) → p < n → IsTrue (list_all (meets w) (closing_clauses d a n B p))
      → All (λ s. IsTrue (search_cone d a s) → IsTrue (list_all (meets w) (frame_clauses p s))) (free_of d) × ((k : ℕ) → k < place_bits a → IsTrue (list_all (meets w) (place_clauses p k)))
  closing-parts w p low met =
      let front = same_frames d a n B p in
      let back = same_places a n B p in
      let parts = and_parts (list_all (meets w) front) (list_all (meets w) back) (sym (list_all-append (meets w) front back) ∙ met) in (
        filter-each (search_cone d a) (λ s. IsTrue (list_all (meets w) (frame_clauses p s))) (free_of d) (flat-each (meets w) (frame_clauses p) (free_in d a) parts.0),
        range-each (λ k. IsTrue (list_all (meets w) (place_clauses p k))) (place_bits a) (flat-each (meets w) (place_clauses p) (range_with_len 0 (place_bits a)) parts.1),
      )

  pub parts-of : (w : Assignment) → IsModel w (asked_clauses d a n) → Parts w
  parts-of w model =
      let front = first_clauses a n B in
      let rest = closings ++ (asked_of d a n).clauses in
      let outer = and_parts (list_all (meets w) front) (list_all (meets w) rest) (sym (list_all-append (meets w) front rest) ∙ model) in
      let inner = and_parts (list_all (meets w) closings) (list_all (meets w) (asked_of d a n).clauses) (sym (list_all-append (meets w) closings (asked_of d a n).clauses) ∙ outer.1) in
      let first = and_parts (meets w (owed_at a B 0 a.start ∷ [])) (meets w (map begins (range_with_len 0 n)) && true) outer.0 in
      let second = and_parts (meets w (map begins (range_with_len 0 n))) true first.1 in
      let closed = λ (p : ℕ) (low : p < n). closing-parts w p low
      (range-each (λ i. IsTrue (list_all (meets w) (closing_clauses d a n B i))) n (flat-each (meets w) (closing_clauses d a n B) (range_with_len 0 n) inner.0) p low) in
      record {
        start = one-true (is_true w (owed_at a B 0 a.start)) first.0;
        some = second.0;
        frames = λ p low on. All-weaker (λ s. IsTrue (search_cone d a s) → IsTrue (list_all (meets w) (frame_clauses p s)))
            (λ s. IsTrue (search_cone d a s) → is_true w (literal p s) ≡ is_true w (literal n s))
            (λ s met inside. same-says w (begins p) (literal p s) (literal n s) (omega arith) (some_literal p s (omega arith)) (some_literal n s (omega arith)) (met inside) on)
            (free_of d) (closed p low).0;
        places = λ p k low below on. same-says w (begins p) (bit_at a B (suc p) k) (bit_at a B (suc n) k) (omega arith) (omega arith) (omega arith) ((closed p low).1 k below) on;
        asked = inner.1;
      }

  pub of-parts : (w : Assignment) → Parts w → IsModel w (asked_clauses d a n)
  of-parts w is =
      let front = first_clauses a n B in
      let rest = closings ++ (asked_of d a n).clauses in
      let closed : (p : ℕ) → p < n → IsTrue (list_all (meets w) (closing_clauses d a n B p)) = λ p low.
      list_all-append (meets w) (same_frames d a n B p) (same_places a n B p)
      ∙ and_from (list_all (meets w) (same_frames d a n B p)) (list_all (meets w) (same_places a n B p))
      (each-flat (meets w) (frame_clauses p) (free_in d a)
      (each-filter (search_cone d a) (λ s. IsTrue (list_all (meets w) (frame_clauses p s))) (free_of d)
      (λ i s below inside. says-same w (begins p) (literal p (get_or (free_of d) i s)) (literal n (get_or (free_of d) i s)) (omega arith) (some_literal p (get_or (free_of d) i s) (omega arith)) (some_literal n (get_or (free_of d) i s) (omega arith))
      (λ on. is.frames p low on i s below inside))))
      (each-flat (meets w) (place_clauses p) (range_with_len 0 (place_bits a))
      (each-range (λ k. IsTrue (list_all (meets w) (place_clauses p k))) (place_bits a)
      (λ k below. says-same w (begins p) (bit_at a B (suc p) k) (bit_at a B (suc n) k) (omega arith) (omega arith) (omega arith) (λ on. is.places p k low below on)))) in
      list_all-append (meets w) front rest
      ∙ and_from (list_all (meets w) front) (list_all (meets w) rest)
      (and_from (meets w (owed_at a B 0 a.start ∷ [])) (meets w (map begins (range_with_len 0 n)) && true)
      (or_left (is_true w (owed_at a B 0 a.start)) false is.start) (and_from (meets w (map begins (range_with_len 0 n))) true is.some refl))
      (list_all-append (meets w) closings (asked_of d a n).clauses
      ∙ and_from (list_all (meets w) closings) (list_all (meets w) (asked_of d a n).clauses)
      (each-flat (meets w) (closing_clauses d a n B) (range_with_len 0 n) (each-range (λ i. IsTrue (list_all (meets w) (closing_clauses d a n B i))) n closed))
      is.asked)

  -- which literals are named
  any-flat : {X : Type 0} (q : List ℤ → Bool) (f : X → List (List ℤ)) (xs : List X) → list_any q (flat_map f xs) ≡ list_any (λ x. list_any q (f x)) xs
  any-flat q f [] = refl
  any-flat q f (x ∷ xs) = list_any-append q (f x) (flat_map f xs) ∙ ap (λ rest. list_any q (f x) || rest) (any-flat q f xs)

  asks-flat : (clauses : List (List ℤ)) (k : ℕ) → asks (flat_map (λ clause. clause) clauses) k ≡ list_any (λ clause. asks clause k) clauses
  asks-flat [] k = refl
  asks-flat (clause ∷ clauses) k =
      list_any-append (λ l. variable_of l == k) clause (flat_map (λ c. c) clauses) ∙ ap (λ rest. asks clause k || rest) (asks-flat clauses k)

  any-filter : (test q : ℕ → Bool) (xs : List ℕ) → All (λ x. IsTrue (test x) → IsTrue (q x) → IsTrue (list_any q (filter test xs))) xs
  any-filter test q [] = All-nil (λ x. IsTrue (test x) → IsTrue (q x) → IsTrue (list_any q (filter test [])))
  any-filter test q (x ∷ xs) =
      All-cons (λ y. IsTrue (test y) → IsTrue (q y) → IsTrue (list_any q (filter test (x ∷ xs)))) x xs
      (λ on here. ap (λ b. list_any q (cond b (x ∷ filter test xs) (filter test xs))) on ∙ or_left (q x) (list_any q (filter test xs)) here)
      (All-weaker (λ y. IsTrue (test y) → IsTrue (q y) → IsTrue (list_any q (filter test xs))) (λ y. IsTrue (test y) → IsTrue (q y) → IsTrue (list_any q (filter test (x ∷ xs))))
      (λ y rest on here. by (test x) (rest on here)) xs (any-filter test q xs))
    where
      by : (b : Bool) → IsTrue (list_any q (filter test xs)) → IsTrue (list_any q (cond b (x ∷ filter test xs) (filter test xs)))
      by true rest = or_right (q x) (list_any q (filter test xs)) rest
      by false rest = rest

  abbrev named : ℕ → List ℤ → Bool
  named k clause = asks clause k

  abbrev pub IsNamed : ℤ → Type 0
  IsNamed l = IsTrue (asks (flat_map (λ (clause : List ℤ). clause) (asked_clauses d a n)) (variable_of l))

  pub begins-named : (p : ℕ) → p < n → IsNamed (begins p)
  begins-named p low =
      let k = variable_of (begins p) in
      let list = map begins (range_with_len 0 n) in
      let rest = closings ++ (asked_of d a n).clauses in
      asks-flat (asked_clauses d a n) k
      ∙ or_right (asks (owed_at a B 0 a.start ∷ []) k) (asks list k || list_any (named k) rest)
      (or_left (asks list k) (list_any (named k) rest)
      (list_any_at (λ l. variable_of l == k) list p (pos 0) (omega (arith, low, length-map-range_with_len begins 0 n))
      (ap (λ l. variable_of l == k) (get_or-map-range_with_len begins 0 n p p (pos 0) low (omega arith)) ∙ eq-eqb k k refl)))

  asks-first : (g x y : ℤ) → IsTrue (list_any (named (variable_of x)) (same_under g x y))
  asks-first g x y =
      let k = variable_of x in
      or_right (asks (neg_ℤ g ∷ neg_ℤ x ∷ y ∷ []) k) (asks (neg_ℤ g ∷ x ∷ neg_ℤ y ∷ []) k || false)
      (or_left (asks (neg_ℤ g ∷ x ∷ neg_ℤ y ∷ []) k) false
      (or_right (variable_of (neg_ℤ g) == k) (asks (x ∷ neg_ℤ y ∷ []) k) (or_left (k == k) (asks (neg_ℤ y ∷ []) k) (eq-eqb k k refl))))

  asks-second : (g x y : ℤ) → IsTrue (list_any (named (variable_of y)) (same_under g x y))
  asks-second g x y =
      let k = variable_of y in
      or_left (asks (neg_ℤ g ∷ neg_ℤ x ∷ y ∷ []) k) (asks (neg_ℤ g ∷ x ∷ neg_ℤ y ∷ []) k || false)
      (or_right (variable_of (neg_ℤ g) == k) (asks (neg_ℤ x ∷ y ∷ []) k)
      (or_right (variable_of (neg_ℤ x) == k) (asks (y ∷ []) k) (or_left (k == k) false (eq-eqb k k refl))))

  closing-named : (p k : ℕ) → p < n → IsTrue (list_any (λ s. list_any (named k) (frame_clauses p s)) (free_in d a))
      → IsTrue (asks (flat_map (λ (clause : List ℤ). clause) (asked_clauses d a n)) k)
  closing-named p k low here =
      let list = map begins (range_with_len 0 n) in
      let rest = closings ++ (asked_of d a n).clauses in
      let in_closing : IsTrue (list_any (named k) (closing_clauses d a n B p)) =
      list_any-append (named k) (same_frames d a n B p) (same_places a n B p)
      ∙ or_left (list_any (named k) (same_frames d a n B p)) (list_any (named k) (same_places a n B p)) (any-flat (named k) (frame_clauses p) (free_in d a) ∙ here) in
      let in_closings : IsTrue (list_any (named k) closings) =
      any-flat (named k) (closing_clauses d a n B) (range_with_len 0 n)
      ∙ list_any_at (λ i. list_any (named k) (closing_clauses d a n B i)) (range_with_len 0 n) p 0 (omega (arith, low, length-range_with_len 0 n))
      (ap (λ i. list_any (named k) (closing_clauses d a n B i)) (get_or-range_with_len 0 n p 0 low ∙ omega arith) ∙ in_closing) in
      asks-flat (asked_clauses d a n) k
      ∙ or_right (asks (owed_at a B 0 a.start ∷ []) k) (asks list k || list_any (named k) rest)
      (or_right (asks list k) (list_any (named k) rest)
      (list_any-append (named k) closings (asked_of d a n).clauses ∙ or_left (list_any (named k) closings) (list_any (named k) (asked_of d a n).clauses) in_closings))

  pub frame-named : (p : ℕ) → p < n → All (λ s. IsTrue (search_cone d a s) → IsNamed (literal p s) × IsNamed (literal n s)) (free_of d)
  frame-named p low i e below inside =
      let s = get_or (free_of d) i e in (
        closing-named p (variable_of (literal p s)) low
            (any-filter (search_cone d a) (λ t. list_any (named (variable_of (literal p s))) (frame_clauses p t)) (free_of d) i e below inside (asks-first (begins p) (literal p s) (literal n s))),
        closing-named p (variable_of (literal n s)) low
            (any-filter (search_cone d a) (λ t. list_any (named (variable_of (literal n s))) (frame_clauses p t)) (free_of d) i e below inside (asks-second (begins p) (literal p s) (literal n s))),
      )
