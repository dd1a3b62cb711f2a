-- Texts that are read from the right.
use Rattle.std.proofs.Common.{◌≡◌, ◌≢◌, ◌⊎◌, inl, inr, ⊎_elim, ℕ, suc, ◌+◌, ◌-◌, ◌<◌, ◌≤◌, true, false, arith, refl, sym, ap, subst, ◌∙◌, List, [], ◌∷◌, ◌++◌, length, take, drop, get_or, reverse, length-append, append_assoc}
use Rattle.std.proofs.lemmas.Bool.Decides.{nat_tests}
use Rattle.std.proofs.lemmas.Bool.{true≢false, cases_lt, false_from_ne_true}
use Rattle.std.proofs.lemmas.Bool.Decides.{Decides-eqb}
use Rattle.std.proofs.lemmas.Grind.{reverse_onto}
use Rattle.std.proofs.lemmas.List.{reverse-append, reverse-reverse, append-nil, take_more, take_all}
use Rattle.std.proofs.lemmas.Slice.Eq.{bytes_eq-Decides, ends_is}
use Rattle.std.specs.List.{ends_with}
use Rattle.std.specs.Prelude.{nat_eq, ◌&&◌}
use Rattle.std.specs.Str.{bytes_eq}
use Rattle.std.specs.Cmp.Lexicographic.{slice_cmp}
use Rattle.std.proofs.Math.Seq.{get_or-append_seam, drop-cons}
use Rattle.std.proofs.lemmas.Cmp.{ranked}
use Rattle.std.specs.Ordering.{nat_cmp, ordering_then, is_lt, MatchOrdering}
use Rattle.std.specs.declared.cmp.Ordering.{Ordering}
use Rattle.std.specs.declared.cmp.Ordering.TheVariants.{Less, Equal, Greater}
use Rattle.psl_names.specs.Ends.{backward, compare_ends, last_or_dot}

-- a text whose last byte is known
backward-last : (front : List ℕ) (last : ℕ) → backward (front ++ last ∷ []) ≡ last ∷ backward front
backward-last front last = ap (λ (bytes : List ℕ). bytes ++ 46 ∷ []) (reverse-append front (last ∷ []))

-- a text that is not empty ends with its last byte
pub with_last : (text : List ℕ) → 0 < length text → text ≡ take (length text - 1) text ++ get_or text (length text - 1) 46 ∷ []
with_last text some =
    let before : length text - 1 < length text = omega arith in
    let all : length text - 1 + 1 ≡ length text = omega arith in
    sym (take_all (length text) text (omega arith)) ∙ ap (λ (n : ℕ). take n text) (sym all) ∙ take_more text (length text - 1) 46 before

-- a number compares as equal with itself
same_byte : (byte : ℕ) → nat_cmp byte byte ≡ Equal
same_byte byte = grind (arith, nat_tests)

-- numbers that compare as equal are equal
same_numbers : (x y : ℕ) → nat_cmp x y ≡ Equal → x ≡ y
same_numbers x y e = subst (λ (o : Ordering). MatchOrdering o (x < y) (x ≡ y) (y < x)) e (ranked x y (nat_cmp x y) refl)

-- what is not equal decides
decides : (first more : Ordering) → first ≢ Equal → first ≡ ordering_then first more
decides Less more other = refl
decides Equal more other = absurd (other refl)
decides Greater more other = refl

-- numbers that differ decide what lists compare as
decided : (x y : ℕ) (more : Ordering) → x ≢ y → nat_cmp x y ≡ ordering_then (nat_cmp x y) more
decided x y more other = decides (nat_cmp x y) more (λ (e : nat_cmp x y ≡ Equal). other (same_numbers x y e))

-- texts with one last byte compare as what is before it
pub compare-same : (first second : List ℕ) (byte : ℕ) → compare_ends (first ++ byte ∷ []) (second ++ byte ∷ []) ≡ compare_ends first second
compare-same first second byte =
    rw (backward-last first byte, backward-last second byte, same_byte byte)

-- texts with different last bytes compare as those
pub compare-other : (first second : List ℕ) (x y : ℕ) → x ≢ y → nat_cmp x y ≡ compare_ends (first ++ x ∷ []) (second ++ y ∷ [])
compare-other first second x y other =
    rw (backward-last first x, backward-last second y) (decided x y (compare_ends first second) other)

-- the empty list is before one with a member
is_before : (bytes : List ℕ) → slice_cmp nat_cmp [] (bytes ++ 46 ∷ []) ≡ Less
is_before [] = refl
is_before (byte ∷ more) = refl

-- one with a member is behind the empty list
is_behind : (bytes : List ℕ) → slice_cmp nat_cmp (bytes ++ 46 ∷ []) [] ≡ Greater
is_behind [] = refl
is_behind (byte ∷ more) = refl

-- the last byte of a text that has one
last-at : (front : List ℕ) (last : ℕ) → last_or_dot (front ++ last ∷ []) ≡ last
last-at front last =
    let size : length (front ++ last ∷ []) - 1 ≡ length front = omega (arith, length-append front (last ∷ [])) in
    ap (λ (n : ℕ). get_or (front ++ last ∷ []) n 46) size ∙ get_or-append_seam front last [] 46

-- the empty text and one that is not empty
first-empty : (front : List ℕ) (last : ℕ) →
    ordering_then (nat_cmp 46 (last_or_dot (front ++ last ∷ []))) (nat_cmp 0 (length (front ++ last ∷ []))) ≡ compare_ends [] (front ++ last ∷ [])
first-empty front last =
    let shorter : nat_cmp 0 (length (front ++ last ∷ [])) ≡ Less = grind (arith, nat_tests, length-append {A = ℕ}) in
    rw (last-at front last, backward-last front last, shorter, is_before (reverse front))

-- one that is not empty and the empty text
second-empty : (front : List ℕ) (last : ℕ) →
    ordering_then (nat_cmp (last_or_dot (front ++ last ∷ [])) 46) (nat_cmp (length (front ++ last ∷ [])) 0) ≡ compare_ends (front ++ last ∷ []) []
second-empty front last =
    let longer : nat_cmp (length (front ++ last ∷ [])) 0 ≡ Greater = grind (arith, nat_tests, length-append {A = ℕ}) in
    rw (last-at front last, backward-last front last, longer, is_behind (reverse front))

-- texts of which one is empty
pub compare-fronts : (first second : List ℕ) → (length first ≡ 0) ⊎ (length second ≡ 0) →
    ordering_then (nat_cmp (last_or_dot first) (last_or_dot second)) (nat_cmp (length first) (length second)) ≡ compare_ends first second
compare-fronts [] [] empty = refl
compare-fronts [] (y ∷ ys) empty =
    let text : List ℕ = y ∷ ys in
    subst (λ (second : List ℕ). ordering_then (nat_cmp 46 (last_or_dot second)) (nat_cmp 0 (length second)) ≡ compare_ends [] second)
    (sym (with_last text (omega arith))) (first-empty (take (length text - 1) text) (get_or text (length text - 1) 46))
compare-fronts (x ∷ xs) [] empty =
    let text : List ℕ = x ∷ xs in
    subst (λ (first : List ℕ). ordering_then (nat_cmp (last_or_dot first) 46) (nat_cmp (length first) 0) ≡ compare_ends first [])
    (sym (with_last text (omega arith))) (second-empty (take (length text - 1) text) (get_or text (length text - 1) 46))
compare-fronts (x ∷ xs) (y ∷ ys) empty = absurd (⊎_elim (λ (e : length (x ∷ xs) ≡ 0). omega (arith, e)) (λ (e : length (y ∷ ys) ≡ 0). omega (arith, e)) empty)

-- a number below another
is_below : (x y : ℕ) → x < y → nat_cmp x y ≡ Less
is_below x y below = grind (arith, nat_tests)

-- a number that is not below another, by what they decide
at_least : (x y : ℕ) (more : Ordering) → is_lt (ordering_then (nat_cmp y x) more) ≡ false → x ≤ y
at_least x y more low =
    ⊎_elim
    (λ (below : y < x). absurd (true≢false (sym (ap (λ (o : Ordering). is_lt (ordering_then o more)) (is_below y x below)) ∙ low)))
    (λ (other : x ≤ y). other)
    (cases_lt y x)

-- equal numbers leave it to what follows
level : (x y : ℕ) (more : Ordering) → x ≡ y → is_lt (ordering_then (nat_cmp x y) more) ≡ false → is_lt more ≡ false
level x y more same low = subst (λ (o : Ordering). is_lt (ordering_then o more) ≡ false) (same_byte y) (subst (λ (n : ℕ). is_lt (ordering_then (nat_cmp n y) more) ≡ false) same low)

-- a list that begins with another is not below it
pub at_start : (start rest : List ℕ) → is_lt (slice_cmp nat_cmp (start ++ rest) start) ≡ false
at_start [] [] = refl
at_start [] (byte ∷ rest) = refl
at_start (byte ∷ start) rest = rw (same_byte byte) (at_start start rest)

-- a list from another one up to a list that begins with that begins with it too
pub between : (start bytes far rest : List ℕ) → is_lt (slice_cmp nat_cmp bytes start) ≡ false → is_lt (slice_cmp nat_cmp far bytes) ≡ false → far ≡ start ++ rest →
    (more : List ℕ) × (bytes ≡ start ++ more)
between [] bytes far rest low high begins = (bytes, refl)
between (x ∷ start) [] far rest low high begins = absurd (true≢false low)
between (x ∷ start) (y ∷ bytes) [] rest low high begins = absurd cc
between (x ∷ start) (y ∷ bytes) (z ∷ far) rest low high begins =
    let same : z ≡ x = cc in
    let first : x ≤ y = at_least x y (slice_cmp nat_cmp bytes start) low in
    let second : y ≤ z = at_least y z (slice_cmp nat_cmp far bytes) high in
    let head : y ≡ x = omega arith in
    let head_far : z ≡ y = omega arith in
    let tail : far ≡ start ++ rest = cc in
    let more = between start bytes far rest (level y x (slice_cmp nat_cmp bytes start) head low) (level z y (slice_cmp nat_cmp far bytes) head_far high) tail in
    (more.0, ap (λ (byte : ℕ). byte ∷ bytes) head ∙ ap (λ (bytes : List ℕ). x ∷ bytes) more.1)

-- a list that is neither below nor above another is that
pub same_both : (start bytes : List ℕ) → is_lt (slice_cmp nat_cmp bytes start) ≡ false → is_lt (slice_cmp nat_cmp start bytes) ≡ false → bytes ≡ start
same_both [] [] low high = refl
same_both [] (y ∷ bytes) low high = absurd (true≢false high)
same_both (x ∷ start) [] low high = absurd (true≢false low)
same_both (x ∷ start) (y ∷ bytes) low high =
    let first : x ≤ y = at_least x y (slice_cmp nat_cmp bytes start) low in
    let second : y ≤ x = at_least y x (slice_cmp nat_cmp start bytes) high in
    let head : y ≡ x = omega arith in
    let tail = same_both start bytes (level y x (slice_cmp nat_cmp bytes start) head low) (level x y (slice_cmp nat_cmp start bytes) (sym head) high) in
    ap (λ (byte : ℕ). byte ∷ bytes) head ∙ ap (λ (bytes : List ℕ). x ∷ bytes) tail

-- a text read from the right and back
backward-back : (text : List ℕ) → reverse (backward text) ≡ 46 ∷ text
backward-back text = reverse-append (reverse text) (46 ∷ []) ∙ ap (λ (bytes : List ℕ). 46 ∷ bytes) (reverse-reverse text)

-- texts that read alike from the right are one
pub backward-same : (first second : List ℕ) → backward first ≡ backward second → first ≡ second
backward-same first second same =
    let back : 46 ∷ first ≡ 46 ∷ second = sym (backward-back first) ∙ ap reverse same ∙ backward-back second in
    cc

-- a text that ends with a dot and another begins with that one, read from the right
pub ends-backward : (name text : List ℕ) → ends_with nat_eq name (46 ∷ text) ≡ true → (more : List ℕ) × (backward name ≡ backward text ++ more)
ends-backward name text ends =
    let front : List ℕ = take (length name - length (46 ∷ text)) name in
    let split : name ≡ front ++ 46 ∷ text = (ends_is Decides-eqb name (46 ∷ text) (ends_with nat_eq name (46 ∷ text)) refl).0 ends in
    let turned : reverse name ≡ backward text ++ reverse front = ap reverse split ∙ reverse-append front (46 ∷ text) ∙ ap (λ (bytes : List ℕ). bytes ++ reverse front) (reverse_onto text 46 []) in
    (reverse front ++ 46 ∷ [], ap (λ (bytes : List ℕ). bytes ++ 46 ∷ []) turned ∙ append_assoc (backward text) (reverse front) (46 ∷ []))

-- by what stands before a dot and a text
by_front : (name text front : List ℕ) → 46 ∷ name ≡ front ++ 46 ∷ text → (name ≡ text) ⊎ (ends_with nat_eq name (46 ∷ text) ≡ true)
by_front name text [] split = inl cc
by_front name text (byte ∷ front) split =
    let rest : name ≡ front ++ 46 ∷ text = cc in
    inr ((ends_is Decides-eqb name (46 ∷ text) (ends_with nat_eq name (46 ∷ text)) refl).1 front rest)

-- a text that begins with another, read from the right, is that or ends with a dot and it
pub backward-ends : (name text more : List ℕ) → backward name ≡ backward text ++ more → (name ≡ text) ⊎ (ends_with nat_eq name (46 ∷ text) ≡ true)
backward-ends name text more begins =
    let split : 46 ∷ name ≡ reverse more ++ 46 ∷ text =
    sym (backward-back name) ∙ ap reverse begins ∙ reverse-append (backward text) more ∙ ap (λ (bytes : List ℕ). reverse more ++ bytes) (backward-back text) in
    by_front name text (reverse more) split

-- among texts that are not below one, what has that text stands before the others
pub named-back : (text first second : List ℕ) → is_lt (compare_ends first text) ≡ false → is_lt (compare_ends second first) ≡ false →
    bytes_eq second text ≡ true → bytes_eq first text ≡ true
named-back text first second low high named =
    let second_is : second ≡ text = (bytes_eq-Decides second text).0 named in
    let turned : is_lt (compare_ends text first) ≡ false = subst (λ (bytes : List ℕ). is_lt (compare_ends bytes first) ≡ false) second_is high in
    (bytes_eq-Decides first text).1 (backward-same first text (same_both (backward text) (backward first) low turned))

-- and where none has that text, what ends with a dot and it stands before the others
pub ends-back : (text first second : List ℕ) → is_lt (compare_ends first text) ≡ false → is_lt (compare_ends second first) ≡ false →
    bytes_eq first text ≡ false → ends_with nat_eq second (46 ∷ text) ≡ true → ends_with nat_eq first (46 ∷ text) ≡ true
ends-back text first second low high other ends =
    let far = ends-backward second text ends in
    let near = between (backward text) (backward first) (backward second) far.0 low high far.1 in
    ⊎_elim
    (λ (same : first ≡ text). absurd (true≢false (sym ((bytes_eq-Decides first text).1 same) ∙ other)))
    (λ (found : ends_with nat_eq first (46 ∷ text) ≡ true). found)
    (backward-ends first text near.0 near.1)

-- a text that another begins with, read from the right, is not above it
not_below : (text name more : List ℕ) → backward name ≡ backward text ++ more → is_lt (compare_ends name text) ≡ false
not_below text name more begins =
    subst (λ (bytes : List ℕ). is_lt (slice_cmp nat_cmp bytes (backward text)) ≡ false) (sym begins) (at_start (backward text) more)

-- what is below a text does not have it
pub named-below : (text name : List ℕ) → is_lt (compare_ends name text) ≡ true → bytes_eq name text ≡ false
named-below text name below =
    false_from_ne_true (bytes_eq name text) (λ (named : bytes_eq name text ≡ true).
    let same : backward name ≡ backward text ++ [] = ap backward ((bytes_eq-Decides name text).0 named) ∙ sym (append-nil (backward text)) in
    true≢false (sym below ∙ not_below text name [] same))

-- and does not end with a dot and it
pub ends-below : (text name : List ℕ) → is_lt (compare_ends name text) ≡ true → ends_with nat_eq name (46 ∷ text) ≡ false
ends-below text name below =
    false_from_ne_true (ends_with nat_eq name (46 ∷ text)) (λ (ends : ends_with nat_eq name (46 ∷ text) ≡ true).
    let begins = ends-backward name text ends in
    true≢false (sym below ∙ not_below text name begins.0 begins.1))

-- texts of different lengths differ
differs : (bytes other : List ℕ) → length bytes ≢ length other → bytes_eq bytes other ≡ false
differs bytes other apart = false_from_ne_true (bytes_eq bytes other) (λ same. apart (ap length ((bytes_eq-Decides bytes other).0 same)))

-- a list that is no longer than a text does not end with a dot and it
pub ends-short : (whole text : List ℕ) → length whole ≤ length text → ends_with nat_eq whole (46 ∷ text) ≡ false
ends-short whole text short =
    let none : length whole - suc (length text) ≡ 0 = omega arith in
    ap (λ (n : ℕ). bytes_eq (46 ∷ text) (drop n whole)) none ∙ differs (46 ∷ text) whole (λ e. omega (arith, e))

-- a longer one does where the dot stands before its end, and its end is the text
pub ends-long : (whole text : List ℕ) → length text < length whole →
    ends_with nat_eq whole (46 ∷ text) ≡ (nat_eq 46 (get_or whole (length whole - length text - 1) 0) && bytes_eq text (drop (length whole - length text) whole))
ends-long whole text longer =
    let start : length whole - suc (length text) ≡ length whole - length text - 1 = omega arith in
    let next : suc (length whole - length text - 1) ≡ length whole - length text = omega arith in
    ap (λ (n : ℕ). bytes_eq (46 ∷ text) (drop n whole)) start
    ∙ ap (bytes_eq (46 ∷ text)) (drop-cons whole (length whole - length text - 1) 0 (omega arith))
    ∙ ap (λ (n : ℕ). nat_eq 46 (get_or whole (length whole - length text - 1) 0) && bytes_eq text (drop n whole)) next
