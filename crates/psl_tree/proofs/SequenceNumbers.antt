-- The state of a number in lists that are joined, mapped and paired, and where their edges lead.
use Rattle.std.proofs.Common.{◌≡◌, ℕ, zero, suc, ◌+◌, ◌-◌, ◌*◌, ◌≤◌, ◌<◌, Bool as Truth, true, false, if◌then◌else◌, Option, None, Some, List, [], ◌∷◌, ◌++◌, length, map, refl, ap, sym, ◌∙◌, arith}
use Rattle.std.proofs.lemmas.List.{length-append, length-map}
use Rattle.psl_tree.specs.SequenceAutomata.{Edge}
use Rattle.psl_tree.specs.SequenceConstruction.{Draft, draft_at, narrowed, narrowed_by, joined, fused, edge_pair, edge_pairs, state_pair, state_pairs}
use Rattle.psl_tree.proofs.SequenceSteps.{Within, Within-append, Within-wider}
use Rattle.psl_tree.specs.Trees.{Boolean}

-- the state of each number, where the states count on from an offset
abbrev pub numbered : ℕ → List Draft → ℕ → Draft
numbered offset states number = draft_at states (number - offset)

pub state_at-left : (xs ys : List Draft) (k : ℕ) → k < length xs → draft_at (xs ++ ys) k ≡ draft_at xs k
state_at-left [] ys k h = absurd (omega arith)
state_at-left (x ∷ xs) ys zero h = refl
state_at-left (x ∷ xs) ys (suc k) h = state_at-left xs ys k (omega arith)

pub state_at-right : (xs ys : List Draft) (j k : ℕ) → k ≡ length xs + j → draft_at (xs ++ ys) k ≡ draft_at ys j
state_at-right [] ys j k e = ap (λ n. draft_at ys n) (omega arith)
state_at-right (x ∷ xs) ys j zero e = absurd (omega arith)
state_at-right (x ∷ xs) ys j (suc k) e = state_at-right xs ys j k (omega arith)

pub state_at-map : (f : Draft → Draft) (xs : List Draft) (k : ℕ) → k < length xs → draft_at (map f xs) k ≡ f (draft_at xs k)
state_at-map f [] k h = absurd (omega arith)
state_at-map f (x ∷ xs) zero h = refl
state_at-map f (x ∷ xs) (suc k) h = state_at-map f xs k (omega arith)

-- in the front of two lists of states, and in the back
pub front : (f : Draft → Draft) (offset : ℕ) (xs ys : List Draft) (q : ℕ) → offset ≤ q → q < offset + length xs
    → numbered offset (map f xs ++ ys) q ≡ f (numbered offset xs q)
front f offset xs ys q l h =
    let small : q - offset < length (map f xs) = omega (arith, length-map xs f) in
    state_at-left (map f xs) ys (q - offset) small ∙ state_at-map f xs (q - offset) (omega arith)

pub back : (f : Draft → Draft) (offset : ℕ) (xs ys : List Draft) (q : ℕ) → offset + length xs ≤ q
    → numbered offset (map f xs ++ ys) q ≡ numbered (offset + length xs) ys q
back f offset xs ys q l = state_at-right (map f xs) ys (q - (offset + length xs)) (q - offset) (omega (arith, length-map xs f))

pub in_front : (offset : ℕ) (xs ys : List Draft) (q : ℕ) → offset ≤ q → q < offset + length xs → numbered offset (xs ++ ys) q ≡ numbered offset xs q
in_front offset xs ys q l h = state_at-left xs ys (q - offset) (omega arith)

pub in_back : (offset : ℕ) (xs ys : List Draft) (q : ℕ) → offset + length xs ≤ q → numbered offset (xs ++ ys) q ≡ numbered (offset + length xs) ys q
in_back offset xs ys q l = state_at-right xs ys (q - (offset + length xs)) (q - offset) (omega arith)

pub in_map : (f : Draft → Draft) (offset : ℕ) (xs : List Draft) (q : ℕ) → offset ≤ q → q < offset + length xs → numbered offset (map f xs) q ≡ f (numbered offset xs q)
in_map f offset xs q l h = state_at-map f xs (q - offset) (omega arith)

pub length-front_back : (f : Draft → Draft) (xs ys : List Draft) → length (map f xs ++ ys) ≡ length xs + length ys
length-front_back f xs ys = length-append (map f xs) ys ∙ ap (λ n. n + length ys) (length-map xs f)

-- the edges of each state lead into the range
abbrev pub EachWithin : ℕ → ℕ → List Draft → Type 0
EachWithin low high [] = Unit {0}
EachWithin low high (s ∷ ss) = Within low high s.edges × EachWithin low high ss

pub each-at : (low high : ℕ) (ss : List Draft) → EachWithin low high ss → (k : ℕ) → Within low high (draft_at ss k).edges
each-at low high [] w k = tt
each-at low high (s ∷ ss) w zero = w.0
each-at low high (s ∷ ss) w (suc k) = each-at low high ss w.1 k

pub EachWithin-append : (low high : ℕ) (xs ys : List Draft) → EachWithin low high xs → EachWithin low high ys → EachWithin low high (xs ++ ys)
EachWithin-append low high [] ys p q = q
EachWithin-append low high (x ∷ xs) ys p q = (p.0, EachWithin-append low high xs ys p.1 q)

pub EachWithin-wider : (low high low' high' : ℕ) → low' ≤ low → high ≤ high' → (ss : List Draft) → EachWithin low high ss → EachWithin low' high' ss
EachWithin-wider low high low' high' l h [] p = tt
EachWithin-wider low high low' high' l h (s ∷ ss) p = (Within-wider low high low' high' l h s.edges p.0, EachWithin-wider low high low' high' l h ss p.1)

pub EachWithin-map : (low high low' high' : ℕ) (f : Draft → Draft) → ((s : Draft) → Within low high s.edges → Within low' high' (f s).edges)
    → (ss : List Draft) → EachWithin low high ss → EachWithin low' high' (map f ss)
EachWithin-map low high low' high' f k [] p = tt
EachWithin-map low high low' high' f k (s ∷ ss) p = (k s p.0, EachWithin-map low high low' high' f k ss p.1)

within-if : (low high : ℕ) (b : Truth) (es : List Edge) → Within low high es → Within low high (if b then es else [])
within-if low high true es w = w
within-if low high false es w = tt

pub joined-within : (low high : ℕ) (next s : Draft) → Within low high next.edges → Within low high s.edges → Within low high (joined next s).edges
joined-within low high next s w v = Within-append low high s.edges (if s.is_final then next.edges else []) v (within-if low high s.is_final next.edges w)

narrowed-within : (low high : ℕ) (label : Boolean) (es : List Edge) → Within low high es → Within low high (map (λ edge. narrowed label edge) es)
narrowed-within low high label [] w = tt
narrowed-within low high label (e ∷ es) w = (w.0, w.1, narrowed-within low high label es w.2)

narrowed_by-within : (low high : ℕ) (found : Option Boolean) (es : List Edge) → Within low high es → Within low high (narrowed_by found es)
narrowed_by-within low high None es w = tt
narrowed_by-within low high (Some label) es w = narrowed-within low high label es w

pub fused-within : (low high : ℕ) (next s : Draft) → Within low high next.edges → Within low high s.edges → Within low high (fused next s).edges
fused-within low high next s w v = Within-append low high s.edges (narrowed_by s.ending next.edges) v (narrowed_by-within low high s.ending next.edges w)

-- the number of a pair is in range
pub pair-below : (o n m i j : ℕ) → i < n → j < m → o + i * m + j < o + n * m
pair-below o n m i j h k = grind arith

row-within : (o n m : ℕ) (e : Edge) → e.target < n → (fs : List Edge) → Within 0 m fs
    → Within o (o + n * m) (map (λ second. edge_pair o m e second) fs)
row-within o n m e h [] w = tt
row-within o n m e h (f ∷ fs) w =
    (omega arith, pair-below o n m e.target f.target h w.1, row-within o n m e h fs w.2)

pub pairs-within : (o n m : ℕ) (es fs : List Edge) → Within 0 n es → Within 0 m fs → Within o (o + n * m) (edge_pairs o m es fs)
pairs-within o n m [] fs w v = tt
pairs-within o n m (e ∷ es) fs w v =
    Within-append o (o + n * m) (map (λ second. edge_pair o m e second) fs) (edge_pairs o m es fs)
    (row-within o n m e w.1 fs v) (pairs-within o n m es fs w.2 v)

pub state_pairs-within : (o n m : ℕ) (ss ts : List Draft) → EachWithin 0 n ss → EachWithin 0 m ts
    → EachWithin o (o + n * m) (state_pairs o m ss ts)
state_pairs-within o n m [] ts w v = tt
state_pairs-within o n m (s ∷ ss) ts w v =
    EachWithin-append o (o + n * m) (map (λ second. state_pair o m s second) ts) (state_pairs o m ss ts)
    (EachWithin-map 0 m o (o + n * m) (λ second. state_pair o m s second) (λ t u. pairs-within o n m s.edges t.edges w.0 u) ts v)
    (state_pairs-within o n m ss ts w.1 v)

pub length-state_pairs : (o m : ℕ) (ss ts : List Draft) → length (state_pairs o m ss ts) ≡ length ss * length ts
length-state_pairs o m [] ts = grind arith
length-state_pairs o m (s ∷ ss) ts =
    let e = length-front_back (λ second. state_pair o m s second) ts (state_pairs o m ss ts) in
    let i = length-state_pairs o m ss ts in
    grind (arith, e, i)

pub state_at-state_pairs : (o m : ℕ) (ss ts : List Draft) → m ≡ length ts → (i j k : ℕ) → i < length ss → j < m → k ≡ i * m + j
    → draft_at (state_pairs o m ss ts) k ≡ state_pair o m (draft_at ss i) (draft_at ts j)
state_at-state_pairs o m [] ts e i j k h l same = absurd (omega arith)
state_at-state_pairs o m (s ∷ ss) ts e zero j k h l same =
    let row = map (λ second. state_pair o m s second) ts in
    let small : j < length row = omega (arith, length-map ts (λ (second : Draft). state_pair o m s second)) in
    ap (λ n. draft_at (row ++ state_pairs o m ss ts) n) (grind arith)
    ∙ (state_at-left row (state_pairs o m ss ts) j small
    ∙ state_at-map (λ second. state_pair o m s second) ts j (omega arith))
state_at-state_pairs o m (s ∷ ss) ts e (suc i) j k h l same =
    let row = map (λ second. state_pair o m s second) ts in
    let far : k ≡ length row + (i * m + j) = pair-rest m i j k (length row) same (length-map ts (λ (second : Draft). state_pair o m s second) ∙ sym e) in
    state_at-right row (state_pairs o m ss ts) (i * m + j) k far
    ∙ state_at-state_pairs o m ss ts e i j (i * m + j) (omega arith) l refl
  where
    pair-rest : (m i j k n : ℕ) → k ≡ suc i * m + j → n ≡ m → k ≡ n + (i * m + j)
    pair-rest m i j k n e f = grind arith
