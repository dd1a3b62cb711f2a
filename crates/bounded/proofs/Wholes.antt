-- What code keeps in lists is what the definitions say of places.
use Rattle.std.proofs.Common.{◌≡◌, ℕ, zero, suc, ◌+◌, ◌<◌, ◌≤◌, ℤ, Bool, cond, List, [], ◌∷◌, ◌++◌, map, fold, length, get_or, refl, ap, ◌∙◌, arith, append_assoc}
use Rattle.std.specs.List.{All, filter, flat_map, range_with_len}
use Rattle.std.proofs.lemmas.List.Elements.{All-head, All-tail}
use Rattle.std.proofs.lemmas.List.FromFn.{get_or-map-range_with_len}
use Rattle.alternating_theory.specs.Obligations.{Automaton, obligation_at}
use Rattle.gates_frames.specs.Frames.{literal_at}
use Rattle.gates_letters.specs.Combinations.{combination_by}
use Rattle.gates_nodes.specs.declared.node.Node.{Node}
use Rattle.netlist.specs.Design.{Design}
use Rattle.bounded.specs.Adding.{closed_in, frame_in}
use Rattle.bounded.specs.Obligations.{Asked, literals_before, served, with_clause, with_obligation, with_place, with_places}
use Rattle.bounded.specs.Places.{begins_at, owed_at}
use Rattle.bounded.specs.Searches.{closing_clauses, free_in, literals_of, same_places, same_under}

pub frame-is : (f : ℕ → List ℤ) (n p : ℕ) → p ≤ n → frame_in (map f (range_with_len 0 (suc n))) p ≡ f p
frame-is f n p few = get_or-map-range_with_len f 0 (suc n) p p [] (omega arith) (omega arith)

-- clauses before others stay there
abbrev pub behind : List (List ℤ) → Asked → Asked
behind front now = record { nodes = now.nodes; clauses = front ++ now.clauses }

fold-behind : (front : List (List ℤ)) (step : Asked → ℕ → Asked) → ((now : Asked) (x : ℕ) → step (behind front now) x ≡ behind front (step now x))
    → (xs : List ℕ) (now : Asked) → fold step (behind front now) xs ≡ behind front (fold step now xs)
fold-behind front step same [] now = refl
fold-behind front step same (x ∷ xs) now = ap (λ y. fold step y xs) (same now x) ∙ fold-behind front step same xs (step now x)

-- what is asked at equal frames is equal
fold-same : (step other : Asked → ℕ → Asked) → ((now : Asked) (x : ℕ) → step now x ≡ other now x) → (xs : List ℕ) (now : Asked) → fold step now xs ≡ fold other now xs
fold-same step other same [] now = refl
fold-same step other same (x ∷ xs) now = ap (λ y. fold step y xs) (same now x) ∙ fold-same step other same xs (other now x)

module _ (a : Automaton) (n before : ℕ) where
  module _ (frames : ℕ → List ℤ) (front : List (List ℤ)) where
    obligation-behind : (p : ℕ) (now : Asked) (q : ℕ) → with_obligation a frames n before p (behind front now) q ≡ behind front (with_obligation a frames n before p now q)
    obligation-behind p now q =
        let next = with_obligation a frames n before p now q in
        ap (λ c. record { nodes = next.nodes; clauses = c }) (append_assoc front now.clauses _)

    place-behind : (now : Asked) (p : ℕ) → with_place a frames n before (behind front now) p ≡ behind front (with_place a frames n before now p)
    place-behind now p = fold-behind front (with_obligation a frames n before p) (obligation-behind p) (range_with_len 0 (length a.obligations)) now

    pub places-behind : (nodes : List Node) → fold (with_place a frames n before) (record { nodes = nodes; clauses = front ++ [] }) (range_with_len 0 (suc n))
        ≡ behind front (with_places a frames n before nodes)
    places-behind nodes = fold-behind front (with_place a frames n before) place-behind (range_with_len 0 (suc n)) (record { nodes = nodes; clauses = [] })

  module _ (f g : ℕ → List ℤ) (same : (p : ℕ) → p ≤ n → f p ≡ g p) where
    before-same : (p : ℕ) → p ≤ n → literals_before f p ≡ literals_before g p
    before-same zero few = refl
    before-same (suc p) few = ap Rattle.std.specs.Prelude.Some (same p (omega arith))

    obligation-same : (p : ℕ) → p ≤ n → (now : Asked) (q : ℕ) → with_obligation a f n before p now q ≡ with_obligation a g n before p now q
    obligation-same p few now q =
        let asked = (obligation_at a.obligations q).delta in
        let owed = owed_at a before p q in
        ap (λ b. with_clause now owed (combination_by 0 b (f p) (served a n before p q) asked now.nodes)) (before-same p few)
        ∙ ap (λ l. with_clause now owed (combination_by 0 (literals_before g p) l (served a n before p q) asked now.nodes)) (same p few)

    place-same : (p : ℕ) → p ≤ n → (now : Asked) → with_place a f n before now p ≡ with_place a g n before now p
    place-same p few now =
        fold-same (with_obligation a f n before p) (with_obligation a g n before p) (obligation-same p few) (range_with_len 0 (length a.obligations)) now

    range-same : (count first : ℕ) → first + count ≤ suc n → (now : Asked)
        → fold (with_place a f n before) now (range_with_len first count) ≡ fold (with_place a g n before) now (range_with_len first count)
    range-same zero first few now = refl
    range-same (suc count) first few now =
        ap (λ y. fold (with_place a f n before) y (range_with_len (first + 1) count)) (place-same first (omega arith) now)
        ∙ range-same count (first + 1) (omega arith) (with_place a g n before now first)

    pub places-same : (now : Asked) → fold (with_place a f n before) now (range_with_len 0 (suc n)) ≡ fold (with_place a g n before) now (range_with_len 0 (suc n))
    places-same now = range-same (suc n) 0 (omega arith) now

-- equal parts make equal lists
pub flat-same : {X : Type 0} (f g : ℕ → List X) (bound : ℕ) → ((p : ℕ) → p < bound → f p ≡ g p) → (count first : ℕ) → first + count ≤ bound
    → flat_map f (range_with_len first count) ≡ flat_map g (range_with_len first count)
flat-same f g bound same zero first few = refl
flat-same f g bound same (suc count) first few =
    ap (λ l. l ++ flat_map f (range_with_len (first + 1) count)) (same first (omega arith))
    ∙ ap (λ l. g first ++ l) (flat-same f g bound same count (first + 1) (omega arith))

pub filter-same : (f g : ℕ → Bool) (xs : List ℕ) → All (λ x. f x ≡ g x) xs → filter f xs ≡ filter g xs
filter-same f g [] all = refl
filter-same f g (x ∷ xs) all =
    ap (λ b. cond b (x ∷ filter f xs) (filter f xs)) (All-head (λ y. f y ≡ g y) x xs all)
    ∙ ap (λ l. cond (g x) (x ∷ l) l) (filter-same f g xs (All-tail (λ y. f y ≡ g y) x xs all))

-- what closes the loop
module _ (d : Design) (a : Automaton) (n before : ℕ) (frames : List (List ℤ)) (are : frames ≡ map (literals_of d a) (range_with_len 0 (suc n)))
    (signals : List ℕ) (free : signals ≡ free_in d a) where
  closing-same : (p : ℕ) → p < n → closed_in a frames signals n before p ≡ closing_clauses d a n before p
  closing-same p low =
      let here = ap (λ l. frame_in l p) are ∙ frame-is (literals_of d a) n p (omega arith) in
      let last = ap (λ l. frame_in l n) are ∙ frame-is (literals_of d a) n n (omega arith) in
      let g = begins_at a n before p in
      ap (λ xs. flat_map (λ s. same_under g (literal_at 0 (frame_in frames p) s) (literal_at 0 (frame_in frames n) s)) xs ++ same_places a n before p) free
      ∙ ap (λ l. flat_map (λ s. same_under g (literal_at 0 l s) (literal_at 0 (frame_in frames n) s)) (free_in d a) ++ same_places a n before p) here
      ∙ ap (λ l. flat_map (λ s. same_under g (literal_at 0 (literals_of d a p) s) (literal_at 0 l s)) (free_in d a) ++ same_places a n before p) last

  pub closings-same : flat_map (closed_in a frames signals n before) (range_with_len 0 n) ≡ flat_map (closing_clauses d a n before) (range_with_len 0 n)
  closings-same = flat-same (closed_in a frames signals n before) (closing_clauses d a n before) n closing-same n 0 (omega arith)

-- the frames of two places, where they are known
pub frames-part : (g g' : ℤ) (h h' l l' : List ℤ) (xs : List ℕ) → g ≡ g' → h ≡ h' → l ≡ l'
    → flat_map (λ s. same_under g (literal_at 0 h s) (literal_at 0 l s)) xs ≡ flat_map (λ s. same_under g' (literal_at 0 h' s) (literal_at 0 l' s)) xs
frames-part g g' h h' l l' xs e f k =
    ap (λ x. flat_map (λ s. same_under x (literal_at 0 h s) (literal_at 0 l s)) xs) e ∙ ap (λ x. flat_map (λ s. same_under g' (literal_at 0 x s) (literal_at 0 l s)) xs) f
    ∙ ap (λ x. flat_map (λ s. same_under g' (literal_at 0 h' s) (literal_at 0 x s)) xs) k

-- where there is a literal, it does not matter what stands behind the last one
pub there : (xs : List ℤ) (i : ℕ) (d e : ℤ) → i < length xs → get_or xs i d ≡ get_or xs i e
there [] i d e low = absurd (omega arith)
there (x ∷ xs) zero d e low = refl
there (x ∷ xs) (suc i) d e low = there xs i d e (omega arith)

-- values of the places of a range
pub range-values : {X : Type 0} (f g : ℕ → X) (bound : ℕ) → ((p : ℕ) → p < bound → f p ≡ g p) → (count first : ℕ) → first + count ≤ bound
    → map f (range_with_len first count) ≡ map g (range_with_len first count)
range-values f g bound same zero first few = refl
range-values f g bound same (suc count) first few =
    ap (λ x. x ∷ map f (range_with_len (first + 1) count)) (same first (omega arith))
    ∙ ap (λ l. g first ∷ l) (range-values f g bound same count (first + 1) (omega arith))
