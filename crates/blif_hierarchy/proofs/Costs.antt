-- What is below models, round by round, and the first placement of the top that passes a limit.
use Rattle.std.proofs.Common.{◌≡◌, ℕ, zero, suc, ◌+◌, ◌-◌, ◌<◌, ◌≤◌, inl, inr, ◌⊎◌, Bool, true, false, cond, ◌||◌, nat_lt, ltb, min, List, [], ◌∷◌, ◌++◌, length, map, fold, take, drop, get_or, slice_get, sum_by, Option, Some, None, IfNone, refl, sym, ap, ◌∙◌, subst, ⊎_elim, arith}
use Rattle.std.proofs.lemmas.List.{length-map, length-drop, take_all}
use Rattle.std.proofs.lemmas.List.Sums.{sum_by-cons, sum_by_push}
use Rattle.std.proofs.lemmas.Bool.{false≢true, ltb-true, lt-ltb}
use Rattle.blif_flattening.specs.declared.model.Placement.{Placement}
use Rattle.blif_flattening.specs.declared.model.Item.{Item}
use Rattle.blif_flattening.specs.declared.model.Model.{Model}
use Rattle.blif_flattening.specs.declared.model.TheConstants.{DEEPEST}
use Rattle.blif_flattening.specs.Hierarchy.{items_of, placements_in}
use Rattle.blif_flattening.specs.Instances.{names_of}
use Rattle.blif_flattening.specs.Members.{Among}
use Rattle.blif_flattening.proofs.Visiting.{items_of-get, names_of-get}
use Rattle.blif_hierarchy.specs.declared.cost.Cost.{Cost}
use Rattle.blif_hierarchy.specs.Drivers.{IsInForm}
use Rattle.blif_hierarchy.specs.First.{IsClosed}
use Rattle.blif_hierarchy.specs.declared.cost.Scale.{Scale}
use Rattle.blif_hierarchy.specs.Sums.{placements_of, own_count, signals_below, instances_below, size_below, instance_size, signals_with, instances_with, size_with, signal_count, IsOver, IsPast, IsFirstWith, FindsPast}
use Rattle.blif_hierarchy.specs.Sums.{no_cost, capped, cost_below, with_placement, cost_after, is_over, past_from, HasCosts, AreInForm}
use Rattle.blif_hierarchy.proofs.Depths.{placement-among}
use Rattle.blif_hierarchy.proofs.Fitting.{own-is}

-- sums that are capped
pub capped-sum : (a own b cap : ℕ) → min (min a cap + own + min b cap) cap ≡ min (a + (own + b)) cap
capped-sum a own b cap = grind arith

same-cost : (signals signals' instances instances' size size' : ℕ) → signals ≡ signals' → instances ≡ instances' → size ≡ size'
    → ◌≡◌ {A = Cost} (record { signals = signals; instances = instances; size = size }) (record { signals = signals'; instances = instances'; size = size' })
same-cost signals signals' instances instances' size size' one other third = cc

same-capped : (scale : Scale) (signals signals' instances instances' size size' : ℕ) → signals ≡ signals' → instances ≡ instances' → size ≡ size'
    → capped scale signals instances size ≡ capped scale signals' instances' size'
same-capped scale signals signals' instances instances' size size' one other third =
    same-cost _ _ _ _ _ _ (ap (λ n. min n (scale.count + 1)) one) (ap (λ n. min n (scale.count + 1)) other) (ap (λ n. min n (scale.size + 1)) third)

none-capped : (scale : Scale) → no_cost ≡ capped scale 0 0 0
none-capped scale =
    let count : 0 ≡ min 0 (scale.count + 1) = grind arith in
    let size : 0 ≡ min 0 (scale.size + 1) = grind arith in
    same-cost _ _ _ _ _ _ count count size

module _ (Line : Type 0) (models : List (Model Line)) (scale : Scale) (levels : ℕ) (costs : List Cost) (has : HasCosts models scale levels costs) where
  abbrev signals-of : Placement → ℕ
  signals-of placement = own_count placement.connections (names_of models placement.model) + signals_below models levels placement.model

  abbrev instances-of : Placement → ℕ
  instances-of placement = 1 + instances_below models levels placement.model

  abbrev size-of : Placement → ℕ
  size-of placement = instance_size models scale.starts placement.model + size_below models scale.starts levels placement.model

  pub one-more : (a b c : ℕ) (placement : Placement) → placement.model < length models → IsInForm models placement
      → with_placement models scale costs (capped scale a b c) placement
      ≡ capped scale (a + signals-of placement) (b + instances-of placement) (c + size-of placement)
  one-more a b c placement closed form =
      let count : ℕ = scale.count + 1 in
      let room : ℕ = scale.size + 1 in
      let own = own-is Line models placement form in
      let below : get_or costs placement.model no_cost ≡ cost_below models scale levels placement.model = has.each placement.model closed in
      let signals : (get_or costs placement.model no_cost).signals ≡ min (signals_below models levels placement.model) count = ap (λ (c : Cost). c.signals) below in
      let instances : (get_or costs placement.model no_cost).instances ≡ min (instances_below models levels placement.model) count = ap (λ (c : Cost). c.instances) below in
      let size : (get_or costs placement.model no_cost).size ≡ min (size_below models scale.starts levels placement.model) room = ap (λ (c : Cost). c.size) below in
      let left : ℕ = names_of models placement.model - length placement.connections in
      same-cost _ _ _ _ _ _
      (ap (λ n. min (min a count + left + n) count) signals ∙ ap (λ n. min (min a count + n + min (signals_below models levels placement.model) count) count) own
      ∙ capped-sum a (own_count placement.connections (names_of models placement.model)) (signals_below models levels placement.model) count)
      (ap (λ n. min (min b count + 1 + n) count) instances ∙ capped-sum b 1 (instances_below models levels placement.model) count)
      (ap (λ n. min (min c room + instance_size models scale.starts placement.model + n) room) size
      ∙ capped-sum c (instance_size models scale.starts placement.model) (size_below models scale.starts levels placement.model) room)

  all-more : (a b c : ℕ) (placements : List Placement)
      → ((placement : Placement) → Among placement placements → (placement.model < length models) × IsInForm models placement)
      → fold (with_placement models scale costs) (capped scale a b c) placements
      ≡ capped scale (a + sum_by signals-of placements) (b + sum_by instances-of placements) (c + sum_by size-of placements)
  all-more a b c [] all =
      let one : a ≡ a + sum_by signals-of [] = omega arith in
      let other : b ≡ b + sum_by instances-of [] = omega arith in
      let third : c ≡ c + sum_by size-of [] = omega arith in
      same-capped scale _ _ _ _ _ _ one other third
  all-more a b c (placement ∷ placements) all =
      let here = all placement (inl refl) in
      let first = sum_by-cons signals-of placement placements in
      let second = sum_by-cons instances-of placement placements in
      let third = sum_by-cons size-of placement placements in
      ap (λ (c : Cost). fold (with_placement models scale costs) c placements) (one-more a b c placement here.0 here.1)
      ∙ all-more (a + signals-of placement) (b + instances-of placement) (c + size-of placement) placements (λ other there. all other (inr there))
      ∙ same-capped scale _ _ _ _ _ _
      (let one : a + signals-of placement + sum_by signals-of placements ≡ a + sum_by signals-of (placement ∷ placements) = omega (arith, first) in one)
      (let one : b + instances-of placement + sum_by instances-of placements ≡ b + sum_by instances-of (placement ∷ placements) = omega (arith, second) in one)
      (let one : c + size-of placement + sum_by size-of placements ≡ c + sum_by size-of (placement ∷ placements) = omega (arith, third) in one)

  after-at : (list : List (Model Line)) (model : ℕ) → model < length list
      → get_or (map (cost_after models scale costs) list) model no_cost ≡ fold (with_placement models scale costs) no_cost (placements_of list model)
  after-at [] model lt = absurd (omega arith)
  after-at (first ∷ list) zero lt = refl
  after-at (first ∷ list) (suc model) lt = after-at list model (omega arith)

  module _ (closed : IsClosed models) (form : AreInForm models) where
    pub placed-well : (model : ℕ) (placement : Placement) → Among placement (placements_of models model) → (placement.model < length models) × IsInForm models placement
    placed-well model placement there =
        let among = placement-among (items_of models model) placement there in
        (closed model placement among, form model placement among)

    pub HasCosts-next : (next : List Cost) → next ≡ map (cost_after models scale costs) models → HasCosts models scale (suc levels) next
    HasCosts-next next is = record {
      size = ap length is ∙ length-map models (cost_after models scale costs);
      each = λ model lt.
          let one : 0 + sum_by signals-of (placements_of models model) ≡ sum_by signals-of (placements_of models model) = omega arith in
          let other : 0 + sum_by instances-of (placements_of models model) ≡ sum_by instances-of (placements_of models model) = omega arith in
          let third : 0 + sum_by size-of (placements_of models model) ≡ sum_by size-of (placements_of models model) = omega arith in
          ap (λ xs. get_or xs model no_cost) is ∙ after-at models model lt
          ∙ ap (λ (c : Cost). fold (with_placement models scale costs) c (placements_of models model)) (none-capped scale)
          ∙ all-more 0 0 0 (placements_of models model) (placed-well model)
          ∙ same-capped scale _ _ _ _ _ _ one other third;
    }

pub last_or : (n m : ℕ) → n < suc m → (n < m) ⊎ (n ≡ m)
last_or n m less = grind arith

small_or : (n m : ℕ) → (n ≤ m) ⊎ (m < n)
small_or n m = grind arith

-- one more of a list is taken
pub take-next : {X : Type 0} (k : ℕ) (xs : List X) (x : X) (rest : List X) → drop k xs ≡ x ∷ rest → (take (suc k) xs ≡ take k xs ++ x ∷ []) × (drop (suc k) xs ≡ rest) × (k < length xs)
take-next zero [] x rest is = cc
take-next zero (y ∷ xs) x rest is =
    let first : y ≡ x = cc in
    let later : xs ≡ rest = cc in
    (ap (λ z. z ∷ []) first, later, omega arith)
take-next (suc k) [] x rest is = cc
take-next (suc k) (y ∷ xs) x rest is =
    let next = take-next k xs x rest is in
    (ap (λ zs. y ∷ zs) next.0, next.1, omega (arith, next.2))

-- what is counted up to one more than is allowed passes a limit where the number does
pub lt-min : (limit n : ℕ) → nat_lt limit (min n (limit + 1)) ≡ true → limit < n
lt-min limit n is = let less = ltb-true limit (min n (limit + 1)) is in grind (arith, less)

pub min-lt : (limit n : ℕ) → limit < n → nat_lt limit (min n (limit + 1)) ≡ true
min-lt limit n less = lt-ltb limit (min n (limit + 1)) (grind (arith, less))

or-true : (a b : Bool) → (a || b) ≡ true → (a ≡ true) ⊎ (b ≡ true)
or-true true b is = inl refl
or-true false b is = inr is

or-left : (a b : Bool) → a ≡ true → (a || b) ≡ true
or-left true b is = refl
or-left false b is = absurd (false≢true is)

or-right : (a b : Bool) → b ≡ true → (a || b) ≡ true
or-right true b is = refl
or-right false b is = is

module _ (scale : Scale) (signals instances size : ℕ) where
  passes : is_over scale (capped scale signals instances size) ≡ true → IsOver scale signals instances size
  passes is =
      ⊎_elim (λ first. inl (lt-min scale.count signals first))
      (λ rest. inr (⊎_elim (λ second. inl (lt-min scale.count instances second)) (λ third. inr (lt-min scale.size size third))
      (or-true (nat_lt scale.count (min instances (scale.count + 1))) (nat_lt scale.size (min size (scale.size + 1))) rest)))
      (or-true (nat_lt scale.count (min signals (scale.count + 1)))
      (nat_lt scale.count (min instances (scale.count + 1)) || nat_lt scale.size (min size (scale.size + 1))) is)

  over : IsOver scale signals instances size → is_over scale (capped scale signals instances size) ≡ true
  over (inl first) = or-left (nat_lt scale.count (min signals (scale.count + 1))) (nat_lt scale.count (min instances (scale.count + 1)) || nat_lt scale.size (min size (scale.size + 1))) (min-lt scale.count signals first)
  over (inr (inl second)) =
      or-right (nat_lt scale.count (min signals (scale.count + 1))) (nat_lt scale.count (min instances (scale.count + 1)) || nat_lt scale.size (min size (scale.size + 1)))
      (or-left (nat_lt scale.count (min instances (scale.count + 1))) (nat_lt scale.size (min size (scale.size + 1))) (min-lt scale.count instances second))
  over (inr (inr third)) =
      or-right (nat_lt scale.count (min signals (scale.count + 1))) (nat_lt scale.count (min instances (scale.count + 1)) || nat_lt scale.size (min size (scale.size + 1)))
      (or-right (nat_lt scale.count (min instances (scale.count + 1))) (nat_lt scale.size (min size (scale.size + 1))) (min-lt scale.size size third))

module _ (Line : Type 0) (models : List (Model Line)) (scale : Scale) (costs : List Cost) (has : HasCosts models scale (DEEPEST - 1) costs)
    (closed : IsClosed models) (form : AreInForm models) where
  placements : List Placement
  placements = placements_of models 0

  -- the top with so many of its placements
  abbrev cost-with : ℕ → Cost
  cost-with k = capped scale (signals_with models k) (instances_with models k) (size_with models scale.starts k)

  sum-next : (of : Placement → ℕ) (k : ℕ) (placement : Placement) (rest : List Placement) → drop k placements ≡ placement ∷ rest
      → sum_by of (take (suc k) placements) ≡ sum_by of (take k placements) + of placement
  sum-next of k placement rest is = ap (sum_by of) (take-next k placements placement rest is).0 ∙ sum_by_push of (take k placements) placement

  next-is : (k : ℕ) (placement : Placement) (rest : List Placement) → drop k placements ≡ placement ∷ rest
      → with_placement models scale costs (cost-with k) placement ≡ cost-with (suc k)
  unfolding placements
  next-is k placement rest is =
      let well = placed-well Line models scale (DEEPEST - 1) costs has closed form 0 placement (dropped k placements is) in
      let one = sum-next (signals-of Line models scale (DEEPEST - 1) costs has) k placement rest is in
      let other = sum-next (instances-of Line models scale (DEEPEST - 1) costs has) k placement rest is in
      let third = sum-next (size-of Line models scale (DEEPEST - 1) costs has) k placement rest is in
      one-more Line models scale (DEEPEST - 1) costs has (signals_with models k) (instances_with models k) (size_with models scale.starts k) placement well.0 well.1
      ∙ same-capped scale _ _ _ _ _ _
      (let same : signals_with models k + signals-of Line models scale (DEEPEST - 1) costs has placement ≡ signals_with models (suc k) = omega (arith, one) in same)
      (let same : instances_with models k + instances-of Line models scale (DEEPEST - 1) costs has placement ≡ instances_with models (suc k) = omega (arith, other) in same)
      (let same : size_with models scale.starts k + size-of Line models scale (DEEPEST - 1) costs has placement ≡ size_with models scale.starts (suc k) = omega (arith, third) in same)
    where
      dropped : (n : ℕ) (xs : List Placement) → drop n xs ≡ placement ∷ rest → Among placement xs
      dropped zero [] same = cc
      dropped zero (y ∷ xs) same = inl (let first : y ≡ placement = cc in first)
      dropped (suc n) [] same = cc
      dropped (suc n) (y ∷ xs) same = inr (dropped n xs same)

  from-place : (k number : ℕ) (sum : Cost) (rest : List Placement) → number ≡ k → drop k placements ≡ rest
      → sum ≡ cost-with k → ((earlier : ℕ) → earlier < k → IsPast models scale earlier → ⊥)
      → FindsPast models scale (past_from models scale costs sum number rest)
  unfolding placements
  from-place k number sum [] at left is none = λ j lt past.
      let size : length (drop k placements) ≡ 0 = ap length left in
      none j (omega (arith, size, length-drop k placements)) past
  from-place k number sum (placement ∷ rest) at left is none =
      let next : Cost = with_placement models scale costs sum placement in
      let is_next : next ≡ cost-with (suc k) = ap (λ (c : Cost). with_placement models scale costs c placement) is ∙ next-is k placement rest left in
      let after = take-next k placements placement rest left in
      by_test k number placement rest at after.2 none (is_over scale next) (ap (is_over scale) (sym is_next))
      next (λ fresh. from-place (suc k) (number + 1) next rest (omega (arith, at)) after.1 is_next fresh)
    where
      by_test : (k number : ℕ) (placement : Placement) (rest : List Placement) → number ≡ k → k < length placements
          → ((earlier : ℕ) → earlier < k → IsPast models scale earlier → ⊥) → (test : Bool)
          → is_over scale (cost-with (suc k)) ≡ test → (next : Cost)
          → (((earlier : ℕ) → earlier < suc k → IsPast models scale earlier → ⊥) → FindsPast models scale (past_from models scale costs next (number + 1) rest))
          → FindsPast models scale (cond test (Some number) (past_from models scale costs next (number + 1) rest))
      by_test k number placement rest at lt none true is next later =
          subst (λ n. IsFirstWith (length placements) (IsPast models scale) n) (sym at)
          (record { there = lt; past = passes scale (signals_with models (suc k)) (instances_with models (suc k)) (size_with models scale.starts (suc k)) is; first = none })
      by_test k number placement rest at lt none false is next later =
          later (λ earlier less past. ⊎_elim (λ before. none earlier before past)
          (λ same. false≢true (sym is ∙ over scale (signals_with models (suc k)) (instances_with models (suc k)) (size_with models scale.starts (suc k)) (subst (λ n. IsPast models scale n) same past)))
          (last_or earlier k less))

  pub finds-past : (sum : Cost) (items : List Placement) → items ≡ placements_of models 0 → sum ≡ capped scale (names_of models 0) 0 (instance_size models scale.starts 0)
      → FindsPast models scale (past_from models scale costs sum 0 items)
  unfolding placements
  finds-past sum items all is =
      from-place 0 0 sum items refl (sym all)
      (is ∙ same-capped scale _ _ _ _ _ _
      (let same : names_of models 0 ≡ signals_with models 0 = omega arith in same)
      (let same : 0 ≡ instances_with models 0 = omega arith in same)
      (let same : instance_size models scale.starts 0 ≡ size_with models scale.starts 0 = omega arith in same))
      (λ earlier lt past. absurd (omega arith))

-- where no placement of the top passes a limit, the hierarchy is within it
pub within-limit : (Line : Type 0) (models : List (Model Line)) (scale : Scale) (found : Option ℕ) → FindsPast models scale found → names_of models 0 ≤ scale.count
    → IfNone found (signal_count models ≤ scale.count)
unfolding signal_count
within-limit Line models scale (Some k) finds few = tt
within-limit Line models scale None finds few = by_size (placements_of models 0) refl
  where
    by_size : (list : List Placement) → placements_of models 0 ≡ list → names_of models 0 + signals_below models DEEPEST 0 ≤ scale.count
    by_size [] is =
        let none : signals_below models DEEPEST 0 ≡ 0 =
        ap (sum_by (λ (placement : Placement). own_count placement.connections (names_of models placement.model) + signals_below models (DEEPEST - 1) placement.model)) is in
        omega (arith, none, few)
    by_size (placement ∷ list) is =
        let size : length (placements_of models 0) ≡ suc (length list) = ap length is in
        let all : take (suc (length list)) (placements_of models 0) ≡ placements_of models 0 = take_all (suc (length list)) (placements_of models 0) (omega (arith, size)) in
        let sums : signals_with models (suc (length list)) ≡ names_of models 0 + signals_below models DEEPEST 0 =
        ap (λ ps. names_of models 0 + sum_by (λ (p : Placement). own_count p.connections (names_of models p.model) + signals_below models (DEEPEST - 1) p.model) ps) all in
        ⊎_elim (λ small. omega (arith, small, sums)) (λ large. absurd (finds (length list) (omega (arith, size)) (inl large)))
        (small_or (signals_with models (suc (length list))) scale.count)

pub no-models : {Line : Type 0} (models : List (Model Line)) (limit : ℕ) → slice_get models 0 ≡ None → names_of models 0 ≤ limit → signal_count models ≤ limit
unfolding signal_count
no-models [] limit is few = omega arith
no-models (first ∷ models) limit is few = cc

-- what the code reads of the top
pub top-placements : {Line : Type 0} (models : List (Model Line)) (top : Model Line) (items : List (Item Line)) → slice_get models 0 ≡ Some top → items ≡ top.items
    → placements_in items ≡ placements_of models 0
top-placements models top items at is = ap placements_in is ∙ ap placements_in (sym (items_of-get models 0 top at))
