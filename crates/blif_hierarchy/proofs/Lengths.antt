-- How long lines are below models, round by round, and the first placement of the top with which they are too long.
use Rattle.std.proofs.Common.{◌≡◌, ℕ, zero, suc, ◌+◌, ◌-◌, ◌<◌, ◌≤◌, Bool, true, false, cond, nat_lt, min, List, [], ◌∷◌, length, map, fold, take, drop, get_or, slice_get, sum_by, Option, Some, None, refl, sym, ap, ◌∙◌, subst, ⊎_elim, inr, arith}
use Rattle.std.proofs.lemmas.List.{length-drop}
use Rattle.std.proofs.lemmas.List.Sums.{sum_by-cons, sum_by_push}
use Rattle.std.proofs.lemmas.Bool.{false≢true}
use Rattle.blif_flattening.specs.declared.model.Placement.{Placement}
use Rattle.blif_flattening.specs.declared.model.Model.{Model}
use Rattle.blif_flattening.specs.declared.model.TheConstants.{DEEPEST}
use Rattle.blif_flattening.specs.Hierarchy.{placements_in}
use Rattle.blif_hierarchy.specs.declared.cost.Scale.{Scale}
use Rattle.blif_hierarchy.specs.Sums.{placements_of, line_bytes, bytes_below, bytes_with, instance_size, size_below, size_with, IsLong, IsPast, IsFirstWith, FindsLong, FindsPast}
use Rattle.blif_hierarchy.specs.Sums.{HasBytes, with_lines, bytes_after, long_from}
use Rattle.blif_hierarchy.proofs.Costs.{capped-sum, last_or, lt-min, min-lt, take-next}

module _ (Line : Type 0) (models : List (Model Line)) (scale : Scale) (levels : ℕ) (below : List ℕ) (has : HasBytes models scale levels below) where
  abbrev bytes-of : Placement → ℕ
  bytes-of placement = line_bytes scale.starts placement.model + bytes_below models scale.starts levels placement.model

  abbrev up-to : ℕ → ℕ
  up-to n = min n (scale.size + 1)

  pub one-more : (sum : ℕ) (placement : Placement) → with_lines scale below (up-to sum) placement ≡ up-to (sum + bytes-of placement)
  one-more sum placement =
      ap (λ n. up-to (up-to sum + line_bytes scale.starts placement.model + n)) (has placement.model)
      ∙ capped-sum sum (line_bytes scale.starts placement.model) (bytes_below models scale.starts levels placement.model) (scale.size + 1)

  all-more : (sum : ℕ) (placements : List Placement) → fold (with_lines scale below) (up-to sum) placements ≡ up-to (sum + sum_by bytes-of placements)
  all-more sum [] = let one : sum ≡ sum + sum_by bytes-of [] = omega arith in ap up-to one
  all-more sum (placement ∷ placements) =
      let first = sum_by-cons bytes-of placement placements in
      let one : sum + bytes-of placement + sum_by bytes-of placements ≡ sum + sum_by bytes-of (placement ∷ placements) = omega (arith, first) in
      ap (λ n. fold (with_lines scale below) n placements) (one-more sum placement) ∙ all-more (sum + bytes-of placement) placements ∙ ap up-to one

  after-at : (list : List (Model Line)) (model : ℕ) → get_or (map (bytes_after scale below) list) model 0 ≡ fold (with_lines scale below) 0 (placements_of list model)
  after-at [] model = refl
  after-at (first ∷ list) zero = refl
  after-at (first ∷ list) (suc model) = after-at list model

  pub bytes-next : (next : List ℕ) → next ≡ map (bytes_after scale below) models → HasBytes models scale (suc levels) next
  bytes-next next is = λ model.
      let none : 0 ≡ up-to 0 = grind arith in
      let one : 0 + sum_by bytes-of (placements_of models model) ≡ sum_by bytes-of (placements_of models model) = omega arith in
      ap (λ xs. get_or xs model 0) is ∙ after-at models model ∙ ap (λ n. fold (with_lines scale below) n (placements_of models model)) none
      ∙ all-more 0 (placements_of models model) ∙ ap up-to one

-- where a round changes nothing, no later one does
pub bytes-still : (Line : Type 0) (models : List (Model Line)) (scale : Scale) (below : List ℕ) → below ≡ map (bytes_after scale below) models
    → (levels more : ℕ) → HasBytes models scale levels below → HasBytes models scale (levels + more) below
bytes-still Line models scale below same levels zero has =
    let all : levels ≡ levels + 0 = omega arith in
    subst (λ n. HasBytes models scale n below) all has
bytes-still Line models scale below same levels (suc more) has =
    let all : suc (levels + more) ≡ levels + suc more = omega arith in
    subst (λ n. HasBytes models scale n below) all
    (bytes-next Line models scale (levels + more) below (bytes-still Line models scale below same levels more has) below same)

module _ (Line : Type 0) (models : List (Model Line)) (scale : Scale) (below : List ℕ) (has : HasBytes models scale (DEEPEST - 1) below) where
  placements : List Placement
  placements = placements_of models 0

  -- the top with so many of its placements
  abbrev sum-with : ℕ → ℕ
  sum-with k = min (bytes_with models scale.starts k) (scale.size + 1)

  next-is : (k : ℕ) (placement : Placement) (rest : List Placement) → drop k placements ≡ placement ∷ rest
      → with_lines scale below (sum-with k) placement ≡ sum-with (suc k)
  unfolding placements
  next-is k placement rest is =
      let of = bytes-of Line models scale (DEEPEST - 1) below has in
      let more : sum_by of (take (suc k) (placements_of models 0)) ≡ sum_by of (take k (placements_of models 0)) + of placement =
      ap (sum_by of) (take-next k placements placement rest is).0 ∙ sum_by_push of (take k placements) placement in
      let same : bytes_with models scale.starts k + of placement ≡ bytes_with models scale.starts (suc k) = omega (arith, more) in
      one-more Line models scale (DEEPEST - 1) below has (bytes_with models scale.starts k) placement ∙ ap (λ n. min n (scale.size + 1)) same

  from-place : (k number sum : ℕ) (rest : List Placement) → number ≡ k → drop k placements ≡ rest
      → sum ≡ sum-with k → ((earlier : ℕ) → earlier < k → IsLong models scale earlier → ⊥)
      → FindsLong models scale (long_from scale below sum number rest)
  unfolding placements
  from-place k number sum [] at left is none = λ j lt long.
      let size : length (drop k placements) ≡ 0 = ap length left in
      none j (omega (arith, size, length-drop k placements)) long
  from-place k number sum (placement ∷ rest) at left is none =
      let next : ℕ = with_lines scale below sum placement in
      let is_next : next ≡ sum-with (suc k) = ap (λ n. with_lines scale below n placement) is ∙ next-is k placement rest left in
      let after = take-next k placements placement rest left in
      by_test k number rest at after.2 none (nat_lt scale.size next) (ap (nat_lt scale.size) (sym is_next))
      next (λ fresh. from-place (suc k) (number + 1) next rest (omega (arith, at)) after.1 is_next fresh)
    where
      by_test : (k number : ℕ) (rest : List Placement) → number ≡ k → k < length placements
          → ((earlier : ℕ) → earlier < k → IsLong models scale earlier → ⊥) → (test : Bool)
          → nat_lt scale.size (sum-with (suc k)) ≡ test → (next : ℕ)
          → (((earlier : ℕ) → earlier < suc k → IsLong models scale earlier → ⊥) → FindsLong models scale (long_from scale below next (number + 1) rest))
          → FindsLong models scale (cond test (Some number) (long_from scale below next (number + 1) rest))
      by_test k number rest at lt none true is next later =
          subst (λ n. IsFirstWith (length placements) (IsLong models scale) n) (sym at)
          (record { there = lt; past = lt-min scale.size (bytes_with models scale.starts (suc k)) is; first = none })
      by_test k number rest at lt none false is next later =
          later (λ earlier less long. ⊎_elim (λ before. none earlier before long)
          (λ same. false≢true (sym is ∙ min-lt scale.size (bytes_with models scale.starts (suc k)) (subst (λ n. IsLong models scale n) same long)))
          (last_or earlier k less))

  pub finds-long : (sum : ℕ) (items : List Placement) → items ≡ placements_of models 0 → sum ≡ min (line_bytes scale.starts 0) (scale.size + 1)
      → FindsLong models scale (long_from scale below sum 0 items)
  unfolding placements
  finds-long sum items all is =
      let same : line_bytes scale.starts 0 ≡ bytes_with models scale.starts 0 = omega arith in
      from-place 0 0 sum items refl (sym all) (is ∙ ap (λ n. min n (scale.size + 1)) same) (λ earlier lt long. absurd (omega arith))

-- the lines of instances take no more than their lines and names
sums-less : (before after : Placement → ℕ) → ((p : Placement) → before p ≤ after p) → (placements : List Placement) → sum_by before placements ≤ sum_by after placements
sums-less before after less [] = omega arith
sums-less before after less (placement ∷ placements) =
    omega (
      arith,
      sum_by-cons before placement placements,
      sum_by-cons after placement placements,
      less placement,
      sums-less before after less placements,
    )

module _ {Line : Type 0} (models : List (Model Line)) where
  below-less : (starts : List ℕ) (levels model : ℕ) → bytes_below models starts levels model ≤ size_below models starts levels model
  below-less starts zero model = omega arith
  below-less starts (suc levels) model =
      sums-less (λ p. line_bytes starts p.model + bytes_below models starts levels p.model)
      (λ p. instance_size models starts p.model + size_below models starts levels p.model)
      (λ p. omega (arith, below-less starts levels p.model)) (placements_of models model)

  long-past : (scale : Scale) (k : ℕ) → IsLong models scale k → IsPast models scale k
  long-past scale k long =
      let less = sums-less (λ p. line_bytes scale.starts p.model + bytes_below models scale.starts (DEEPEST - 1) p.model)
      (λ p. instance_size models scale.starts p.model + size_below models scale.starts (DEEPEST - 1) p.model)
      (λ p. omega (arith, below-less scale.starts (DEEPEST - 1) p.model)) (take (suc k) (placements_of models 0)) in
      inr (inr (omega (arith, long, less)))

  -- where no limit is passed, lines are not too long
  pub none-long : (scale : Scale) → FindsPast models scale None → FindsLong models scale None
  none-long scale none = λ k lt long. none k lt (long-past scale k long)

-- nor where there is no top
pub no-top : {Line : Type 0} (models : List (Model Line)) (scale : Scale) → slice_get models 0 ≡ None → FindsLong models scale None
no-top [] scale is = λ k lt long. absurd (omega (arith, lt))
no-top (first ∷ models) scale is = cc
