-- The depths of models, round by round.
use Rattle.std.proofs.Common.{◌≡◌, ℕ, zero, suc, ◌+◌, ◌<◌, ◌≤◌, ◌⊎◌, inl, inr, Bool, true, false, cond, nat_le, List, [], ◌∷◌, ◌++◌, length, map, take, get_or, slice_get, All, Option, Some, None, refl, sym, ap, ◌∙◌, subst, ⊎_elim, arith}
use Rattle.std.specs.List.{position_from}
use Rattle.std.proofs.lemmas.List.{map_more, length-map}
use Rattle.std.proofs.lemmas.Bool.{false≢true, cases_lt, leb-true, le-leb}
use Rattle.std.proofs.lemmas.Option.{none-some}
use Rattle.blif_flattening.specs.declared.model.Placement.{Placement}
use Rattle.blif_flattening.specs.declared.model.Item.{Item}
use Rattle.blif_flattening.specs.declared.model.Item.TheVariants.{Own, Place}
use Rattle.blif_flattening.specs.declared.model.Model.{Model}
use Rattle.blif_flattening.specs.declared.model.TheConstants.{DEEPEST}
use Rattle.blif_flattening.specs.Hierarchy.{items_of, placements_in, placement_of}
use Rattle.blif_flattening.specs.Members.{Among}
use Rattle.blif_flattening.proofs.Visiting.{items_of-get}
use Rattle.blif_hierarchy.specs.Depth.{largest, depth_of, depths_after, HasDepths, IsTooDeep}
use Rattle.blif_hierarchy.specs.First.{IsFirst, IsClosed}
use Rattle.blif_hierarchy.specs.Sums.{placements_of}

-- what a model places stands among its items
pub placement-among : {Line : Type 0} (items : List (Item Line)) (placement : Placement) → Among placement (placements_in items) → Among (Place placement) items
placement-among [] placement none = absurd none
placement-among (Own line ∷ items) placement there = inr (placement-among items placement there)
placement-among (Place other ∷ items) placement (inl here) = inl (ap (λ (p : Placement). Place p) here)
placement-among (Place other ∷ items) placement (inr there) = inr (placement-among items placement there)

-- no depth is larger than what it is counted up to
largest-most : (numbers : List ℕ) (most : ℕ) → ((number : ℕ) → Among number numbers → number ≤ most) → largest numbers ≤ most
largest-most [] most all = omega arith
largest-most (number ∷ numbers) most all =
    let here = all number (inl refl) in
    let rest = largest-most numbers most (λ other there. all other (inr there)) in
    grind (arith, here, rest)

depths-most : {Line : Type 0} (models : List (Model Line)) (most : ℕ) → ((model : ℕ) → depth_of models most model ≤ most) → (placements : List Placement)
    → largest (map (λ (placement : Placement). depth_of models most placement.model) placements) ≤ most
depths-most models most all [] = omega arith
depths-most models most all (placement ∷ placements) =
    let here = all placement.model in
    let rest = depths-most models most all placements in
    grind (arith, here, rest)

pub depth-most : {Line : Type 0} (models : List (Model Line)) (most model : ℕ) → depth_of models most model ≤ most
depth-most models zero model = omega arith
depth-most models (suc most) model =
    let rest = depths-most models most (depth-most models most) (placements_of models model) in omega (arith, rest)

pub few-depths : {Line : Type 0} (models : List (Model Line)) (most : ℕ) (depths : List ℕ) → HasDepths models most depths → most < DEEPEST
    → All (λ depth. depth < DEEPEST) depths
few-depths models most depths has few k d lt =
    let at : get_or depths k d ≡ get_or depths k 0 = same depths k d lt in
    let small = depth-most models most k in
    omega (arith, at, small, has.each k (omega (arith, has.size)))
  where
    same : (xs : List ℕ) (k d : ℕ) → k < length xs → get_or xs k d ≡ get_or xs k 0
    same [] k d lt = absurd (omega arith)
    same (x ∷ xs) zero d lt = refl
    same (x ∷ xs) (suc k) d lt = same xs k d (omega arith)

-- one round more
pub deeper-next : {Line : Type 0} (models : List (Model Line)) (depths : List ℕ) (i depth : ℕ) (model : Model Line) → i < length models
    → model ≡ get_or models i model → depth ≡ largest (map (λ (placement : Placement). get_or depths placement.model 0) (placements_in model.items))
    → map (depths_after depths) (take i models) ++ (depth + 1) ∷ [] ≡ map (depths_after depths) (take (i + 1) models)
deeper-next models depths i depth model lt is deep =
    let here : depth + 1 ≡ depths_after depths (get_or models i model) =
    (let one : depth + 1 ≡ depths_after depths model = omega (arith, deep) in one ∙ ap (depths_after depths) is) in
    ap (λ n. map (depths_after depths) (take i models) ++ n ∷ []) here ∙ sym (map_more (depths_after depths) models i model lt)

after-at : {Line : Type 0} (models : List (Model Line)) (depths : List ℕ) (model : ℕ) → model < length models
    → get_or (map (depths_after depths) models) model 0 ≡ suc (largest (map (λ (placement : Placement). get_or depths placement.model 0) (placements_of models model)))
after-at [] depths model lt = absurd (omega arith)
after-at (first ∷ models) depths zero lt = refl
after-at (first ∷ models) depths (suc model) lt = after-at models depths model (omega arith)

same-depths : {Line : Type 0} (models : List (Model Line)) (most : ℕ) (depths : List ℕ) → HasDepths models most depths → (placements : List Placement)
    → ((placement : Placement) → Among placement placements → placement.model < length models)
    → map (λ (placement : Placement). get_or depths placement.model 0) placements ≡ map (λ (placement : Placement). depth_of models most placement.model) placements
same-depths models most depths has [] closed = refl
same-depths models most depths has (placement ∷ placements) closed =
    let here : get_or depths placement.model 0 ≡ depth_of models most placement.model = has.each placement.model (closed placement (inl refl)) in
    let rest = same-depths models most depths has placements (λ other there. closed other (inr there)) in
    cc

pub HasDepths-next : {Line : Type 0} (models : List (Model Line)) (most : ℕ) (depths next : List ℕ) → IsClosed models → HasDepths models most depths
    → next ≡ map (depths_after depths) models → HasDepths models (suc most) next
HasDepths-next models most depths next closed has is = record {
  size = ap length is ∙ length-map models (depths_after depths);
  each = λ model lt.
      ap (λ xs. get_or xs model 0) is ∙ after-at models depths model lt
      ∙ ap (λ xs. suc (largest xs)) (same-depths models most depths has (placements_of models model)
      (λ placement there. closed model placement (placement-among (items_of models model) placement there)));
}

pub HasDepths-none : {Line : Type 0} (models : List (Model Line)) (depths : List ℕ) (count : ℕ) → length depths ≡ count → count ≡ length models
    → ((k : ℕ) → k < count → get_or depths k 0 ≡ 0) → HasDepths models 0 depths
HasDepths-none models depths count size all each = record { size = size ∙ all; each = λ model lt. each model (omega (arith, all)) }

-- the first placement of a model that is too deep, and none
found-at : (test : Placement → Bool) (start : ℕ) (placements : List Placement) (k : ℕ) → position_from test start placements ≡ Some k
    → (j : ℕ) × (placement : Placement) × (start + j ≡ k) × (slice_get placements j ≡ Some placement) × (test placement ≡ true)
    × ((i : ℕ) (other : Placement) → i < j → slice_get placements i ≡ Some other → test other ≡ false)
found-at test start [] k is = cc
found-at test start (first ∷ placements) k is = by_test (test first) refl is (found-at test (start + 1) placements k)
  where
    Found : ℕ → List Placement → Type 0
    Found from list = (j : ℕ) × (placement : Placement) × (from + j ≡ k) × (slice_get list j ≡ Some placement) × (test placement ≡ true)
        × ((i : ℕ) (other : Placement) → i < j → slice_get list i ≡ Some other → test other ≡ false)

    earlier : (j : ℕ) → test first ≡ false → ((i : ℕ) (other : Placement) → i < j → slice_get placements i ≡ Some other → test other ≡ false)
        → (i : ℕ) (other : Placement) → i < suc j → slice_get (first ∷ placements) i ≡ Some other → test other ≡ false
    earlier j fails before zero other lt at = subst (λ p. test p ≡ false) (let same : first ≡ other = cc in same) fails
    earlier j fails before (suc i) other lt at = before i other (omega arith) at

    by_test : (passes : Bool) → test first ≡ passes → cond passes (Some start) (position_from test (start + 1) placements) ≡ Some k
        → (position_from test (start + 1) placements ≡ Some k → Found (start + 1) placements) → Found start (first ∷ placements)
    by_test true passes at rest =
        let same : start ≡ k = cc in
        (0, first, omega (arith, same), refl, passes, λ i other lt there. absurd (omega arith))
    by_test false fails at rest =
        let later = rest at in
        (suc later.0, later.1, omega (arith, later.2), later.3, later.4, earlier later.0 fails later.5)

none-at : (test : Placement → Bool) (start : ℕ) (placements : List Placement) → position_from test start placements ≡ None
    → (j : ℕ) (placement : Placement) → slice_get placements j ≡ Some placement → test placement ≡ false
none-at test start [] is j placement at = cc
none-at test start (first ∷ placements) is j placement at = by_test (test first) refl is (none-at test (start + 1) placements) j placement at
  where
    by_test : (passes : Bool) → test first ≡ passes → cond passes (Some start) (position_from test (start + 1) placements) ≡ None
        → (position_from test (start + 1) placements ≡ None → (j : ℕ) (placement : Placement) → slice_get placements j ≡ Some placement → test placement ≡ false)
        → (j : ℕ) (placement : Placement) → slice_get (first ∷ placements) j ≡ Some placement → test placement ≡ false
    by_test true passes none rest j placement at = cc
    by_test false fails none rest zero placement at = subst (λ p. test p ≡ false) (let same : first ≡ placement = cc in same) fails
    by_test false fails none rest (suc j) placement at = rest none j placement at

module _ (Line : Type 0) (models : List (Model Line)) (closed : IsClosed models) (depths : List ℕ) (has : HasDepths models DEEPEST depths) where
  is_deep : Placement → Bool
  is_deep placement = nat_le DEEPEST (get_or depths placement.model 0)

  placed-among : (model k : ℕ) (placement : Placement) → placement_of models model k ≡ Some placement → placement.model < length models
  placed-among model k placement is = closed model placement (placement-among (items_of models model) placement (get (placements_of models model) k is))
    where
      get : (placements : List Placement) (k : ℕ) → slice_get placements k ≡ Some placement → Among placement placements
      get [] k at = cc
      get (first ∷ placements) zero at = inl (let same : first ≡ placement = cc in same)
      get (first ∷ placements) (suc k) at = inr (get placements k at)

  deep-told : (model k : ℕ) (placement : Placement) → placement_of models model k ≡ Some placement
      → get_or depths placement.model 0 ≡ depth_of models DEEPEST placement.model
  deep-told model k placement is = has.each placement.model (placed-among model k placement is)

  not-deep : (model k : ℕ) (placement : Placement) → placement_of models model k ≡ Some placement → is_deep placement ≡ false → IsTooDeep models model k → ⊥
  unfolding is_deep
  not-deep model k placement is fails deep =
      let same : placement ≡ deep.placement = (let both : Some placement ≡ Some deep.placement = sym is ∙ deep.there in let one : placement ≡ deep.placement = cc in one) in
      let told = deep-told model k placement is in
      let large : DEEPEST ≤ depth_of models DEEPEST placement.model = subst (λ (p : Placement). DEEPEST ≤ depth_of models DEEPEST p.model) (sym same) deep.deep in
      false≢true (sym fails ∙ le-leb DEEPEST (get_or depths placement.model 0) (omega (arith, told, large)))

  pub none-deep : (model : ℕ) → position_from (λ (placement : Placement). nat_le DEEPEST (get_or depths placement.model 0)) 0 (placements_of models model) ≡ None
      → (k : ℕ) → IsTooDeep models model k → ⊥
  unfolding is_deep
  none-deep model none k deep =
      not-deep model k deep.placement deep.there (none-at is_deep 0 (placements_of models model) none k deep.placement deep.there) deep

  pub some-deep : (model k : ℕ) → position_from (λ (placement : Placement). nat_le DEEPEST (get_or depths placement.model 0)) 0 (placements_of models model) ≡ Some k
      → ((other j : ℕ) → other < model → IsTooDeep models other j → ⊥) → IsFirst (IsTooDeep models) model k
  unfolding is_deep
  some-deep model k some before =
      let found = found-at is_deep 0 (placements_of models model) k some in
      let at : found.0 ≡ k = omega (arith, found.2) in
      let there : placement_of models model k ≡ Some found.1 = subst (λ n. slice_get (placements_of models model) n ≡ Some found.1) at found.3 in
      record {
        holds = record {
          placement = found.1;
          there = there;
          deep = (let told = deep-told model k found.1 there in
              let large : DEEPEST ≤ get_or depths found.1.model 0 = leb-true DEEPEST (get_or depths found.1.model 0) found.4 in omega (arith, told, large));
        };
        first = λ other j first deep. ⊎_elim (λ less. before other j less deep)
            (λ same. let here = subst (λ m. IsTooDeep models m j) same.0 deep in
            not-deep model j here.placement here.there
            (found.5 j here.placement (omega (arith, at, same.1)) here.there) here) first;
      }

-- what the code reads of a model
pub scan-is : {Line : Type 0} (models : List (Model Line)) (model : ℕ) (found : Model Line) (items : List (Item Line)) (depths read : List ℕ) (answer : Option ℕ)
    → slice_get models model ≡ Some found → items ≡ found.items → read ≡ depths
    → answer ≡ position_from (λ (placement : Placement). nat_le DEEPEST (get_or read placement.model 0)) 0 (placements_in items)
    → position_from (λ (placement : Placement). nat_le DEEPEST (get_or depths placement.model 0)) 0 (placements_of models model) ≡ answer
scan-is models model found items depths read answer at same reads is =
    let all : items_of models model ≡ items = items_of-get models model found at ∙ sym same in
    ap (λ xs. position_from (λ (placement : Placement). nat_le DEEPEST (get_or depths placement.model 0)) 0 (placements_in xs)) all
    ∙ ap (λ ds. position_from (λ (placement : Placement). nat_le DEEPEST (get_or ds placement.model 0)) 0 (placements_in items)) (sym reads) ∙ sym is

pub deep-next : {Line : Type 0} (models : List (Model Line)) (last : ℕ) → ((other k : ℕ) → other < last → IsTooDeep models other k → ⊥)
    → ((k : ℕ) → IsTooDeep models last k → ⊥) → (other k : ℕ) → other < last + 1 → IsTooDeep models other k → ⊥
deep-next models last before here other k lt deep =
    ⊎_elim (λ less. before other k less deep) (λ same. here k (subst (λ m. IsTooDeep models m k) same deep)) (last_or other last lt)
  where
    last_or : (n m : ℕ) → n < m + 1 → (n < m) ⊎ (n ≡ m)
    last_or n m less = grind arith

-- past the last model there is no placement
items-past : {Line : Type 0} (models : List (Model Line)) (model : ℕ) → length models ≤ model → items_of models model ≡ []
items-past [] model past = refl
items-past (first ∷ models) zero past = absurd (omega arith)
items-past (first ∷ models) (suc model) past = items-past models model (omega arith)

pub deep-all : {Line : Type 0} (models : List (Model Line)) (count : ℕ) → length models ≤ count
    → ((other k : ℕ) → other < count → IsTooDeep models other k → ⊥) → (model k : ℕ) → IsTooDeep models model k → ⊥
deep-all models count all before model k deep =
    ⊎_elim (λ less. before model k less deep)
    (λ past. none-some deep.placement
    (subst (λ items. slice_get (placements_in items) k ≡ Some deep.placement) (items-past models model (omega arith)) deep.there))
    (cases_lt model count)
