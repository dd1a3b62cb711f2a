-- Rules asked one after another: what each asks has one answer, and an answer where the rest has one.
use Rattle.std.proofs.Common.{◌≡◌, ℕ, zero, suc, ◌<◌, ◌⊎◌, inl, inr, Option, None, Some, refl, sym, ap, ◌∙◌, subst, ⊎_elim, arith}
use Rattle.std.specs.Option.{option_map}
use Rattle.std.proofs.lemmas.Bool.{cases_lt}
use Rattle.psl_base.specs.declared.place.Place.{Place}
use Rattle.netlist_order.proofs.Cycles.{Decided}
use Rattle.blif_hierarchy.specs.declared.place.PlacementAt.{PlacementAt}
use Rattle.blif_hierarchy.specs.First.{Before, Finds, IsFirst}
use Rattle.blif_model.specs.declared.fault.BlifFault.{BlifFault}
use Rattle.blif_reader.specs.Faults.{Asks, IsSought}

-- what rules find is one fault at the most
abbrev pub IsOne : (BlifFault → Type 0) → Type 0
IsOne rest = (one other : BlifFault) → rest one → rest other → one ≡ other

pub one-asked : (name : Place → BlifFault) (found : Option Place) (rest : BlifFault → Type 0) → IsOne rest → IsOne (Asks name found rest)
one-asked name (Some place) rest unique one other first second = first ∙ sym second
one-asked name None rest unique one other first second = unique one other first second

pub one-sought : {Thing : Type 0} (name : Place → BlifFault) (seeks : Option Thing → Type 0) (place : Thing → Place) (rest : BlifFault → Type 0)
    → ((a b : Option Thing) → seeks a → seeks b → a ≡ b) → IsOne rest → IsOne (IsSought name seeks place rest)
one-sought {Thing} name seeks place rest same unique one other first second =
    let again = subst (λ (found : Option Thing). Asks name (option_map place found) rest one) (same first.found second.found first.sought second.sought) first.is in
    one-asked name (option_map place second.found) rest unique one other again second.is

-- there is a fault, or something else holds
abbrev pub FaultOr : (BlifFault → Type 0) → Type 0 → Type 0
FaultOr rest good = ((fault : BlifFault) × rest fault) ⊎ good

pub some-asked : (name : Place → BlifFault) (found : Option Place) (rest : BlifFault → Type 0) (good : Type 0) → (found ≡ None → FaultOr rest good) → FaultOr (Asks name found rest) good
some-asked name (Some place) rest good next = inl (name place, refl)
some-asked name None rest good next = next refl

pub some-sought : {Thing : Type 0} (name : Place → BlifFault) (seeks : Option Thing → Type 0) (place : Thing → Place) (rest : BlifFault → Type 0) (good : Type 0)
    → ((found : Option Thing) × seeks found) → (seeks None → FaultOr rest good) → FaultOr (IsSought name seeks place rest) good
some-sought {Thing} name seeks place rest good sought next = by_found sought.0 sought.1
  where
    by_found : (found : Option Thing) → seeks found → FaultOr (IsSought name seeks place rest) good
    by_found (Some thing) is = inl (name (place thing), record { found = Some thing; sought = is; is = refl })
    by_found None is = ⊎_elim (λ fault. inl (fault.0, record { found = None; sought = is; is = fault.1 })) (λ fine. inr fine) (next is)

-- where nothing is found, the rest is asked
pub rest-asked : (name : Place → BlifFault) (found : Option Place) (rest : BlifFault → Type 0) (fault : BlifFault) → found ≡ None → Asks name found rest fault → rest fault
rest-asked name found rest fault none asked = subst (λ (f : Option Place). Asks name f rest fault) none asked

pub rest-sought : {Thing : Type 0} (name : Place → BlifFault) (seeks : Option Thing → Type 0) (place : Thing → Place) (rest : BlifFault → Type 0) (fault : BlifFault)
    → ((a b : Option Thing) → seeks a → seeks b → a ≡ b) → seeks None → IsSought name seeks place rest fault → rest fault
rest-sought {Thing} name seeks place rest fault same none sought =
    subst (λ (found : Option Thing). Asks name (option_map place found) rest fault) (same sought.found None sought.sought none) sought.is

-- and the other way round
pub then-asked : (name : Place → BlifFault) (found : Option Place) (rest : BlifFault → Type 0) (fault : BlifFault) → found ≡ None → rest fault → Asks name found rest fault
then-asked name found rest fault none asked = subst (λ (f : Option Place). Asks name f rest fault) (sym none) asked

pub here-asked : (name : Place → BlifFault) (found : Option Place) (rest : BlifFault → Type 0) (place : Place) (fault : BlifFault) → found ≡ Some place → fault ≡ name place
    → Asks name found rest fault
here-asked name found rest place fault some is = subst (λ (f : Option Place). Asks name f rest fault) (sym some) is

pub then-sought : {Thing : Type 0} (name : Place → BlifFault) (seeks : Option Thing → Type 0) (place : Thing → Place) (rest : BlifFault → Type 0) (fault : BlifFault)
    → seeks None → rest fault → IsSought name seeks place rest fault
then-sought name seeks place rest fault none asked = record { found = None; sought = none; is = asked }

pub here-sought : {Thing : Type 0} (name : Place → BlifFault) (seeks : Option Thing → Type 0) (place : Thing → Place) (rest : BlifFault → Type 0) (thing : Thing) (fault : BlifFault)
    → seeks (Some thing) → fault ≡ name (place thing) → IsSought name seeks place rest fault
here-sought name seeks place rest thing fault is at = record { found = Some thing; sought = is; is = at }

-- there is one first placement at the most
not_before : (model k other j : ℕ) → (Before model k other j → ⊥) → (Before other j model k → ⊥) → (model ≡ other) × (k ≡ j)
not_before model k other j one two =
    ⊎_elim (λ below. absurd (one (inl below)))
    (λ upper. ⊎_elim (λ below. absurd (two (inl below)))
    (λ lower.
    let same : model ≡ other = omega arith in
    let back : other ≡ model = omega arith in (
      same,
      ⊎_elim (λ less. absurd (one (inr (same, less))))
          (λ more. ⊎_elim (λ less. absurd (two (inr (back, less)))) (λ most. omega arith) (cases_lt j k)) (cases_lt k j),
    ))
    (cases_lt other model)) (cases_lt model other)

same_at : (m k n j : ℕ) → m ≡ n → k ≡ j
    → ◌≡◌ {A = PlacementAt} (record { model = m; placement = k }) (record { model = n; placement = j })
same_at m k n j a b = cc

pub one-found : (Holds : ℕ → ℕ → Type 0) (a b : Option PlacementAt) → Finds Holds a → Finds Holds b → a ≡ b
one-found Holds None None first second = refl
one-found Holds None (Some found) first second = absurd (first found.model found.placement second.holds)
one-found Holds (Some found) None first second = absurd (second found.model found.placement first.holds)
one-found Holds (Some one) (Some other) first second =
    let both = not_before one.model one.placement other.model other.placement
    (λ before. second.first one.model one.placement before first.holds) (λ before. first.first other.model other.placement before second.holds) in
    ap Some (same_at one.model one.placement other.model other.placement both.0 both.1)

-- and where it is decided of each, and there are so many at the most, there is one, or none
module _ (Holds : ℕ → ℕ → Type 0) (decided : (model k : ℕ) → Decided (Holds model k)) where
  record IsRowFirst (model k : ℕ) : Type 0 where
    holds : Holds model k
    first : (j : ℕ) → j < k → Holds model j → ⊥

  row : (model count : ℕ) → ((j : ℕ) → j < count → Holds model j → ⊥) ⊎ ((k : ℕ) × IsRowFirst model k)
  row model zero = inl (λ j lt holds. omega arith)
  row model (suc count) =
      ⊎_elim
      (λ none. ⊎_elim (λ here. inr (count, record { holds = here; first = none }))
      (λ not_here. inl (λ j lt holds. ⊎_elim (λ below. none j below holds)
      (λ past. let last : j ≡ count = omega arith in not_here (subst (Holds model) last holds)) (cases_lt j count)))
      (decided model count))
      (λ found. inr found) (row model count)

  rows : (width : ℕ → ℕ) (count : ℕ) → ((model k : ℕ) → Holds model k → k < width model)
      → ((model k : ℕ) → model < count → Holds model k → ⊥) ⊎ ((found : PlacementAt) × IsFirst Holds found.model found.placement)
  rows width zero within = inl (λ model k lt holds. omega arith)
  rows width (suc count) within =
      ⊎_elim
      (λ none. ⊎_elim
      (λ free. inl (λ model k lt holds. ⊎_elim (λ below. none model k below holds)
      (λ past. let last : model ≡ count = omega arith in
      let moved : Holds count k = subst (λ m. Holds m k) last holds in free k (within count k moved) moved) (cases_lt model count)))
      (λ found. inr (
        record { model = count; placement = found.0 },
        record {
          holds = found.1.holds;
          first = λ other j before holds. ⊎_elim (λ below. none other j below holds)
              (λ same. found.1.first j same.1 (subst (λ m. Holds m j) same.0 holds)) before;
        },
      ))
      (row count (width count)))
      (λ found. inr found) (rows width count within)

  pub some-found : (width : ℕ → ℕ) (count : ℕ) → ((model k : ℕ) → Holds model k → model < count) → ((model k : ℕ) → Holds model k → k < width model)
      → (found : Option PlacementAt) × Finds Holds found
  some-found width count low within =
      ⊎_elim (λ none. (None, λ model k holds. none model k (low model k holds) holds)) (λ found. (Some found.0, found.1)) (rows width count within)
