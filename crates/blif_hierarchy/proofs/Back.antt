-- Models that depend on themselves, where of the models that one of them places only the first ones are kept.
use Rattle.std.proofs.Common.{◌≡◌, ◌≢◌, ℕ, zero, suc, ◌<◌, ◌≤◌, ◌⊎◌, inl, inr, Bool, true, false, eqb, List, [], ◌∷◌, length, map, take, set, get_or, slice_get, All, IfSome, Option, Some, None, refl, sym, ap, ◌∙◌, subst, ⊎_elim, arith}
use Rattle.std.proofs.lemmas.Bool.{cases_lt, cases_eq, eqb-true, eq-eqb, false≢true}
use Rattle.std.proofs.lemmas.List.{map-set, set-get_or, get_or-set_same, get_or-set_other, get_or-take, get_or-map, get_or_past, length-map, length-take, take_all, take-map}
use Rattle.std.proofs.lemmas.Option.{none-some}
use Rattle.blif_flattening.specs.declared.model.Placement.{Placement}
use Rattle.blif_flattening.specs.declared.model.Model.{Model}
use Rattle.blif_flattening.specs.Hierarchy.{items_of, placements_in, placement_of}
use Rattle.blif_flattening.specs.Members.{Among}
use Rattle.netlist_order.specs.Graph.{Graph, inputs_of, Reads, Depends, directly, onwards, IsFirstOnCycle, IsOrder}
use Rattle.netlist_order.specs.Wires.{drivers_of, graph_of}
use Rattle.netlist_order.proofs.Chains.{order-acyclic}
use Rattle.blif_hierarchy.specs.First.{IsFirst, IsClosed}
use Rattle.blif_hierarchy.specs.Order.{placed_by, model_graph, IsRecursive}
use Rattle.blif_hierarchy.specs.Recursion.{IsItself, ComesBack, cut_at, IsLeast}
use Rattle.blif_hierarchy.specs.Sums.{placements_of}
use Rattle.blif_hierarchy.proofs.Depths.{placement-among}

module _ (lists : List (List ℕ)) (drivers : List (Option ℕ)) (model : ℕ) (lt : model < length lists) where
  abbrev whole : Graph
  whole = graph_of lists drivers

  abbrev cut : ℕ → Graph
  cut count = graph_of (cut_at lists model count) drivers

  abbrev mine : List (Option ℕ)
  mine = inputs_of whole model

  inputs-other : (count table : ℕ) → table ≢ model → inputs_of (cut count) table ≡ inputs_of whole table
  inputs-other count table differs =
      ap (λ xs. get_or xs table []) (map-set (drivers_of drivers) lists model (take count (get_or lists model [])))
      ∙ get_or-set_other (map (drivers_of drivers) lists) model table (drivers_of drivers (take count (get_or lists model []))) [] differs

  inputs-mine : (count : ℕ) → inputs_of (cut count) model ≡ take count mine
  inputs-mine count =
      ap (λ xs. get_or xs model []) (map-set (drivers_of drivers) lists model (take count (get_or lists model [])))
      ∙ get_or-set_same (map (drivers_of drivers) lists) model (drivers_of drivers (take count (get_or lists model []))) []
      (omega (arith, length-map lists (drivers_of drivers)))
      ∙ sym (take-map (λ signal. get_or drivers signal None) count (get_or lists model []))
      ∙ ap (take count) (sym (get_or-map (drivers_of drivers) lists model [] [] lt))

  reads-other : (count table driver : ℕ) → table ≢ model → Reads (cut count) table driver → Reads whole table driver
  reads-other count table driver differs reads =
      record { place = reads.place; drives = ap (λ xs. get_or xs reads.place None) (sym (inputs-other count table differs)) ∙ reads.drives }

  other-reads : (count table driver : ℕ) → table ≢ model → Reads whole table driver → Reads (cut count) table driver
  other-reads count table driver differs reads =
      record { place = reads.place; drives = ap (λ xs. get_or xs reads.place None) (inputs-other count table differs) ∙ reads.drives }

  reads-mine : (count driver : ℕ) → Reads (cut count) model driver → (place : ℕ) × (place < count) × (get_or mine place None ≡ Some driver)
  reads-mine count driver reads =
      let at : get_or (take count mine) reads.place None ≡ Some driver = ap (λ xs. get_or xs reads.place None) (sym (inputs-mine count)) ∙ reads.drives in
      ⊎_elim
      (λ less. (reads.place, less, sym (get_or-take count mine reads.place None less) ∙ at))
      (λ past. absurd (none-some driver (sym (get_or_past (take count mine) reads.place None (let size = length-take count mine in grind (arith, past, size))) ∙ at)))
      (cases_lt reads.place count)

  mine-reads : (count driver place : ℕ) → place < count → get_or mine place None ≡ Some driver → Reads (cut count) model driver
  mine-reads count driver place less at = record {
    place = place;
    drives = ap (λ xs. get_or xs place None) (inputs-mine count) ∙ get_or-take count mine place None less ∙ at;
  }

  -- what is read where fewer models are kept, is read
  reads-whole : (count table driver : ℕ) → Reads (cut count) table driver → Reads whole table driver
  reads-whole count table driver reads =
      ⊎_elim
      (λ same. let found = reads-mine count driver (subst (λ t. Reads (cut count) t driver) same reads) in
      subst (λ t. Reads whole t driver) (sym same) (record { place = found.0; drives = found.2 }))
      (λ differs. reads-other count table driver differs reads)
      (cases_eq table model)

  pub uncut : (count : ℕ) {table driver : ℕ} → Depends (cut count) table driver → Depends whole table driver
  uncut count (directly reads) = directly (reads-whole count _ _ reads)
  uncut count (onwards reads rest) = onwards (reads-whole count _ _ reads) (uncut count rest)

  -- a chain that leads to the model comes there first without it
  chain : (count : ℕ) {table driver : ℕ} → Depends whole table driver → driver ≡ model → (table ≡ model) ⊎ Depends (cut count) table model
  chain count {table} {driver} (directly reads) is =
      ⊎_elim (λ same. inl same)
      (λ differs. inr (directly (other-reads count table model differs (subst (λ d. Reads whole table d) is reads))))
      (cases_eq table model)
  chain count {table} {driver} (onwards {driver = middle} reads rest) is =
      ⊎_elim (λ same. inl same)
      (λ differs. ⊎_elim
      (λ same. inr (directly (other-reads count table model differs (subst (λ d. Reads whole table d) same reads))))
      (λ later. inr (onwards (other-reads count table middle differs reads) later))
      (chain count rest is))
      (cases_eq table model)

  -- the first step of a chain from the model
  first-step : (count : ℕ) {table driver : ℕ} → Depends (cut count) table driver → table ≡ model → driver ≡ model
      → (place : ℕ) × (middle : ℕ) × (place < count) × (get_or mine place None ≡ Some middle) × ((middle ≡ model) ⊎ Depends whole middle model)
  first-step count {table} {driver} (directly reads) from to =
      let found = reads-mine count driver (subst (λ t. Reads (cut count) t driver) from reads) in
      (found.0, driver, found.1, found.2, inl to)
  first-step count {table} {driver} (onwards {driver = middle} reads rest) from to =
      let found = reads-mine count middle (subst (λ t. Reads (cut count) t middle) from reads) in
      (found.0, middle, found.1, found.2, inr (subst (λ d. Depends whole middle d) to (uncut count rest)))

  -- a model that is kept and leads back
  leads-back : (count place middle : ℕ) → place < count → get_or mine place None ≡ Some middle → (middle ≡ model) ⊎ Depends whole middle model
      → Depends (cut count) model model
  leads-back count place middle less at (inl same) = directly (mine-reads count model place less (at ∙ ap (λ n. Some n) same))
  leads-back count place middle less at (inr more) =
      ⊎_elim (λ same. directly (mine-reads count model place less (at ∙ ap (λ n. Some n) same)))
      (λ later. onwards (mine-reads count middle place less at) later) (chain count more refl)

  pub none-kept : Depends (cut 0) model model → ⊥
  none-kept depends = let step = first-step 0 depends refl refl in absurd (omega (arith, step.2))

  pub all-kept : Depends whole model model → Depends (cut (length (get_or lists model []))) model model
  all-kept depends =
      let all : take (length (get_or lists model [])) (get_or lists model []) ≡ get_or lists model [] =
      take_all (length (get_or lists model [])) (get_or lists model []) (omega arith) in
      let same : cut_at lists model (length (get_or lists model [])) ≡ lists =
      ap (λ list. set lists model list) all ∙ set-get_or lists model [] in
      subst (λ ls. Depends (graph_of ls drivers) model model) (sym same) depends

  -- where it is the last one that is kept that leads back
  pub least-step : (place : ℕ) → Depends (cut (suc place)) model model → (Depends (cut place) model model → ⊥)
      → (middle : ℕ) × (get_or mine place None ≡ Some middle) × ((middle ≡ model) ⊎ Depends whole middle model)
  least-step place back before =
      let step = first-step (suc place) back refl refl in
      ⊎_elim
      (λ less. absurd (before (leads-back place step.0 step.1 less step.3 step.4)))
      (λ past. let at : step.0 ≡ place = omega (arith, past, step.2) in
      (step.1, subst (λ n. get_or mine n None ≡ Some step.1) at step.3, step.4))
      (cases_lt step.0 place)

  pub none-before : (place j middle : ℕ) → (Depends (cut place) model model → ⊥) → j < place → get_or mine j None ≡ Some middle
      → (middle ≡ model) ⊎ Depends whole middle model → ⊥
  none-before place j middle before less at back = before (leads-back place j middle less at back)

-- the graph that the code makes
module _ (Line : Type 0) (models : List (Model Line)) (closed : IsClosed models) (drivers : List (Option ℕ)) (itself : IsItself (length models) drivers) where
  itself-all : (placements : List Placement) → ((placement : Placement) → Among placement placements → placement.model < length models)
      → drivers_of drivers (map (λ (placement : Placement). placement.model) placements) ≡ map (λ placed. Some placed) (map (λ (placement : Placement). placement.model) placements)
  itself-all [] below = refl
  itself-all (placement ∷ placements) below =
      let here : get_or drivers placement.model None ≡ Some placement.model = itself.each placement.model (below placement (inl refl)) in
      let rest = itself-all placements (λ other there. below other (inr there)) in
      cc

  by-models : (some : List (Model Line)) → ((model : ℕ) (placement : Placement) → Among placement (placements_of some model) → placement.model < length models)
      → graph_of (map placed_by some) drivers ≡ model_graph some
  by-models [] below = refl
  by-models (first ∷ some) below =
      let here = itself-all (placements_in first.items) (λ placement there. below 0 placement there) in
      let rest = by-models some (λ model placement there. below (suc model) placement there) in
      cc

  pub graph-is : graph_of (map placed_by models) drivers ≡ model_graph models
  graph-is = by-models models (λ model placement there. closed model placement (placement-among (items_of models model) placement there))

-- what a placement reads
placed-at : (placements : List Placement) (k : ℕ) (placement : Placement) → slice_get placements k ≡ Some placement
    → get_or (map (λ placed. Some placed) (map (λ (p : Placement). p.model) placements)) k None ≡ Some placement.model
placed-at [] k placement is = cc
placed-at (first ∷ placements) zero placement is = ap (λ (p : Placement). Some p.model) (let same : first ≡ placement = cc in same)
placed-at (first ∷ placements) (suc k) placement is = placed-at placements k placement is

at-placed : (placements : List Placement) (k driver : ℕ) → get_or (map (λ placed. Some placed) (map (λ (p : Placement). p.model) placements)) k None ≡ Some driver
    → (placement : Placement) × (slice_get placements k ≡ Some placement) × (placement.model ≡ driver)
at-placed [] k driver is = absurd (none-some driver is)
at-placed (first ∷ placements) zero driver is = (first, refl, let same : first.model ≡ driver = cc in same)
at-placed (first ∷ placements) (suc k) driver is = at-placed placements k driver is

inputs-are : {Line : Type 0} (models : List (Model Line)) (model : ℕ)
    → inputs_of (model_graph models) model ≡ map (λ placed. Some placed) (map (λ (p : Placement). p.model) (placements_of models model))
inputs-are [] model = refl
inputs-are (first ∷ models) zero = refl
inputs-are (first ∷ models) (suc model) = inputs-are models model

module _ (Line : Type 0) (models : List (Model Line)) where
  reads-placed : (model k : ℕ) (placement : Placement) → placement_of models model k ≡ Some placement
      → get_or (inputs_of (model_graph models) model) k None ≡ Some placement.model
  reads-placed model k placement is = ap (λ xs. get_or xs k None) (inputs-are models model) ∙ placed-at (placements_of models model) k placement is

  -- a model with such a placement depends on itself
  itself-by : (model k : ℕ) → IsRecursive models model k → Depends (model_graph models) model model
  itself-by model k is =
      let reads : Reads (model_graph models) model is.placement.model = record { place = k; drives = reads-placed model k is.placement is.there } in
      ⊎_elim (λ same. directly (subst (λ d. Reads (model_graph models) model d) same reads)) (λ more. onwards reads more) is.back

  pub none-recursive : (order : List ℕ) → IsOrder (model_graph models) order → (model k : ℕ) → IsRecursive models model k → ⊥
  none-recursive order found model k is = order-acyclic (model_graph models) order found model (itself-by model k is)

  pub first-recursive : (drivers : List (Option ℕ)) (lists : List (List ℕ)) → lists ≡ map placed_by models → graph_of lists drivers ≡ model_graph models
      → (model place : ℕ) → IsFirstOnCycle (model_graph models) model → IsLeast lists drivers model place → IsFirst (IsRecursive models) model place
  first-recursive drivers lists made is model place first least =
      let lt : model < length lists = omega (arith, first.within, ap length made, length-map models (placed_by {Line = Line}), length-map models (λ (m : Model Line). map (λ placed. Some placed) (placed_by m))) in
      let step = least-step lists drivers model lt place least.back least.before in
      let mine : inputs_of (graph_of lists drivers) model ≡ inputs_of (model_graph models) model = ap (λ g. inputs_of g model) is in
      let at : get_or (inputs_of (model_graph models) model) place None ≡ Some step.0 = ap (λ xs. get_or xs place None) (sym mine) ∙ step.1 in
      let placed = at-placed (placements_of models model) place step.0 (ap (λ xs. get_or xs place None) (sym (inputs-are models model)) ∙ at) in
      let back : (placed.0.model ≡ model) ⊎ Depends (model_graph models) placed.0.model model =
      subst (λ d. (d ≡ model) ⊎ Depends (model_graph models) d model) (sym placed.2)
      (⊎_elim (λ same. inl same) (λ more. inr (subst (λ g. Depends g step.0 model) is more)) step.2) in
      record {
        holds = record { placement = placed.0; there = placed.1; back = back };
        first = λ other j before recursive. ⊎_elim
            (λ less. first.first other less (itself-by other j recursive))
            (λ same. let here = subst (λ m. IsRecursive models m j) same.0 recursive in
            none-before lists drivers model lt place j here.placement.model least.before same.1
            (ap (λ xs. get_or xs j None) mine ∙ reads-placed model j here.placement here.there)
            (⊎_elim (λ one. inl one) (λ more. inr (subst (λ g. Depends g here.placement.model model) (sym is) more)) here.back))
            before;
      }

same_or_more : (n m : ℕ) → n ≤ m → (n ≡ m) ⊎ (n < m)
same_or_more n m le = grind arith

-- whether a model is the first one on a cycle, where no earlier one is on one
pub comes-back : (lists : List (List ℕ)) (drivers : List (Option ℕ)) (model table : ℕ) → IsFirstOnCycle (graph_of lists drivers) table
    → ((earlier : ℕ) → earlier < model → Depends (graph_of lists drivers) earlier earlier → ⊥) → ComesBack lists drivers model (eqb table model)
comes-back lists drivers model table first before = by_test (eqb table model) refl
  where
    by_test : (test : Bool) → eqb table model ≡ test → ComesBack lists drivers model test
    by_test true same = subst (λ t. Depends (graph_of lists drivers) t t) (eqb-true table model same) first.itself
    by_test false differs = λ depends.
        ⊎_elim (λ less. before table less first.itself)
        (λ past. ⊎_elim (λ same. false≢true (sym differs ∙ eq-eqb table model (sym same))) (λ more. first.first model more depends)
        (same_or_more model table past))
        (cases_lt table model)

pub acyclic-at : (lists : List (List ℕ)) (drivers : List (Option ℕ)) (order : List ℕ) (model : ℕ) → IsOrder (graph_of lists drivers) order
    → Depends (graph_of lists drivers) model model → ⊥
acyclic-at lists drivers order model found depends = order-acyclic (graph_of lists drivers) order found model depends

-- the graph of what the code has made
pub code-graph : (Line : Type 0) (models : List (Model Line)) → IsClosed models → (placed lists : List (List ℕ)) (drivers : List (Option ℕ)) (count : ℕ)
    → placed ≡ map placed_by models → lists ≡ placed → count ≡ length placed → IsItself count drivers
    → (lists ≡ map placed_by models) × (graph_of lists drivers ≡ model_graph models)
code-graph Line models closed placed lists drivers count made same size itself =
    let all : count ≡ length models = size ∙ ap length made ∙ length-map models (placed_by {Line = Line}) in
    (same ∙ made, ap (λ ls. graph_of ls drivers) (same ∙ made) ∙ graph-is Line models closed drivers (subst (λ n. IsItself n drivers) all itself))

pub itself-within : (drivers : List (Option ℕ)) (count : ℕ) → IsItself count drivers → All (λ driver. IfSome driver (λ table. table < count)) drivers
itself-within drivers count itself k d lt =
    let at : get_or drivers k d ≡ Some k = same drivers k d lt ∙ itself.each k (omega (arith, itself.size)) in
    rw at (omega (arith, itself.size))
  where
    same : (xs : List (Option ℕ)) (k : ℕ) (d : Option ℕ) → k < length xs → get_or xs k d ≡ get_or xs k None
    same [] k d lt = absurd (omega arith)
    same (x ∷ xs) zero d lt = refl
    same (x ∷ xs) (suc k) d lt = same xs k d (omega arith)
