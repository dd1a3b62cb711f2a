-- The graph of tables that read signals.
use Rattle.std.proofs.Common.{◌≡◌, ◌≢◌, ℕ, zero, suc, ◌<◌, List, [], ◌∷◌, length, map, get_or, All, Contains, Option, Some, None, IfSome, Bor, refl, sym, ◌∙◌, ⊎_elim, arith}
use Rattle.std.proofs.lemmas.List.{get_or_past, get_or-map, length-map}
use Rattle.std.proofs.lemmas.Option.{none-some}
use Rattle.std.proofs.lemmas.Bool.{cases_lt}
use Rattle.netlist_order.specs.Graph.{inputs_of, driver_of, IsGraph}
use Rattle.netlist_order.specs.Wires.{drivers_of, graph_of}

-- there are as many tables as lists
pub length-graph_of : (lists : List (Bor (List ℕ))) (drivers : List (Option ℕ))
    → length (graph_of (map (λ (list : Bor (List ℕ)). list.now) lists) drivers) ≡ length lists
length-graph_of lists drivers =
    let now : List (List ℕ) = map (λ (list : Bor (List ℕ)). list.now) lists in
    length-map now (drivers_of drivers) ∙ length-map lists (λ (list : Bor (List ℕ)). list.now)

-- what drives the inputs of a table
pub inputs-graph_of : (lists : List (Bor (List ℕ))) (drivers : List (Option ℕ)) (table : ℕ) (d : Bor (List ℕ)) → table < length lists
    → drivers_of drivers (get_or lists table d).now ≡ inputs_of (graph_of (map (λ (list : Bor (List ℕ)). list.now) lists) drivers) table
inputs-graph_of [] drivers table d lt = absurd (omega arith)
inputs-graph_of (list ∷ lists) drivers zero d lt = refl
inputs-graph_of (list ∷ lists) drivers (suc table) d lt = inputs-graph_of lists drivers table d (omega arith)

-- a signal is driven by a table that the drivers name
driven : (drivers : List (Option ℕ)) (count : ℕ) → All (λ driver. IfSome driver (λ table. table < count)) drivers
    → (signals : List ℕ) (place driver : ℕ) → get_or (drivers_of drivers signals) place None ≡ Some driver → driver < count
driven drivers count within [] place driver drives = absurd (none-some driver drives)
driven drivers count within (signal ∷ signals) zero driver drives =
    ⊎_elim
    (λ lt. let named = within signal None lt in let says : IfSome (Some driver) (λ table. table < count) = rw drives at named in says)
    (λ past. absurd (none-some driver (sym (get_or_past drivers signal None past) ∙ drives)))
    (cases_lt signal (length drivers))
driven drivers count within (signal ∷ signals) (suc place) driver drives = driven drivers count within signals place driver drives

driven_in : (drivers : List (Option ℕ)) (count : ℕ) → All (λ driver. IfSome driver (λ table. table < count)) drivers
    → (lists : List (List ℕ)) (table place driver : ℕ) → driver_of (graph_of lists drivers) table place ≡ Some driver → driver < count
driven_in drivers count within [] table place driver drives = absurd (none-some driver drives)
driven_in drivers count within (list ∷ lists) zero place driver drives = driven drivers count within list place driver drives
driven_in drivers count within (list ∷ lists) (suc table) place driver drives = driven_in drivers count within lists table place driver drives

pub IsGraph-graph_of : (lists : List (Bor (List ℕ))) (drivers : List (Option ℕ)) → All (λ driver. IfSome driver (λ table. table < length lists)) drivers
    → IsGraph (graph_of (map (λ (list : Bor (List ℕ)). list.now) lists) drivers)
IsGraph-graph_of lists drivers within table driver reads =
    let below : driver < length lists =
    driven_in drivers (length lists) within (map (λ (list : Bor (List ℕ)). list.now) lists) table reads.place driver reads.drives in
    omega (arith, below, length-graph_of lists drivers)

-- a list whose signals, one by one, are not driven by a table
pub drives_none : (drivers : List (Option ℕ)) (signals : List ℕ) (table : ℕ)
    → ((k : ℕ) → k < length signals → get_or drivers (get_or signals k 0) None ≢ Some table) → Contains (drivers_of drivers signals) (Some table) → ⊥
drives_none drivers signals table not there =
    let lt : there.0 < length signals = omega (arith, there.1, length-map signals (λ signal. get_or drivers signal None)) in
    not there.0 lt (sym (get_or-map (λ signal. get_or drivers signal None) signals there.0 0 (Some table) lt) ∙ there.2)

-- and one with a signal that is
pub drives_one : (drivers : List (Option ℕ)) (signals : List ℕ) (table k : ℕ) → k < length signals → get_or drivers (get_or signals k 0) None ≡ Some table
    → Contains (drivers_of drivers signals) (Some table)
drives_one drivers signals table k lt is =
    let within : k < length (drivers_of drivers signals) = omega (arith, lt, length-map signals (λ signal. get_or drivers signal None)) in
    (k, within, get_or-map (λ signal. get_or drivers signal None) signals k 0 (Some table) lt ∙ is)
