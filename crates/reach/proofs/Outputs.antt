-- The outputs of the tables of a sound netlist.
use Rattle.std.proofs.Common.{ℕ, suc, ◌<◌, List, [], ◌∷◌, ◌++◌, map, All, arith}
use Rattle.std.proofs.lemmas.List.Elements.{All-nil, All-cons, All-head, All-tail}
use Rattle.netlist.specs.declared.table.Table.{Table}
use Rattle.netlist.specs.Design.{Design, free_of}
use Rattle.netlist.specs.Sound.{AreApart, IsSound}

-- each is a signal
pub outputs-below : (design : Design) → IsSound design → All (λ (table : Table). table.output < design.signals) design.tables
outputs-below design is = below_map design.signals design.tables (below_behind (free_of design) (map (λ (table : Table). table.output) design.tables) is.driven)
  where
    below_behind : (free outputs : List ℕ) → All (λ signal. signal < design.signals) (free ++ outputs) → All (λ signal. signal < design.signals) outputs
    below_behind [] outputs all = all
    below_behind (first ∷ free) outputs all = below_behind free outputs (All-tail (λ signal. signal < design.signals) first (free ++ outputs) all)

    below_map : (limit : ℕ) (tables : List Table) → All (λ signal. signal < limit) (map (λ (table : Table). table.output) tables) → All (λ (table : Table). table.output < limit) tables
    below_map limit [] all = All-nil (λ (table : Table). table.output < limit)
    below_map limit (table ∷ tables) all =
        All-cons (λ (t : Table). t.output < limit) table tables
        (All-head (λ signal. signal < limit) table.output (map (λ (t : Table). t.output) tables) all)
        (below_map limit tables (All-tail (λ signal. signal < limit) table.output (map (λ (t : Table). t.output) tables) all))

-- no two are the same
pub outputs-once : (design : Design) → IsSound design → AreApart (map (λ (table : Table). table.output) design.tables)
outputs-once design is = behind (free_of design) (map (λ (table : Table). table.output) design.tables) is.once
  where
    behind : (free outputs : List ℕ) → AreApart (free ++ outputs) → AreApart outputs
    behind [] outputs apart = apart
    behind (first ∷ free) outputs apart =
        behind free outputs (λ i j i_in j_in same. let next = apart (suc i) (suc j) (omega arith) (omega arith) same in omega arith)
