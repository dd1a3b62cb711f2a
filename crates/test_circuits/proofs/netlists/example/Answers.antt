use Rattle.std.proofs.Common.{◌≡◌, ℕ, zero, suc, ◌<◌, ◌≤◌, ◌+◌, List, [], ◌∷◌, ◌++◌, true, false, refl, sym, ap, subst, ◌∙◌, arith, lit<}
use Rattle.std.specs.Prelude.{All, Contains}
use Rattle.std.specs.List.{range_with_len}
use Rattle.netlist.specs.declared.latch.Init.TheVariants as inits
use Rattle.netlist.specs.declared.latch.Latch.{Latch}
use Rattle.netlist.specs.declared.rows.Mark.TheVariants.{Zero, One, Any}
use Rattle.netlist.specs.declared.table.Table.{Table}
use Rattle.netlist.specs.Design.{driven_signals}
use Rattle.netlist.specs.Sound.{IsOrder, table_at}
use Rattle.test_circuits.proofs.InOrder.{in-order, range-each}
use Rattle.test_circuits.proofs.netlists.example.Goals as goal
use Rattle.test_circuits.proofs.netlists.example.Goals.{In_ok-order}

abbrev tables : List Table
tables =
    record { inputs = 1 ∷ []; output = 3; rows = (One ∷ []) ∷ []; value = false }
    ∷ record { inputs = []; output = 4; rows = [] ∷ []; value = true }
    ∷ record { inputs = []; output = 5; rows = []; value = true }
    ∷ record { inputs = 0 ∷ 3 ∷ 4 ∷ []; output = 6; rows = (One ∷ Zero ∷ Any ∷ []) ∷ []; value = true }
    ∷ []

abbrev latches : List Latch
latches = record { input = 3; output = 1; init = inits.Zero } ∷ record { input = 2; output = 2; init = inits.Free } ∷ []

reads : (place : ℕ) → place < 4 → All (λ signal. signal < 3 + place) (table_at tables place).inputs
reads zero within zero other p_in = lit< tt
reads zero within (suc p) other p_in = absurd (omega arith)
reads (suc zero) within p other p_in = absurd (omega arith)
reads (suc (suc zero)) within p other p_in = absurd (omega arith)
reads (suc (suc (suc zero))) within zero other p_in = lit< tt
reads (suc (suc (suc zero))) within (suc zero) other p_in = lit< tt
reads (suc (suc (suc zero))) within (suc (suc zero)) other p_in = lit< tt
reads (suc (suc (suc zero))) within (suc (suc (suc p))) other p_in = absurd (omega arith)
reads (suc (suc (suc (suc place)))) within p other p_in = absurd (omega arith)

each : (inputs : List ℕ) (some : List Latch) (all : List Table) → inputs ≡ 0 ∷ [] → some ≡ latches → all ≡ tables
    → (signal : ℕ) → signal < 7 → Contains (driven_signals inputs some all) signal
each inputs some all e f g =
    let driven : driven_signals inputs some all ≡ driven_signals (0 ∷ []) latches tables = cc in
    subst (λ (list : List ℕ). (signal : ℕ) → signal < 7 → Contains list signal) (sym driven) (range-each 7)

pub of-requires-clause-each : goal.of-requires-clause-each
of-requires-clause-each c = each c.in_ok-inputs.inputs c.in_ok-latches.latches c.in_ok-tables.tables c.in_ok-inputs.ensures c.in_ok-latches.ensures c.in_ok-tables.ensures

pub of-requires-clause-order : goal.of-requires-clause-order
of-requires-clause-order c = rw (c.in_ok-tables.ensures, c.in_ok-order.ensures) (in-order tables 3 refl reads)
