-- Chains of tables.
use Rattle.std.proofs.Common.{◌≡◌, ℕ, ◌<◌, [], length, Some, None, get_or, sym, ◌∙◌, ap, subst, ⊎_elim, arith, List}
use Rattle.std.proofs.lemmas.List.{get_or_past}
use Rattle.std.proofs.lemmas.Option.{none-some}
use Rattle.std.proofs.lemmas.Bool.{cases_lt}
use Rattle.netlist_order.specs.Graph.{Graph, inputs_of, driver_of, Reads, Depends, directly, onwards, IsOrder, OccursBefore}

-- two chains make one
pub Depends-append : {graph : Graph} {table driver other : ℕ} → Depends graph table driver → Depends graph driver other → Depends graph table other
Depends-append (directly reads) more = onwards reads more
Depends-append (onwards reads rest) more = onwards reads (Depends-append rest more)

-- what an input that there is reads, is within its table, which is within the graph
pub input-within : (graph : Graph) (table input driver : ℕ) → driver_of graph table input ≡ Some driver → input < length (inputs_of graph table)
input-within graph table input driver drives =
    ⊎_elim (λ lt. lt) (λ past. absurd (none-some driver (sym (get_or_past (inputs_of graph table) input None past) ∙ drives)))
    (cases_lt input (length (inputs_of graph table)))

pub table-within : (graph : Graph) (table input driver : ℕ) → driver_of graph table input ≡ Some driver → table < length graph
table-within graph table input driver drives =
    ⊎_elim (λ lt. lt)
    (λ past. let none : inputs_of graph table ≡ [] = get_or_past graph table [] past in
    absurd (none-some driver (sym (ap (λ inputs. get_or inputs input None) none) ∙ drives)))
    (cases_lt table (length graph))

pub Reads-within : (graph : Graph) (table driver : ℕ) → Reads graph table driver → table < length graph
Reads-within graph table driver reads = table-within graph table reads.place driver reads.drives

pub Depends-within : {graph : Graph} {table driver : ℕ} → Depends graph table driver → table < length graph
Depends-within {graph} {table} {driver} (directly reads) = Reads-within graph _ _ reads
Depends-within {graph} {table} {driver} (onwards reads rest) = Reads-within graph _ _ reads

-- what reads keep along a chain
pub Depends-keeps : {graph : Graph} (P : ℕ → Type 0) → ((table driver : ℕ) → P table → Reads graph table driver → P driver)
    → {table driver : ℕ} → Depends graph table driver → P table → P driver
Depends-keeps P keeps (directly reads) holds = keeps _ _ holds reads
Depends-keeps P keeps (onwards reads rest) holds = Depends-keeps P keeps rest (keeps _ _ holds reads)

-- a topological order leaves no table that depends on itself: what a table reads stands before it
pub order-acyclic : (graph : Graph) (order : List ℕ) → IsOrder graph order → (table : ℕ) → Depends graph table table → ⊥
order-acyclic graph order found table chain =
    let at = found.each table (Depends-within chain) in
    let later = behind at.place table at.within at.is chain in
    found.once later.place at.place later.before at.within (later.is ∙ sym at.is)
  where
    next : (place t driver : ℕ) → place < length order → OccursBefore place t order → Reads graph t driver → OccursBefore place driver order
    next place t driver lt before reads =
        let there = found.after before.place driver (omega (arith, before.before)) (subst (λ u. Reads graph u driver) (sym before.is) reads) in
        record { place = there.place; before = omega (arith, there.before, before.before); is = there.is }

    first : (place driver : ℕ) → place < length order → get_or order place 0 ≡ table → Reads graph table driver → OccursBefore place driver order
    first place driver lt is reads = found.after place driver lt (subst (λ u. Reads graph u driver) (sym is) reads)

    behind : (place t : ℕ) → place < length order → get_or order place 0 ≡ table → Depends graph table t → OccursBefore place t order
    behind place t lt is (directly reads) = first place t lt is reads
    behind place t lt is (onwards {driver = driver} reads rest) =
        Depends-keeps (λ u. OccursBefore place u order) (λ u other before reading. next place u other lt before reading) rest
        (first place driver lt is reads)
