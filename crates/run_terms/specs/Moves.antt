-- Moves from a position to the next one, and how the first one begins.
use Rattle.std.specs.Prelude.{ℕ, ℤ, neg_ℤ, List, [], ◌∷◌, ◌++◌, map, flat_map}
use Rattle.std.specs.List.{range_with_len}
use Rattle.gates_theory.specs.Terms.{Term, Literal, Equality}
use Rattle.netlist.specs.declared.latch.Init.{Init}
use Rattle.netlist.specs.declared.latch.Init.TheVariants as inits
use Rattle.netlist.specs.declared.latch.Latch.{Latch}
use Rattle.run_terms.specs.Positions.{had, earlier, current}

-- two literals have one value
abbrev pub same_term : ℤ → ℤ → Term
same_term first second = Equality (Literal first) (Literal second)

-- the valuation before the next position, with its bits from another base on, is this valuation
abbrev pub shift_terms : ℕ → ℕ → ℕ → List Term
shift_terms signals base next =
    map (λ signal. same_term (earlier next signal) (current signals base signal)) (range_with_len 0 signals)

-- the output of each latch has at the next position the value that its input has here
abbrev pub latch_term : ℕ → ℕ → ℕ → Latch → Term
latch_term signals base next latch = same_term (current signals next latch.output) (current signals base latch.input)

-- the next position follows this one
abbrev pub move_terms : ℕ → ℕ → ℕ → List Latch → List Term
move_terms signals base next latches =
    Literal (had next) ∷ shift_terms signals base next ++ map (latch_term signals base next) latches

-- a latch has its first value
abbrev pub init_literals : Init → ℤ → List ℤ
init_literals inits.Zero literal = neg_ℤ literal ∷ []
init_literals inits.One literal = literal ∷ []
init_literals inits.Free literal = []

-- there is no valuation before, and the latches have their first values
abbrev pub first_literals : ℕ → ℕ → List Latch → List ℤ
first_literals signals base latches =
    neg_ℤ (had base) ∷ flat_map (λ latch. init_literals latch.init (current signals base latch.output)) latches
