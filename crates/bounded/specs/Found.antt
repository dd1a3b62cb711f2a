-- The run that values of a search's variables give.
use Rattle.std.specs.Prelude.{ℕ, ◌-◌, ℤ, Bool as Truth, false, List, map, replicate}
use Rattle.std.specs.List.{range_with_len}
use Rattle.alternating_theory.specs.Obligations.{Automaton}
use Rattle.bounded_theory.specs.Found.{first_passing}
use Rattle.clauses.specs.Models.{Assignment, is_true}
use Rattle.gates_frames.specs.Frames.{literal_at}
use Rattle.gates_order.specs.Depths.{order_of}
use Rattle.netlist.specs.Design.{Design, free_of}
use Rattle.netlist.specs.Filling.{with_outputs, with_values}
use Rattle.netlist.specs.declared.run.Run.{Run}
use Rattle.bounded.specs.Places.{begins_at}
use Rattle.bounded.specs.Searches.{before_places, literals_of}

-- the values of the signals that no table drives; those outside the cone are 0
abbrev pub free_values : Design → Assignment → List ℤ → List Truth
free_values design values literals = map (λ signal. is_true values (literal_at 0 literals signal)) (free_of design)

-- the valuation with these values
abbrev pub filled : Design → List Truth → List Truth
filled design free =
    with_outputs design.tables (order_of design.tables)
    (with_values (free_of design) free (replicate design.signals false))

-- the valuation of a place
abbrev pub valuation_at : Design → Automaton → Assignment → ℕ → List Truth
valuation_at design automaton values place =
    filled design (free_values design values (literals_of design automaton place))

-- the first place with which the loop may begin
abbrev pub loop_place : Design → Automaton → ℕ → Assignment → ℕ
loop_place design automaton valuations values =
    first_passing valuations
    (λ place. is_true values (begins_at automaton valuations (before_places design automaton valuations) place))

-- the run of the valuations up to the last one, whose loop begins at a place
abbrev pub run_from : (ℕ → List Truth) → ℕ → ℕ → Run
run_from valuation valuations first = record {
  stem = map valuation (range_with_len 0 first);
  loop_part = map valuation (range_with_len first (valuations - first));
}

abbrev pub run_of : Design → Automaton → ℕ → Assignment → Run
run_of design automaton valuations values =
    run_from (valuation_at design automaton values) valuations (loop_place design automaton valuations values)
