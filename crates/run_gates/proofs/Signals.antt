-- What a netlist's tables, latches and names are of.
use Rattle.std.proofs.Common.{ℕ, ◌<◌, List}
use Rattle.std.specs.Prelude.{All}
use Rattle.alternating_theory.specs.Atoms.{AtomsOfPositive}
use Rattle.alternating_theory.specs.Positive.{Positive, Const, Holds, Owed, And, Or}
use Rattle.netlist.specs.Design.{Design}
use Rattle.netlist.specs.Sound.{IsSound, NamesBit}
use Rattle.netlist.proofs.Driving.{latches-within, outputs-within}
use Rattle.psl_tree.specs.Atoms.{AtomsOfBoolean}
use Rattle.psl_tree.specs.Names.{AtomInRange}
use Rattle.psl_tree.specs.Trees as trees
use Rattle.psl_tree.specs.Trees.{Boolean}
use Rattle.psl_tree.specs.declared.name.Name.{Name}
use Rattle.run_gates.specs.Marks.{IsSoundLatch, IsSoundTable}
use Rattle.run_terms.proofs.BooleanValues.{signal-below}

pub sound-tables : (design : Design) → IsSound design → All (IsSoundTable design.signals) design.tables
sound-tables design sound place other within = record {
  inputs = sound.table_inputs place other within;
  output = outputs-within design sound place other within;
  marks = sound.marks place other within;
}

pub sound-latches : (design : Design) → IsSound design → All (IsSoundLatch design.signals) design.latches
sound-latches design sound place other within = record {
  input = sound.latch_inputs place other within;
  output = latches-within design sound place other within;
}

-- atoms in range of names are of signals that there are
boolean-signals : (signals : ℕ) (names : List Name) (test : Boolean) → All (NamesBit signals) names → AtomsOfBoolean (AtomInRange names) test
    → AtomsOfBoolean (λ atom. atom.signal < signals) test
boolean-signals signals names (trees.Const truth) named in_range = tt
boolean-signals signals names (trees.Test atom) named in_range = signal-below signals names atom named in_range
boolean-signals signals names (trees.Not part) named in_range = boolean-signals signals names part named in_range
boolean-signals signals names (trees.And left right) named in_range =
    (boolean-signals signals names left named in_range.0, boolean-signals signals names right named in_range.1)
boolean-signals signals names (trees.Or left right) named in_range =
    (boolean-signals signals names left named in_range.0, boolean-signals signals names right named in_range.1)

pub positive-signals : (signals : ℕ) (names : List Name) (positive : Positive) → All (NamesBit signals) names → AtomsOfPositive (AtomInRange names) positive
    → AtomsOfPositive (λ atom. atom.signal < signals) positive
positive-signals signals names (Const truth) named in_range = tt
positive-signals signals names (Holds test) named in_range = boolean-signals signals names test named in_range
positive-signals signals names (Owed number) named in_range = tt
positive-signals signals names (And left right) named in_range =
    (positive-signals signals names left named in_range.0, positive-signals signals names right named in_range.1)
positive-signals signals names (Or left right) named in_range =
    (positive-signals signals names left named in_range.0, positive-signals signals names right named in_range.1)
