-- What is known of an automaton where it is that of some formula.
use Rattle.std.specs.Prelude.{◌≡◌}
use Rattle.psl_tree.specs.Clockless.{IsPlain}
use Rattle.psl_tree.specs.Trees.{Formula}
use Rattle.alternating_theory.specs.Obligations.{Automaton}
use Rattle.alternating_theory.specs.Built.{built}

-- P holds of each formula without clocks whose automaton it is
abbrev pub OfItsFormula : Automaton → (Formula → Type 0) → Type 0
OfItsFormula automaton P = (formula : Formula) → IsPlain formula → automaton ≡ built formula → P formula
