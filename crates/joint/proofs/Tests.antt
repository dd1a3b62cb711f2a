-- What an automaton tests are signals of a netlist, so their numbers are below that of the signals.
use Rattle.std.proofs.Common.{ℕ, ◌<◌, List, [], ◌∷◌}
use Rattle.std.specs.Prelude.{All}
use Rattle.alternating_theory.specs.Atoms.{AtomsOfObligations}
use Rattle.alternating_theory.specs.Obligations.{Obligation}
use Rattle.netlist.specs.Sound.{NamesBit}
use Rattle.psl_tree.specs.Names.{AtomInRange}
use Rattle.psl_tree.specs.declared.name.Name.{Name}
use Rattle.run_gates.proofs.Signals.{positive-signals}

pub obligations-signals : (signals : ℕ) (names : List Name) (obligations : List Obligation) → All (NamesBit signals) names → AtomsOfObligations (AtomInRange names) obligations
    → AtomsOfObligations (λ atom. atom.signal < signals) obligations
obligations-signals signals names [] named tests = tt
obligations-signals signals names (obligation ∷ obligations) named tests =
    (positive-signals signals names obligation.delta named tests.0, obligations-signals signals names obligations named tests.1)
