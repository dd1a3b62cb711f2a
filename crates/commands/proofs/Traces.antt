-- The netlists that are read, and the texts over them, have recordings of their runs.
use Rattle.std.proofs.Common.{◌≡◌, refl, sym, ℕ, ◌≤◌, Bool, List, Option, None, Some, arith}
use Rattle.std.specs.Prelude.{All}
use Rattle.blif_model.specs.Rules.{signal_limit}
use Rattle.command_line.specs.Evidences.{Wanted}
use Rattle.findings.proofs.Shown.{first-is}
use Rattle.findings.specs.Traceable.{AreTraceable, HasTraces}
use Rattle.blif_laws.specs.Plain.{IsPlain}
use Rattle.netlist.specs.Design.{Design}
use Rattle.netlist.specs.Sound.{IsSound}
use Rattle.psl_tree.specs.declared.counts.TheConstants.{MOST_CONSTRUCTORS}
use Rattle.psl_tree.specs.Counts.{formula_size}
use Rattle.psl_tree.specs.Names.{first_name}
use Rattle.psl_tree.specs.Trees.{formula_of}
use Rattle.psl_tree.specs.declared.directive.Directive.{Directive}
use Rattle.psl_tree.specs.declared.name.Name.{Name}
use Rattle.trace.proofs.FirstNames.{has-first}
use Rattle.trace.specs.Trace.{text_of}
use Rattle.trace.specs.Words.{HasWords, IsWord}
use Rattle.commands.specs.Provings.{recordings_in}

has-word : (names : List Name) (signal : ℕ) → All IsPlain names → (first_name names signal ≡ None → ⊥) → (first : Option Name) → first_name names signal ≡ first
    → IsWord (text_of first)
has-word names signal plain some None is = absurd (some is)
has-word names signal plain some (Some name) is =
    let of : IsPlain name = first-is IsPlain names signal name plain (sym is) in
    record { some = of.some; solid = of.plain }

has-words : (design : Design) → IsSound design → All IsPlain design.names → HasWords design
has-words design sound plain signal lt =
    has-word design.names signal plain (has-first design.names signal (sound.named signal lt)) (first_name design.names signal) refl

pub has-traces : (design : Design) → IsSound design → All IsPlain design.names → design.signals ≤ signal_limit → HasTraces design
has-traces design sound plain few = record { words = has-words design sound plain; signals = omega (arith, few) }

-- recordings that the words ask for
traceable-by : (design : Design) (directives : List Directive) (loops : ℕ) (buses : Bool) (prefix : Option (List ℕ)) → HasTraces design
    → All (λ directive. formula_size (formula_of directive.formula) ≤ MOST_CONSTRUCTORS) directives → loops ≤ 16
    → AreTraceable design directives (recordings_in (record { cert = None; vcd = prefix; loops = loops; buses = buses }))
traceable-by design directives loops buses None traces small few = tt
traceable-by design directives loops buses (Some prefix) traces small few = record { traces = traces; small = small; few = few }

pub traceable : (design : Design) (directives : List Directive) (wanted : Wanted) → HasTraces design
    → All (λ directive. formula_size (formula_of directive.formula) ≤ MOST_CONSTRUCTORS) directives → wanted.loops ≤ 16
    → AreTraceable design directives (recordings_in wanted)
traceable design directives wanted traces small few = traceable-by design directives wanted.loops wanted.buses wanted.vcd traces small few
