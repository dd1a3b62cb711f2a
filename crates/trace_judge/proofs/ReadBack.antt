-- The trace is read as what it says, and the atoms of a formula over the names of the netlist are those of the trace.
use Rattle.std.proofs.Common.{◌≡◌, sym, ◌∙◌, ap, List, ℕ, Ok}
use Rattle.std.specs.Prelude.{IsOk, Result, is_ok}
use Rattle.netlist.specs.Design.{Design}
use Rattle.netlist.specs.Sound.{IsSound}
use Rattle.netlist.specs.declared.run.Run.{Run}
use Rattle.psl_tree.specs.Atoms.{AtomsOfBoolean, AtomsOfFormula, AtomsOfSequence}
use Rattle.psl_tree.specs.Names.{AtomInRange}
use Rattle.psl_tree.specs.Trees.{Boolean, Sequence, Formula}
use Rattle.psl_tree.specs.Trees as trees
use Rattle.psl_tree.specs.declared.atom.Atom.{Atom}
use Rattle.trace.proofs.Accepting.{trace-read}
use Rattle.trace.specs.Trace.{trace_names, trace_sampled, trace_text}
use Rattle.trace_judge.proofs.Held.{in-range}
use Rattle.trace_judge.specs.Verdicts.{IsReadable}
use Rattle.vcd_reader.specs.declared.fault.VcdFault.{VcdFault}
use Rattle.vcd_reader.specs.declared.unknown.Unknown.TheVariants.{Zero}
use Rattle.vcd_reader.specs.Meaning.{reading}
use Rattle.vcd_reader.specs.Sampled.{Sampled}

-- what the trace says
pub trace-says : (text : List ℕ) (design : Design) (run : Run) (loops : ℕ) → text ≡ trace_text design run loops → IsReadable design run loops
    → reading Zero text ≡ Ok (trace_sampled Zero design run loops)
trace-says text design run loops is readable =
    ap (reading Zero) is ∙ trace-read Zero design run loops readable.is readable.words readable.signals readable.samples

-- a trace has no fault
pub trace-faultless : (text : List ℕ) (design : Design) (run : Run) (loops : ℕ) → text ≡ trace_text design run loops → IsReadable design run loops → IsOk (reading Zero text)
trace-faultless text design run loops is readable = ap (λ (r : Result Sampled VcdFault). is_ok r) (trace-says text design run loops is readable)

-- it is read as what it says
pub read-trace : (text : List ℕ) (design : Design) (run : Run) (loops : ℕ) (recording : Sampled) → text ≡ trace_text design run loops → IsReadable design run loops
    → reading Zero text ≡ Ok recording → recording ≡ trace_sampled Zero design run loops
read-trace text design run loops recording is readable read =
    let e : Ok recording ≡ Ok (trace_sampled Zero design run loops) = sym read ∙ trace-says text design run loops is readable in cc

-- ---- atoms that have more

module _ (P Q : Atom → Type 0) (more : (atom : Atom) → P atom → Q atom) where
  of-boolean : (b : Boolean) → AtomsOfBoolean P b → AtomsOfBoolean Q b
  of-boolean (trees.Const value) h = tt
  of-boolean (trees.Test atom) h = more atom h
  of-boolean (trees.Not part) h = of-boolean part h
  of-boolean (trees.And left right) h = (of-boolean left h.0, of-boolean right h.1)
  of-boolean (trees.Or left right) h = (of-boolean left h.0, of-boolean right h.1)

  of-sequence : (r : Sequence) → AtomsOfSequence P r → AtomsOfSequence Q r
  of-sequence trees.Empty h = tt
  of-sequence (trees.One test) h = of-boolean test h
  of-sequence (trees.Concat left right) h = (of-sequence left h.0, of-sequence right h.1)
  of-sequence (trees.Fuse left right) h = (of-sequence left h.0, of-sequence right h.1)
  of-sequence (trees.Either left right) h = (of-sequence left h.0, of-sequence right h.1)
  of-sequence (trees.Both left right) h = (of-sequence left h.0, of-sequence right h.1)
  of-sequence (trees.Star part) h = of-sequence part h
  of-sequence (trees.Clocked part clock) h = (of-sequence part h.0, of-boolean clock h.1)

  of-formula : (f : Formula) → AtomsOfFormula P f → AtomsOfFormula Q f
  of-formula (trees.Now test) h = of-boolean test h
  of-formula (trees.NowStrong test) h = of-boolean test h
  of-formula (trees.Weak sequence) h = of-sequence sequence h
  of-formula (trees.Strong sequence) h = of-sequence sequence h
  of-formula (trees.Not part) h = of-formula part h
  of-formula (trees.And left right) h = (of-formula left h.0, of-formula right h.1)
  of-formula (trees.Next part) h = of-formula part h
  of-formula (trees.Until left right) h = (of-formula left h.0, of-formula right h.1)
  of-formula (trees.Suffix sequence part) h = (of-sequence sequence h.0, of-formula part h.1)
  of-formula (trees.Abort part test) h = (of-formula part h.0, of-boolean test h.1)
  of-formula (trees.SyncAbort part test) h = (of-formula part h.0, of-boolean test h.1)
  of-formula (trees.Clocked part clock) h = (of-formula part h.0, of-boolean clock h.1)

pub in-trace : (design : Design) → IsSound design → (f : Formula) → AtomsOfFormula (AtomInRange design.names) f → AtomsOfFormula (AtomInRange (trace_names design)) f
in-trace design sound f = of-formula (AtomInRange design.names) (AtomInRange (trace_names design)) (in-range design sound) f
