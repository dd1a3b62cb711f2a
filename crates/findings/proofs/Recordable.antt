-- A run that is found can be recorded, and its trace be judged.
use Rattle.std.proofs.Common.{◌≡◌, sym, subst, ℕ, Bool, ◌+◌, ◌*◌, ◌<◌, ◌≤◌, List, [], ◌∷◌, length, Option, None, Some, inr, arith}
use Rattle.std.specs.Prelude.{All, slice_index_or}
use Rattle.std.proofs.lemmas.List.Elements.{All-cons, All-nil}
use Rattle.std.proofs.lemmas.Nat.{mul-le}
use Rattle.alternating.specs.Limits.{HasLargeSequence}
use Rattle.netlist.proofs.Walking.{run-made}
use Rattle.netlist.specs.Design.{Design}
use Rattle.netlist.specs.declared.run.Run.{Run}
use Rattle.owed.specs.Owed.{assumptions, conjunction, under}
use Rattle.prover.specs.Findings.{IsFinding, IsHeldPath, IsShortest}
use Rattle.prover.specs.Tasks.{IsProvable}
use Rattle.prover.specs.declared.finding.Finding.{Finding}
use Rattle.prover.specs.declared.finding.Finding.TheVariants as findings
use Rattle.prover.specs.declared.task.Task.{Task}
use Rattle.psl_tree.specs.Plain.{plain}
use Rattle.psl_tree.specs.Counts.{formula_size, obligations_of}
use Rattle.psl_tree.specs.Trees.{Formula, Not, And, formula_of}
use Rattle.psl_tree.specs.declared.counts.TheConstants.{MOST_CONSTRUCTORS, MOST_OBLIGATIONS}
use Rattle.psl_tree.specs.declared.directive.Directive.{Directive}
use Rattle.psl_tree.specs.declared.directive.Kind.{Kind}
use Rattle.psl_tree.specs.declared.directive.Kind.TheVariants.{Assert, Assume, Cover}
use Rattle.vcd_reader.specs.Rules.{sample_limit}
use Rattle.wave_judge.specs.Faults.{IsJudgeable}
use Rattle.findings.proofs.Paths.{along-made}
use Rattle.findings.specs.Recordings.{Form, along, unlooped, CanRecord, IsRunRecordable, Recordable}
use Rattle.findings.specs.Traceable.{AreTraceable, IsTraceable}

-- a formula that is small enough under assumptions is so alone

alone-small : (assumed : Option Formula) (kind : Kind) (formula : Formula) → (HasLargeSequence (plain (under assumed kind formula) None) → ⊥)
    → HasLargeSequence (plain formula None) → ⊥
alone-small None Assert formula small large = small large
alone-small None Assume formula small large = small large
alone-small None Cover formula small large = small large
alone-small (Some assumed) Assert formula small large = small (inr large)
alone-small (Some assumed) Assume formula small large = small (inr large)
alone-small (Some assumed) Cover formula small large = small (inr large)

under-few : (assumed formula : Formula) → obligations_of (plain (Not (And assumed (Not formula))) None) ≤ MOST_OBLIGATIONS
    → obligations_of (plain formula None) ≤ MOST_OBLIGATIONS
under-few assumed formula few =
    let both : obligations_of (plain assumed None) + (obligations_of (plain formula None) + 1) + 1 + 1 ≤ MOST_OBLIGATIONS = few in
    omega (arith, both)

alone-few : (assumed : Option Formula) (kind : Kind) (formula : Formula) → obligations_of (plain (under assumed kind formula) None) ≤ MOST_OBLIGATIONS
    → obligations_of (plain formula None) ≤ MOST_OBLIGATIONS
alone-few None Assert formula few = few
alone-few None Assume formula few = few
alone-few None Cover formula few = let one : obligations_of (plain formula None) + 1 ≤ MOST_OBLIGATIONS = few in omega (arith, one)
alone-few (Some assumed) Assert formula few = under-few assumed formula few
alone-few (Some assumed) Assume formula few = under-few assumed formula few
alone-few (Some assumed) Cover formula few =
    let both : obligations_of (plain assumed None) + obligations_of (plain formula None) + 1 + 1 ≤ MOST_OBLIGATIONS = few in
    omega (arith, both)

can-judge : (task : Task) → IsProvable task → IsJudgeable task.directive.now
can-judge task provable =
    let assumed = conjunction (assumptions task.unit.now) in
    let formula = formula_of task.directive.now.formula in
    let kind = task.directive.now.kind in
    record {
      sequences = alone-small assumed kind formula provable.sized.sequences;
      obligations = alone-few assumed kind formula provable.sized.obligations;
    }

-- the samples of a short run, its loop 16 times at most, are few
few-samples : (stem looped loops : ℕ) → stem + looped ≤ 1000 → loops ≤ 16 → stem + loops * looped ≤ sample_limit
few-samples stem looped loops short few =
    let most : loops * looped ≤ 16 * looped = mul-le loops looped 16 looped few (omega arith) in
    omega (arith, short, most)

can-record : (task : Task) (loops : ℕ) (run : Run) → IsProvable task → task.options.depth ≤ 1000
    → IsTraceable task.netlist.now (task.directive.now ∷ []) loops
    → IsShortest task.netlist.now task.unit.now task.directive.now task.options.depth run → CanRecord task loops run
can-record task loops run provable depth traceable shortest =
    let short : length run.stem + length run.loop_part ≤ 1000 = omega (arith, depth, shortest.within) in
    record {
      readable = record {
        is = run-made task.netlist.now run shortest.is.is;
        words = traceable.traces.words;
        signals = traceable.traces.signals;
        samples = few-samples (length run.stem) (length run.loop_part) loops short traceable.few;
      };
      in_range = provable.directive;
      small = traceable.small 0 task.directive.now (omega arith);
      judgeable = can-judge task provable;
    }

run-recordable : (task : Task) (wanted : Option Form) (run : Run) → IsProvable task → task.options.depth ≤ 1000
    → AreTraceable task.netlist.now (task.directive.now ∷ []) wanted
    → IsShortest task.netlist.now task.unit.now task.directive.now task.options.depth run → IsRunRecordable task wanted run
run-recordable task None run provable depth traceable shortest = tt
run-recordable task (Some (naming, loops)) run provable depth traceable shortest = can-record task loops run provable depth traceable shortest

-- a path, which is short, is recorded without a loop
can-record-path : (task : Task) (loops : ℕ) (path : List (List Bool)) → IsProvable task → task.options.depth ≤ 1000
    → IsTraceable task.netlist.now (task.directive.now ∷ []) loops
    → IsHeldPath task.netlist.now task.unit.now task.directive.now task.options.depth path → CanRecord task 0 (along path)
can-record-path task loops path provable depth traceable held = record {
  readable = record {
    is = along-made task.netlist.now path held.is;
    words = traceable.traces.words;
    signals = traceable.traces.signals;
    samples = omega (arith, depth, held.within);
  };
  in_range = provable.directive;
  small = traceable.small 0 task.directive.now (omega arith);
  judgeable = can-judge task provable;
}

path-recordable : (task : Task) (wanted : Option Form) (path : List (List Bool)) → IsProvable task → task.options.depth ≤ 1000
    → AreTraceable task.netlist.now (task.directive.now ∷ []) wanted
    → IsHeldPath task.netlist.now task.unit.now task.directive.now task.options.depth path
    → IsRunRecordable task (unlooped wanted) (along path)
path-recordable task None path provable depth traceable held = tt
path-recordable task (Some (naming, loops)) path provable depth traceable held = can-record-path task loops path provable depth traceable held

pub recordable : (task : Task) (wanted : Option Form) (finding : Finding) → IsProvable task → task.options.depth ≤ 1000
    → AreTraceable task.netlist.now (task.directive.now ∷ []) wanted
    → IsFinding task.netlist.now task.unit.now task.directive.now task.options finding → Recordable task wanted finding
recordable task wanted (findings.Violated run) provable depth traceable is = run-recordable task wanted run provable depth traceable is
recordable task wanted (findings.Held path end) provable depth traceable is =
    (is.path_is.is.some, path-recordable task wanted path provable depth traceable is.path_is)
recordable task wanted (findings.Proved _) provable depth traceable is = tt
recordable task wanted (findings.ProvedReach _) provable depth traceable is = tt
recordable task wanted (findings.Depth _) provable depth traceable is = tt
recordable task wanted (findings.DepthReach _ _) provable depth traceable is = tt
recordable task wanted (findings.Steps _ _) provable depth traceable is = tt
recordable task wanted (findings.LogFull _ _) provable depth traceable is = tt
recordable task wanted (findings.Large _) provable depth traceable is = tt

-- one directive of a text
one-small : (unit items : List Directive) (place : ℕ) (d : Directive) → items ≡ unit → place < length items → d ≡ slice_index_or items place d
    → All (λ directive. formula_size (formula_of directive.formula) ≤ MOST_CONSTRUCTORS) unit
    → All (λ directive. formula_size (formula_of directive.formula) ≤ MOST_CONSTRUCTORS) (d ∷ [])
one-small unit items place d same lt here small =
    let at : formula_size (formula_of d.formula) ≤ MOST_CONSTRUCTORS =
    subst (λ (e : Directive). formula_size (formula_of e.formula) ≤ MOST_CONSTRUCTORS) (sym here)
    (subst (All (λ (e : Directive). formula_size (formula_of e.formula) ≤ MOST_CONSTRUCTORS)) (sym same) small place d lt) in
    All-cons (λ (e : Directive). formula_size (formula_of e.formula) ≤ MOST_CONSTRUCTORS) d [] at
    (All-nil (λ (e : Directive). formula_size (formula_of e.formula) ≤ MOST_CONSTRUCTORS))

pub one-traceable : (design : Design) (wanted : Option Form) (unit items : List Directive) (place : ℕ) (d : Directive) → items ≡ unit
    → place < length items → d ≡ slice_index_or items place d → AreTraceable design unit wanted → AreTraceable design (d ∷ []) wanted
one-traceable design None unit items place d same lt here traceable = tt
one-traceable design (Some (naming, loops)) unit items place d same lt here traceable = record {
  traces = traceable.traces;
  small = one-small unit items place d same lt here traceable.small;
  few = traceable.few;
}
