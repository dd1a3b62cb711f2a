use Rattle.std.proofs.Common.{◌≡◌, sym, ap, ◌∙◌, subst, List, length, arith}
use Rattle.std.specs.Prelude.{OnOk}
use Rattle.psl_tree.specs.declared.boolean.Bool as code_boolean
use Rattle.alternating_theory.specs.Obligations.{Automaton}
use Rattle.alternating_blocks.proofs.Stepped.{all-block-steps, same-shown}
use Rattle.alternating_blocks.proofs.step.Blocks.step_back.Goals as goal
use Rattle.alternating_blocks.proofs.step.Blocks.step_back.Goals.{then-hold, else-hold}
use Rattle.alternating_blocks.specs.Plan.{TestsTell}
use Rattle.alternating_blocks.specs.Values.{HasCounts, StepsBlock}
use Rattle.alternating_blocks.specs.declared.values.Values.{Values}

pub returns-clause-steps : goal.returns-clause-steps
returns-clause-steps c =
    let automaton : Automaton = c.self.inside.automaton.now in
    let atoms = c.args.letters.now.atoms.now in
    let columns = c.args.letters.now.columns.now in
    let same : automaton ≡ c.args.self.now = c.self.view_is in
    elim c.if-hold.branch [
      | then-hold w ↦ (let tests = subst (λ (l : List code_boolean.Bool). TestsTell atoms columns l c.tell.new.into) c.as_slice.ensures.value c.tell.ensures in
          let values = c.hold.ensures w.if-hold.true automaton atoms columns (record { plan = c.self.invariant.plan; tests = tests }) in
          rw (w.result-is, w.into-is, ← same)
          (all-block-steps automaton atoms columns c.spread.new.into c.find.new.words c.args.next.now w.read_first.new.self c.len-count.result c.len-count.ensures
          values (c.spread.ensures 63 (omega arith)) w.read_first.ensures.first w.read_first.ensures.counts))
      | else-hold w ↦ (let many = c.len-count.ensures ∙ ap (λ (a : Automaton). length a.obligations) same in
          let counts = subst (λ n. HasCounts n c.args.next.now) (sym many) c.requires.next_lengths in
          let shown = same-shown 0 c.len-count.result c.spread.new.into w.read_first-else-hold.new.self c.args.next.now
          w.read_first-else-hold.ensures.first (c.spread.ensures 0 (omega arith)) w.read_first-else-hold.ensures.counts counts in
          rw (w.result-is, w.into-is, ← same)
          (subst (λ (v : Values). OnOk w.each_step.result (StepsBlock automaton atoms columns v w.each_step.new.values)) shown w.each_step.ensures.steps))
    ]
