use Rattle.std.proofs.Common.{◌∙◌, ◌<◌, refl, ap, sym, subst, arith, ℕ, List, length, get_or}
use Rattle.alternating_theory.specs.Obligations.{obligation_at}
use Rattle.alternating_theory.specs.Positive.{Positive}
use Rattle.alternating_blocks.proofs.Bare.{bare-meets}
use Rattle.alternating_blocks.proofs.Settled.{none-settled, one-settled, same-words, are-values, AllSettled}
use Rattle.alternating_blocks.proofs.equations.Equations.hold.Goals as goal
use Rattle.alternating_blocks.specs.Block.{MeetsAll}
use Rattle.alternating_blocks.specs.Plan.{combination_of}
use Rattle.alternating_blocks.specs.Words.{words_at}
use Rattle.alternating_blocks.specs.declared.plan.Node as code_node

pub loop-number-init : goal.loop-number-init
loop-number-init c = λ automaton atoms columns equations. none-settled automaton.obligations atoms columns c.args.self.now.after.now c.args.words.now

pub loop-number-preserved : goal.loop-number-preserved
loop-number-preserved c = λ automaton atoms columns equations.
    let same = same-words c.met.result (words_at c.args.words.now c.loop-number.number) (sym c.ne.ensures ∙ c.if-ne.false) in
    let tests = c.args.self.now.plan.now.tests.items in
    let node = c.index-deltas-number.result in
    let within : c.loop-number.number < length c.args.self.now.plan.now.deltas.items = omega (arith, c.requires.ready.deltas, c.requires.words) in
    let is = ap (λ (n : code_node.Node). combination_of tests n) (c.index-deltas-number.is ∙ ap (λ (l : List code_node.Node). get_or l c.loop-number.number node) c.as_slice-deltas.ensures.value)
    ∙ (equations.plan.deltas c.loop-number.number node within).0 in
    let delta = (obligation_at automaton.obligations c.loop-number.number).delta in
    let meets = subst (λ (p : Positive). MeetsAll atoms columns c.args.self.now.after.now c.args.words.now p c.met.result) is (c.met.ensures atoms columns equations.tests c.requires.ready.tests) in
    one-settled automaton.obligations atoms columns c.args.self.now.after.now c.args.words.now c.loop-number.number delta c.met.result
    (c.loop-number.invariant automaton atoms columns equations) refl same (bare-meets atoms columns c.args.self.now.after.now c.args.words.now delta c.met.result meets)

pub returns : goal.returns
returns c = λ _ automaton atoms columns equations.
    let settled = c.loop-number.invariant automaton atoms columns equations in
    are-values automaton atoms columns c.args.self.now.after.now c.args.words.now (sym c.requires.ready.deltas ∙ equations.plan.count) (c.requires.words ∙ sym c.requires.ready.deltas ∙ equations.plan.count)
    (subst (λ (n : ℕ). AllSettled automaton.obligations atoms columns c.args.self.now.after.now c.args.words.now n) (omega (arith, c.requires.ready.deltas, equations.plan.count, c.requires.words)) settled)
