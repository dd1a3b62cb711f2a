use Rattle.std.proofs.Common.{◌∙◌, sym}
use Rattle.wave_judge.proofs.Searching.{first-span, step-last}
use Rattle.wave_judge.proofs.search.Search.point.Goals as goal

pub loop-span-init : goal.loop-span-init
loop-span-init c = record {
  span = first-span c.args.self.now.side c.args.self.now.pass.automaton.now c.args.self.now.pass.recording.now c.samples-samples.result c.in_ok-below.below c.in_ok-above.above
      c.samples-samples.ensures.count c.in_ok-below.ensures.stand c.in_ok-above.ensures.stand (sym c.told.ensures ∙ c.if-told.false) c.requires.settled;
  blocks_are = c.stand-2.ensures.blocks ∙ c.stand.ensures.blocks ∙ c.in_ok-blocks.ensures;
}

pub returns : goal.returns
returns c =
    step-last c.args.self.now.side c.args.self.now.pass.automaton.now c.args.self.now.pass.recording.now c.loop-span.span c.loop-span.invariant.span c.loop-span-test.false
