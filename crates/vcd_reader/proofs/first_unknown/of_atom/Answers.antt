use Rattle.std.proofs.Common.{◌∙◌, sym, arith}
use Rattle.vcd_reader.proofs.FirstUnknown.{no-first, this-first}
use Rattle.vcd_reader.specs.FirstUnknown.{is_unknown_for}
use Rattle.vcd_reader.proofs.first_unknown.of_atom.Goals as goal

pub returns-then-is_unknown_near-clause-is : goal.returns-then-is_unknown_near-clause-is
returns-then-is_unknown_near-clause-is c =
    this-first (λ sample. is_unknown_for c.args.recording.now sample c.args.atom.now) c.args.until c.loop-sample.sample c.loop-sample-test.true
    (sym c.is_unknown_near.ensures ∙ c.if-is_unknown_near.true) c.loop-sample.invariant

pub returns-clause-is : goal.returns-clause-is
returns-clause-is c =
    let ends = c.loop-sample-test.false in
    no-first (λ sample. is_unknown_for c.args.recording.now sample c.args.atom.now) c.args.until (λ sample low. c.loop-sample.invariant sample (omega (arith, low, ends)))
