use Rattle.std.proofs.Common.{length, refl, sym, arith}
use Rattle.trace.proofs.Sizes.{past-none, samples-many}
use Rattle.trace.proofs.lengths.samples_length.Goals as goal
use Rattle.trace.specs.Codes.{codes_of}
use Rattle.trace.specs.Trace.{count_of, valuation_in}
use Rattle.vcd_writer.specs.Lines.{samples_from}

pub returns-in-None : goal.returns-in-None
returns-in-None c =
    let count = count_of c.args.run.now c.args.loops in
    let many = samples-many c.args.netlist.now c.args.run.now c.requires count in
    let large = c.in-None.ensures.none refl in
    sym (past-none c.args.most (length (samples_from (codes_of c.args.netlist.now.signals) (valuation_in c.args.run.now) 0 count)) (omega (arith, c.ranges.most.fits, many, large)))
