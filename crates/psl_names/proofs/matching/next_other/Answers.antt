use Rattle.std.proofs.Common.{arith}
use Rattle.psl_names.proofs.Counts.{counts-length, count-within}
use Rattle.psl_names.proofs.matching.next_other.Goals as goal

pub bounds-counts-place : goal.bounds-counts-place
bounds-counts-place c = omega (arith, counts-length c.args.sorted.now c.args.counts.now c.requires.counted)

pub returns-clause-within : goal.returns-clause-within
returns-clause-within c = count-within c.args.sorted.now c.args.counts.now c.args.place c.requires.counted c.requires.inside

pub overflow_add-result-2 : goal.overflow_add-result-2
overflow_add-result-2 c = omega (arith, count-within c.args.sorted.now c.args.counts.now c.args.place c.requires.counted c.requires.inside)
