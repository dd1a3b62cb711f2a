use Rattle.word_pool.specs.Free.{AddsLengths}
use Rattle.word_pool.proofs.free.add_lengths.Given as goal

abbrev pub invariant-loop : goal.invariant-loop
invariant-loop l = AddsLengths l.initial.firsts.items l.firsts.items
