use Rattle.std.proofs.Common.{sym}
use Rattle.clauses.proofs.Flats.{begin_of-zero, begin_of-behind}
use Rattle.clauses.proofs.flat.begin_of.Goals as goal

pub returns-then-place-eq0 : goal.returns-then-place-eq0
returns-then-place-eq0 c = rw c.if-place-eq0.true (sym (begin_of-zero 0 c.args.ends.now))

pub returns-else-place-eq0 : goal.returns-else-place-eq0
returns-else-place-eq0 c = sym (begin_of-behind 0 c.args.ends.now c.args.place c.if-place-eq0.false c.requires)
