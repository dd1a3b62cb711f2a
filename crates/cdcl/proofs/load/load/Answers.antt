use Rattle.std.proofs.Common.{◌≡◌, ◌<◌, ◌≤◌, length, arith}
use Rattle.clauses.specs.Literals.{clause_words}
use Rattle.cdcl.proofs.Loading.{formula_within, can_add, loading_more, false_at}
use Rattle.cdcl.proofs.load.load.Goals as goal

pub read_literals-requires-clause-within : goal.read_literals-requires-clause-within
read_literals-requires-clause-within c =
    let cnf = c.args.cnf.now in
    formula_within cnf.variables cnf.clauses c.loop-place.place c.at.result.now cnf.within c.at.ensures.is

pub add_clause-requires : goal.add_clause-requires
add_clause-requires c =
    let cnf = c.args.cnf.now in
    let few : clause_words cnf.clauses ≤ 400000000 = omega (arith, c.words-few.ensures.is, c.words-few.ensures.few) in
    let within : c.loop-place.place < length cnf.clauses = omega (arith, c.loop-place-test.true, c.len-place-end.ensures) in
    rw c.deref.ensures.value
    (can_add cnf c.loop-place.place c.loop-place.propagator c.read_literals.new.numbers.items c.at.result.now few within c.at.ensures.is
    c.in_ok-read_literals.ensures.is c.in_ok-read_literals.ensures.below c.loop-place.invariant)

pub returns-then-not-branch : goal.returns-then-not-branch
returns-then-not-branch c =
    let cnf = c.args.cnf.now in
    let within : c.loop-place.place < length cnf.clauses = omega (arith, c.loop-place-test.true, c.len-place-end.ensures) in
    let both = rw c.if-not-branch.true at c.in_ok-add_clause.ensures in
    let falses = rw c.deref.ensures.value at both.1 in
    rw both.0 (
      c.loop-place.invariant,
      false_at cnf c.loop-place.place c.loop-place.propagator c.read_literals.new.numbers.items c.at.result.now within c.at.ensures.is c.in_ok-read_literals.ensures.is falses,
    )

pub loop-place-preserved : goal.loop-place-preserved
loop-place-preserved c =
    let cnf = c.args.cnf.now in
    let within : c.loop-place.place < length cnf.clauses = omega (arith, c.loop-place-test.true, c.len-place-end.ensures) in
    let added = rw (c.if-not-branch.false, c.deref.ensures.value) at c.in_ok-add_clause.ensures in
    loading_more cnf c.loop-place.place c.loop-place.propagator c.add_clause.new.propagator c.read_literals.new.numbers.items c.at.result.now within c.at.ensures.is
    c.in_ok-read_literals.ensures.is c.loop-place.invariant added

pub returns : goal.returns
returns c =
    let end : length c.args.cnf.now.clauses ≡ c.loop-place.place = omega (arith, c.loop-place-test.false, c.loop-place.auto.place-end, c.len-place-end.ensures) in
    rw end c.loop-place.invariant
