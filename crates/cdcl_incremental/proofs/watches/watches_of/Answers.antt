use Rattle.std.proofs.Common.{get_or, sym, ◌∙◌, arith}
use Rattle.std.proofs.lemmas.List.Elements.{Contains-get_or}
use Rattle.cdcl_incremental.proofs.Levels.{open_in, fewer_open}
use Rattle.cdcl_incremental.proofs.watches.watches_of.Goals as goal
use Rattle.cdcl_incremental.proofs.watches.watches_of.Goals.{then-next-first-2, else-next-first-2+then-next-second, else-next-first-2+else-next-second}

pub loop-literal-init : goal.loop-literal-init
loop-literal-init c =
    let path = c.args.trail.now in
    let clause = c.args.clause.now in
    let first = c.of-first.result in
    let second = c.of-second.result in
    let other = c.in-Some.ensures.some in
    record {
      first = open_in path clause first.literal (get_or clause 0 0) first.levels c.of-first.ensures.is (Contains-get_or clause 0 0 (omega (arith, c.in-len1-up.len_at_least))) c.of-first.ensures.opens;
      second = open_in path clause second.literal c.in-Some.other second.levels c.of-second.ensures.is other.0 c.of-second.ensures.opens;
      differ = λ same. other.1 (sym c.of-first.ensures.is ∙ same ∙ c.of-second.ensures.is);
    }

pub loop-literal-preserved : goal.loop-literal-preserved
loop-literal-preserved c =
    let clause = c.args.clause.now in
    let index = c.loop-literal.literal-index in
    let next = c.of-next.result in
    let before = c.loop-literal.invariant in
    let open_next =
    open_in c.args.trail.now clause next.literal (get_or clause index 0) next.levels c.of-next.ensures.is (Contains-get_or clause index 0 c.loop-literal-test.true) c.of-next.ensures.opens in
    let apart = c.if-next-first.false in
    elim c.if-next-first-2.branch [
      | then-next-first-2 w ↦ rw (w.first-is, w.second-is) record { first = open_next; second = before.first; differ = apart }
      | else-next-first-2+then-next-second w ↦ rw (w.first-is, w.second-is) record { first = before.first; second = open_next; differ = λ same. apart (sym same) }
      | else-next-first-2+else-next-second w ↦ rw (w.first-is, w.second-is) before
    ]

pub returns : goal.returns
returns c =
    let path = c.args.trail.now in
    let clause = c.args.clause.now in
    let first = c.loop-literal.first in
    let second = c.loop-literal.second in
    let before = c.loop-literal.invariant in
    record {
      first = fewer_open path clause first.literal first.levels c.min.result before.first (omega (arith, c.min.ensures));
      second = fewer_open path clause second.literal second.levels c.min.result before.second (omega (arith, c.min.ensures));
      differ = before.differ;
    }
