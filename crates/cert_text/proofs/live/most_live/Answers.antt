use Rattle.std.proofs.Common.{arith}
use Rattle.clauses.specs.Entries.{entry_of}
use Rattle.clauses.specs.declared.log.TheConstants.{MOST_LOG_WORDS}
use Rattle.cert_theory.specs.Printed.{most_from}
use Rattle.cert_text.proofs.Counting.{few_step, greater, whole_step}
use Rattle.cert_text.proofs.live.most_live.Goals as goal

pub loop-entry-preserved : goal.loop-entry-preserved
loop-entry-preserved c =
    let before = c.loop-entry in
    let entry = entry_of c.in-Some.entry in
    let held = c.held_after-held.result in
    let most = c.max-most.result in
    let top = greater before.most held most c.max-most.ensures in
    let split = c.in-Some.ensures.next in
    record {
      whole = whole_step before.most before.held held most (most_from 0 c.args.log.now) entry c.next.new.self before.entries c.held_after-held.ensures top split before.invariant.order before.invariant.whole;
      order = omega (arith, top);
      few = few_step MOST_LOG_WORDS before.held held entry c.next.new.self before.entries c.held_after-held.ensures split before.invariant.few;
    }
