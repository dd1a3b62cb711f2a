use Rattle.std.proofs.Common.{◌∷◌, ap, length, arith, length-append}
use Rattle.clause_text.specs.Adding.{AddsLine}
use Rattle.clause_text.specs.declared.reading.Added.TheVariants as added
use Rattle.clause_text.proofs.ReadLines.{ReadTo, bad_line, too_long, read_more}
use Rattle.clause_text.proofs.reading.read_lines.Goals as goal

pub returns-in-NoEntry-clause-fault : goal.returns-in-NoEntry-clause-fault
returns-in-NoEntry-clause-fault c =
    let i = c.loop-rest.invariant in
    let rest = c.loop-rest.rest.now in
    let text = c.in-Some.text.now in
    let next = c.in-Some.next.now in
    let read : ReadTo c.args.drops c.args.bytes.now rest c.loop-rest.log c.loop-rest.line = record { text = i.text; entries = i.entries; few = i.few; at_line = i.line } in
    let added : AddsLine c.args.drops c.loop-rest.log text added.NoEntry c.add_line.new.log = rw c.in-NoEntry.is at c.in_ok-add_line.ensures in
    bad_line c.args.drops c.args.bytes.now rest text next c.loop-rest.log c.add_line.new.log c.loop-rest.line read c.in-Some.ensures.some.0 c.in-Some.ensures.some.1 added

pub returns-in-TooLong-clause-fault : goal.returns-in-TooLong-clause-fault
returns-in-TooLong-clause-fault c =
    let i = c.loop-rest.invariant in
    let rest = c.loop-rest.rest.now in
    let text = c.in-Some.text.now in
    let next = c.in-Some.next.now in
    let read : ReadTo c.args.drops c.args.bytes.now rest c.loop-rest.log c.loop-rest.line = record { text = i.text; entries = i.entries; few = i.few; at_line = i.line } in
    let added : AddsLine c.args.drops c.loop-rest.log text added.TooLong c.add_line.new.log = rw c.in-TooLong.is at c.in_ok-add_line.ensures in
    too_long c.args.drops c.args.bytes.now rest text next c.loop-rest.log c.add_line.new.log c.loop-rest.line read c.in-Some.ensures.some.0 added

pub loop-rest-preserved : goal.loop-rest-preserved
loop-rest-preserved c =
    let i = c.loop-rest.invariant in
    let rest = c.loop-rest.rest.now in
    let text = c.in-Some.text.now in
    let next = c.in-Some.next.now in
    let read : ReadTo c.args.drops c.args.bytes.now rest c.loop-rest.log c.loop-rest.line = record { text = i.text; entries = i.entries; few = i.few; at_line = i.line } in
    let added : AddsLine c.args.drops c.loop-rest.log text added.Added c.add_line.new.log = rw c.in-Added.is at c.in_ok-add_line.ensures in
    let parts = c.in-Some.ensures.some.0 in
    let more = read_more c.args.drops c.args.bytes.now rest text next c.loop-rest.log c.add_line.new.log c.loop-rest.line read parts added in
    record {
      text = more.text;
      entries = more.entries;
      few = more.few;
      line = more.at_line;
      room = omega (arith, i.room, ap length parts, length-append text (10 ∷ next));
    }
