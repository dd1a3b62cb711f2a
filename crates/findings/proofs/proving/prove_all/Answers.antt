use Rattle.std.proofs.Common.{sym, ◌∙◌}
use Rattle.std.proofs.lemmas.Result.{err_from_is_err_and}
use Rattle.findings.proofs.Entries.{with-asked, with-other}
use Rattle.findings.proofs.Numbers.{is-asked-of}
use Rattle.findings.proofs.Recordable.{one-traceable}
use Rattle.findings.proofs.Telling.{fault-then, member-of, told-nothing, told-then}
use Rattle.findings.proofs.proving.prove_all.Goals as goal
use Rattle.findings.specs.Recordings.{wanted_of}
use Rattle.findings.proofs.proving.prove_all.Goals.{then-is_asked+in_ok-entry+in_ok-push, else-is_asked}

pub loop-directive-init : goal.loop-directive-init
loop-directive-init g c = record {
  entries = rw c.new-findings.ensures tt;
  told = told-nothing c.args.netlist.now c.args.unit.now c.args.covers (g.W.Wording.line c.args.wording.now) (g.E.Sink.state c.args.err.now);
}

pub entry_of-requires-clause-asked : goal.entry_of-requires-clause-asked
entry_of-requires-clause-asked g c =
    is-asked-of c.args.covers c.args.unit.now c.as_slice-directive-items.result.now c.loop-directive.directive-index c.directive-item.result c.as_slice-directive-items.ensures
    c.loop-directive-test.true c.directive-item.is (sym c.is_asked.ensures ∙ c.if-is_asked.true) c.requires.numbered

pub entry_of-requires-clause-traceable : goal.entry_of-requires-clause-traceable
entry_of-requires-clause-traceable g c =
    one-traceable c.args.netlist.now (wanted_of c.args.recordings) c.args.unit.now c.as_slice-directive-items.result.now c.loop-directive.directive-index c.directive-item.result
    c.as_slice-directive-items.ensures c.loop-directive-test.true c.directive-item.is c.requires.traceable

pub loop-directive-preserved : goal.loop-directive-preserved
loop-directive-preserved g c = record {
  entries = elim c.if-is_asked.branch [
    | then-is_asked+in_ok-entry+in_ok-push w ↦ rw (w.findings-is, w.in_ok-push.ensures.ok)
        (with-asked c.args.netlist.now c.args.unit.now c.args.options c.args.covers (wanted_of c.args.recordings) c.as_slice-directive-items.result.now c.loop-directive.directive-index c.directive-item.result
        c.loop-directive.findings w.in_ok-entry.entry c.loop-directive-test.true c.directive-item.is (sym c.is_asked.ensures ∙ w.if-is_asked.true) c.loop-directive.invariant.entries
        w.in_ok-entry.ensures.entry)
    | else-is_asked w ↦ rw w.findings-is
        (with-other c.args.netlist.now c.args.unit.now c.args.options c.args.covers (wanted_of c.args.recordings) c.as_slice-directive-items.result.now c.loop-directive.directive-index c.directive-item.result
        c.loop-directive.findings c.loop-directive-test.true c.directive-item.is (sym c.is_asked.ensures ∙ w.if-is_asked.false) c.loop-directive.invariant.entries)
  ];
  told = elim c.if-is_asked.branch [
    | then-is_asked+in_ok-entry+in_ok-push w ↦ rw w.err-is
        (told-then c.args.netlist.now c.args.unit.now c.args.covers (g.W.Wording.line c.args.wording.now) c.directive-item.result
        (member-of c.args.unit.now c.as_slice-directive-items.result.now c.loop-directive.directive-index c.directive-item.result
        c.as_slice-directive-items.ensures c.loop-directive-test.true c.directive-item.is) (sym c.is_asked.ensures ∙ w.if-is_asked.true)
        (g.E.Sink.state c.args.err.now) (g.E.Sink.state c.loop-directive.err) (g.E.Sink.state w.entry_of.new.err)
        c.loop-directive.invariant.told w.in_ok-entry.ensures.told)
    | else-is_asked w ↦ rw w.err-is c.loop-directive.invariant.told
  ];
}

pub returns-in_err-entry-clause-fault : goal.returns-in_err-entry-clause-fault
returns-in_err-entry-clause-fault g c =
    let p = err_from_is_err_and c.from_residual.result c.from_residual.ensures.1 in
    rw (p.1, p.2) (fault-then c.args.netlist.now c.args.unit.now c.args.covers (g.W.Wording.line c.args.wording.now) c.directive-item.result
    (member-of c.args.unit.now c.as_slice-directive-items.result.now c.loop-directive.directive-index c.directive-item.result
    c.as_slice-directive-items.ensures c.loop-directive-test.true c.directive-item.is) (sym c.is_asked.ensures ∙ c.if-is_asked.true)
    (g.E.Sink.state c.args.err.now) (g.E.Sink.state c.loop-directive.err) (g.E.Sink.state c.entry_of.new.err)
    c.loop-directive.invariant.told _ c.in_err-entry.ensures.fault)

pub returns-in_err-push-clause-fault : goal.returns-in_err-push-clause-fault
returns-in_err-push-clause-fault g c =
    let p = err_from_is_err_and c.from_residual-in_err-push.result c.from_residual-in_err-push.ensures.1 in
    rw (p.1, p.2) (told-then c.args.netlist.now c.args.unit.now c.args.covers (g.W.Wording.line c.args.wording.now) c.directive-item.result
    (member-of c.args.unit.now c.as_slice-directive-items.result.now c.loop-directive.directive-index c.directive-item.result
    c.as_slice-directive-items.ensures c.loop-directive-test.true c.directive-item.is) (sym c.is_asked.ensures ∙ c.if-is_asked.true)
    (g.E.Sink.state c.args.err.now) (g.E.Sink.state c.loop-directive.err) (g.E.Sink.state c.entry_of.new.err)
    c.loop-directive.invariant.told c.in_ok-entry.ensures.told)
