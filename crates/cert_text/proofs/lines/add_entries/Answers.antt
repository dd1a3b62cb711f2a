use Rattle.std.proofs.Common.{◌∙◌, sym}
use Rattle.std.proofs.lemmas.Result.{on_ok_weaker}
use Rattle.clause_text.specs.Lines.{lemmas_alone}
use Rattle.cert_text.proofs.Joining.{entries_are, printed_all, printed_alone}
use Rattle.cert_text.proofs.lines.add_entries.Goals as goal

pub returns-then-drops_in : goal.returns-then-drops_in
returns-then-drops_in c =
    let all = printed_all c.args.form c.args.log.now (sym c.drops_in.ensures ∙ c.if-drops_in.true) in
    on_ok_weaker c.add_log2.result (λ added. entries_are c.args.text.now.items c.add_log2.new.text.items c.args.form c.args.log.now c.args.log.now all added) c.add_log2.ensures

pub returns-else-drops_in : goal.returns-else-drops_in
returns-else-drops_in c =
    let alone = printed_alone c.args.form c.args.log.now (sym c.drops_in.ensures ∙ c.if-drops_in.false) in
    on_ok_weaker c.add_log.result
    (λ added. entries_are c.args.text.now.items c.add_log.new.text.items c.args.form c.args.log.now (lemmas_alone c.args.log.now) alone added) c.add_log.ensures
