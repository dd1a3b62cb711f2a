use Rattle.psl_layer.proofs.Whole.{list_found}
use Rattle.psl_layer.proofs.texts.with_statements.Goals as goal

pub returns : goal.returns
returns c = λ found asked begun.
    list_found c.args.names.now c.args.all.now c.args.outcome _ c.in_ok-reading.reading found asked c.in_ok-reading.ensures.read c.in_ok-reading.ensures.before
    c.earlier-flaw.ensures c.with_list-built.ensures begun
