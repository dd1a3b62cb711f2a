use Rattle.cdcl.proofs.Stepping.{entry_fits}
use Rattle.cdcl.proofs.learn.log_lemma.Goals as goal

pub push-requires-clause-entry : goal.push-requires-clause-entry
push-requires-clause-entry c =
    rw (c.deref-2.ensures.value, c.in_ok-add_signed.ensures, c.clear.ensures.items, c.deref.ensures.value, c.deref-3.ensures.value)
    (entry_fits c.args.lemma.now.literals.items c.args.lemma.now.hints.items c.requires.literals c.requires.hints)
