use Rattle.lasso_judge.proofs.Merging.{whole-of}
use Rattle.lasso_judge.proofs.merged.Merged.new.Goals as goal

pub invariant_of-result : goal.invariant_of-result
invariant_of-result c =
    let w = whole-of c.args.nfa.now.initial c.args.nfa.now.states c.in_ok-classes.classes.items c.deref.result.now c.deref-2.result.now c.in_ok-states.states.items c.in_ok-alive.alive.items
    c.requires.sound c.in_ok-classes.ensures c.deref.ensures.value c.deref-2.ensures.value c.in_ok-states.ensures c.in_ok-alive.ensures c.requires.some in
    record { sound = w.0; same_length = w.1; marked = w.2 }

pub returns-clause-merged : goal.returns-clause-merged
returns-clause-merged c =
    (whole-of c.args.nfa.now.initial c.args.nfa.now.states c.in_ok-classes.classes.items c.deref.result.now c.deref-2.result.now c.in_ok-states.states.items c.in_ok-alive.alive.items
    c.requires.sound c.in_ok-classes.ensures c.deref.ensures.value c.deref-2.ensures.value c.in_ok-states.ensures c.in_ok-alive.ensures c.requires.some).3

pub returns-clause-sound : goal.returns-clause-sound
returns-clause-sound c =
    (whole-of c.args.nfa.now.initial c.args.nfa.now.states c.in_ok-classes.classes.items c.deref.result.now c.deref-2.result.now c.in_ok-states.states.items c.in_ok-alive.alive.items
    c.requires.sound c.in_ok-classes.ensures c.deref.ensures.value c.deref-2.ensures.value c.in_ok-states.ensures c.in_ok-alive.ensures c.requires.some).0
