use Rattle.std.proofs.Common.{rules, List, subst}
use Rattle.psl_tree.specs.Trees.{sequence_of}
use Rattle.sere_nfa.specs.Marking.{MarksAlive}
use Rattle.sere_nfa.specs.Views.{states_of_code}
use Rattle.sere_nfa.specs.declared.state.State.{State}
use Rattle.sere_nfa.proofs.Shown.{made-sound, made-accepts, made-built}
use Rattle.sere_nfa.proofs.nfa.finished.Goals as goal

pub invariant_of-result : goal.invariant_of-result
invariant_of-result c = record {
  sound = made-sound (sequence_of c.args.r.now) c.in_ok-start.field-0 c.push.new.self c.push-2.new.self.items c.requires.no_clock c.in_ok-start.ensures.construction
      (search rules, search rules);
  marked = subst (λ (states : List State). MarksAlive (states_of_code states) c.in_ok-alive.alive) c.as_slice.ensures.value c.in_ok-alive.ensures;
}

pub returns-clause-meaning : goal.returns-clause-meaning
returns-clause-meaning c =
    made-accepts (sequence_of c.args.r.now) c.in_ok-start.field-0 c.push.new.self c.push-2.new.self.items c.requires.no_clock c.in_ok-start.ensures.construction
    (search rules, search rules)

pub returns-clause-built : goal.returns-clause-built
returns-clause-built c =
    made-built (sequence_of c.args.r.now) c.in_ok-start.field-0 c.push.new.self c.push-2.new.self.items c.in_ok-start.ensures.construction
    (search rules, search rules)
