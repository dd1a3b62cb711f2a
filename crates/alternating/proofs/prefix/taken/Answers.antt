use Rattle.std.proofs.Common.{rules, ◌∙◌, ◌-◌, ap, sym, List, ◌∷◌, length, drop}
use Rattle.psl_tree.specs.SequenceAutomata.{Edge}
use Rattle.sere_nfa.specs.Views.{edge_of, edges_of}
use Rattle.sere_nfa.specs.declared.edge.NfaEdge.{NfaEdge}
use Rattle.alternating_theory.specs.Construction.{taken, taken_edge}
use Rattle.alternating_theory.specs.Positive.{Positive}
use Rattle.alternating.proofs.Edges.{edge-before}
use Rattle.alternating.proofs.prefix.taken.Goals as goal

pub loop-done-preserved : goal.loop-done-preserved
loop-done-preserved c =
    c.in_ok-found.ensures
    ∙ ap (λ (p : Positive). taken_edge c.args.stage.now.nfa.now.states c.args.stage.now.offset (edge_of c.index-edges-edges.result) p) c.loop-done.invariant
    ∙ ap (λ (e : NfaEdge). taken c.args.stage.now.nfa.now.states c.args.stage.now.offset (edge_of e ∷ edges_of (drop (length c.args.edges.now - c.loop-done.done) c.args.edges.now))) c.index-edges-edges.is
    ∙ ap (λ (l : List Edge). taken c.args.stage.now.nfa.now.states c.args.stage.now.offset l) (sym (edge-before c.args.edges.now c.loop-done.done c.index-edges-edges.result (search rules)))
