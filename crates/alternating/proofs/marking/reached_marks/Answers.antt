use Rattle.std.proofs.Common.{◌≡◌, ◌<◌, [], rules}
use Rattle.sere_nfa.proofs.Reach.{work}
use Rattle.sere_nfa.specs.MarkingView.{marking_of}
use Rattle.alternating.specs.Views.{obligations_of_code}
use Rattle.alternating.proofs.Search.{IsSearch, begun-code, below-code, owed-code, more-code, ended-code}
use Rattle.alternating.proofs.marking.reached_marks.Goals as goal

pub loop-number-init : goal.loop-number-init
loop-number-init c = begun-code c.args.obligations.now c.args.start c.requires.begun c.requires.within (marking_of c.visit.new.self) (search rules)

pub bounds-obligations-number : goal.bounds-obligations-number
bounds-obligations-number c =
    below-code c.args.obligations.now c.args.start c.requires.begun c.requires.within (marking_of c.loop-number.marking) c.pop.new.self.items c.in-Some.number
    c.loop-number.invariant c.in-Some.ensures.items

pub visit_owed-requires : goal.visit_owed-requires
visit_owed-requires c =
    owed-code c.args.obligations.now c.args.start c.requires.begun c.requires.within (marking_of c.loop-number.marking) c.pop.new.self.items c.in-Some.number
    c.index-obligations-number.result c.loop-number.invariant c.in-Some.ensures.items c.index-obligations-number.is

stepped : (c : goal.In_ok-visit_owed) → IsSearch (obligations_of_code c.args.obligations.now) c.args.start (marking_of c.visit_owed.new.marking) × (work (marking_of c.visit_owed.new.marking) < work (marking_of c.loop-number.marking))
stepped c =
    more-code c.args.obligations.now c.args.start c.requires.begun c.requires.within (marking_of c.loop-number.marking) c.pop.new.self.items c.in-Some.number
    c.index-obligations-number.result (marking_of c.visit_owed.new.marking) c.loop-number.invariant c.in-Some.ensures.items c.index-obligations-number.is c.in_ok-visit_owed.ensures.marking

pub loop-number-smaller : goal.loop-number-smaller
loop-number-smaller c = (stepped c).1

pub loop-number-preserved : goal.loop-number-preserved
loop-number-preserved c = (stepped c).0

pub returns : goal.returns
returns c =
    let done : c.loop-number.marking.waiting.items ≡ [] = search rules in
    ended-code c.args.obligations.now c.args.start c.requires.begun c.requires.within (marking_of c.loop-number.marking) c.loop-number.invariant done
