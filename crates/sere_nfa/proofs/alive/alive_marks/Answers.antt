use Rattle.std.proofs.Common.{◌≡◌, ◌∙◌, ◌<◌, Bool as Truth, ℕ, [], List, sym, rules, arith, subst, length, slice_index_or}
use Rattle.std.proofs.lemmas.List.{length-map, get_or_default}
use Rattle.sere_nfa.specs.Marking.{sources_from, MarksAlive}
use Rattle.sere_nfa.specs.MarkingView.{marking_of}
use Rattle.sere_nfa.specs.Views.{state_of, states_of_code}
use Rattle.sere_nfa.proofs.Reach.{alive-start, alive-step, found-below, waiting-below, all-below, search-ends, IsSearch, work}
use Rattle.sere_nfa.proofs.alive.alive_marks.Goals as goal

pub loop-number-init : goal.loop-number-init
loop-number-init c =
    alive-start (states_of_code c.args.states.now) (length c.args.states.now) (marking_of c.in_ok-marking.marking) (sym (length-map c.args.states.now state_of)) c.in_ok-marking.ensures

pub index-requires : goal.index-requires
index-requires c =
    let below = waiting-below (states_of_code c.args.states.now) (marking_of c.loop-number.marking) c.pop.new.self.items c.in-Some.number c.loop-number.invariant c.in-Some.ensures.items in
    omega (arith, below, length-map c.args.states.now state_of, c.in_ok-sources.ensures.len)

-- what was gathered for a state
gathered : (sources : List (List ℕ)) (n t : ℕ) (item told sought : List ℕ) → length sources ≡ n → t < n → told ≡ item → item ≡ slice_index_or sources t item
    → (t < n → slice_index_or sources t [] ≡ sought) → told ≡ sought
gathered sources n t item told sought len below e f each =
    let within : t < length sources = omega arith in
    e ∙ (f ∙ (get_or_default sources t item [] within ∙ each below))

pub visit_each-requires : goal.visit_each-requires
visit_each-requires c =
    let below = waiting-below (states_of_code c.args.states.now) (marking_of c.loop-number.marking) c.pop.new.self.items c.in-Some.number c.loop-number.invariant c.in-Some.ensures.items in
    let few : c.in-Some.number < length c.args.states.now = omega (arith, below, length-map c.args.states.now state_of) in
    all-below (length c.loop-number.marking.marks.items) c.as_slice.result.now
    (found-below (states_of_code c.args.states.now) (marking_of c.loop-number.marking) c.in-Some.number c.as_slice.result.now c.loop-number.invariant
    (gathered c.in_ok-sources.sources.items (length c.args.states.now) c.in-Some.number c.index.result.now c.as_slice.result.now (sources_from 0 c.in-Some.number (states_of_code c.args.states.now))
    c.in_ok-sources.ensures.len few c.as_slice.ensures c.index.ensures (c.in_ok-sources.ensures.each c.in-Some.number)))

stepped : (c : goal.In_ok-visit_each) → IsSearch (states_of_code c.args.states.now) (marking_of c.visit_each.new.self) × (work (marking_of c.visit_each.new.self) < work (marking_of c.loop-number.marking))
stepped c =
    let below = waiting-below (states_of_code c.args.states.now) (marking_of c.loop-number.marking) c.pop.new.self.items c.in-Some.number c.loop-number.invariant c.in-Some.ensures.items in
    let few : c.in-Some.number < length c.args.states.now = omega (arith, below, length-map c.args.states.now state_of) in
    alive-step (states_of_code c.args.states.now) (marking_of c.loop-number.marking) c.pop.new.self.items c.in-Some.number c.as_slice.result.now (marking_of c.visit_each.new.self)
    c.loop-number.invariant c.in-Some.ensures.items
    (gathered c.in_ok-sources.sources.items (length c.args.states.now) c.in-Some.number c.index.result.now c.as_slice.result.now (sources_from 0 c.in-Some.number (states_of_code c.args.states.now))
    c.in_ok-sources.ensures.len few c.as_slice.ensures c.index.ensures (c.in_ok-sources.ensures.each c.in-Some.number))
    c.in_ok-visit_each.ensures

pub loop-number-smaller : goal.loop-number-smaller
loop-number-smaller c = (stepped c).1

pub loop-number-preserved : goal.loop-number-preserved
loop-number-preserved c = (stepped c).0

pub returns : goal.returns
returns c =
    let done : c.loop-number.marking.waiting.items ≡ [] = search rules in
    subst (λ (marks : List Truth). MarksAlive (states_of_code c.args.states.now) marks) (sym c.from_vec.ensures)
    (search-ends (states_of_code c.args.states.now) (marking_of c.loop-number.marking) c.loop-number.invariant done)
