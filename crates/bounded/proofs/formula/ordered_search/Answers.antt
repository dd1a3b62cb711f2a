use Rattle.std.proofs.Common.{◌∙◌, ◌++◌, inl, ap, arith}
use Rattle.std.proofs.lemmas.Result.{err_from_is_err_and}
use Rattle.gates_builder.specs.Adding.{Making, with_nodes}
use Rattle.gates_letters.specs.Extending.{Extends}
use Rattle.gates_nodes.specs.Nodes.{variables_of}
use Rattle.bounded.specs.Places.{place_nodes}
use Rattle.bounded.specs.Searches.{asked_of}
use Rattle.bounded.proofs.Additions.{kept-by}
use Rattle.bounded.proofs.Cones.{Premises}
use Rattle.bounded.proofs.Gathered.{final-few, final-models, final-within, final-words, placed-from}
use Rattle.bounded.proofs.Standing.{frames-still}
use Rattle.bounded.proofs.Totals.{placed-few}
use Rattle.bounded.proofs.formula.ordered_search.Goals as goal

pub returns-in_err-places-clause-large : goal.returns-in_err-places-clause-large
returns-in_err-places-clause-large c =
    let d = c.args.netlist.now in
    let a = c.args.violation.now in
    let n = c.args.n in
    let on : Premises d a = record { sound = c.soundness_law.ensures.sound; good = c.automaton_law.ensures; tests = c.requires.tests; some = c.soundness_law.ensures.ordered.0; ordered = c.soundness_law.ensures.ordered.1 } in
    let begun = c.in_ok-builder.ensures.framed.builder in
    let same = ap (λ (m : Making). variables_of 0 (m.nodes ++ place_nodes a n)) begun in
    let few = placed-few d a on n in
    let p = err_from_is_err_and c.from_residual-in_err-places.result c.from_residual-in_err-places.ensures.1 in
    rw (p.1, p.2) (λ e. inl (let large = c.in_err-places.ensures.large e in omega (arith, large, same, few)))

pub asked_clauses-requires-clause-placed : goal.asked_clauses-requires-clause-placed
asked_clauses-requires-clause-placed c =
    let d = c.args.netlist.now in
    let a = c.args.violation.now in
    let n = c.args.n in
    let framed = c.in_ok-builder.ensures.framed in
    let old = c.in_ok-builder.field-0.builder in
    let new = c.placed.new.builder in
    let begun = framed.builder in
    let frames = c.in_ok-builder.field-0.frames in
    let made = c.in_ok-places.ensures.builder in
    let extends : Extends old.nodes new.nodes = record { more = place_nodes a n; is = ap (λ (m : Making). m.nodes) made } in
    placed-from d a n c.in_ok-places.places new frames c.in_ok-builder.field-0.cone c.in_ok-places.ensures.automaton c.in_ok-places.ensures.last
    (c.in_ok-places.ensures.before ∙ ap (λ (m : Making). variables_of 0 m.nodes) begun)
    (made ∙ ap (λ (m : Making). with_nodes m (m.nodes ++ place_nodes a n)) begun)
    framed.frames
    (frames-still old new frames (kept-by old new (old.nodes ++ place_nodes a n) made) extends framed.are)
    framed.sizes framed.cone_size framed.cone

pub formula-requires : goal.formula-requires
formula-requires c =
    let d = c.args.netlist.now in
    let a = c.args.violation.now in
    let n = c.args.n in
    let on : Premises d a = record { sound = c.soundness_law.ensures.sound; good = c.automaton_law.ensures; tests = c.requires.tests; some = c.soundness_law.ensures.ordered.0; ordered = c.soundness_law.ensures.ordered.1 } in
    let begun = c.in_ok-builder.ensures.framed.builder in
    let made = c.in_ok-places.ensures.builder ∙ ap (λ (m : Making). with_nodes m (m.nodes ++ place_nodes a n)) begun in
    let places = c.in_ok-places.places in
    let makes = c.in_ok-clauses.ensures.builder ∙ ap (λ (m : Making). with_nodes m (asked_of d places.automaton.now places.last).nodes) made in
    final-within d a on n places.automaton.now places.last c.in_ok-places.ensures.automaton c.in_ok-places.ensures.last c.asked_clauses.new.builder c.in_ok-clauses.clauses makes c.in_ok-clauses.ensures.clauses

pub returns-clause-models : goal.returns-clause-models
returns-clause-models c =
    let d = c.args.netlist.now in
    let a = c.args.violation.now in
    let n = c.args.n in
    let on : Premises d a = record { sound = c.soundness_law.ensures.sound; good = c.automaton_law.ensures; tests = c.requires.tests; some = c.soundness_law.ensures.ordered.0; ordered = c.soundness_law.ensures.ordered.1 } in
    let begun = c.in_ok-builder.ensures.framed.builder in
    let made = c.in_ok-places.ensures.builder ∙ ap (λ (m : Making). with_nodes m (m.nodes ++ place_nodes a n)) begun in
    let places = c.in_ok-places.places in
    let makes = c.in_ok-clauses.ensures.builder ∙ ap (λ (m : Making). with_nodes m (asked_of d places.automaton.now places.last).nodes) made in
    final-models d a on n places.automaton.now places.last c.in_ok-places.ensures.automaton c.in_ok-places.ensures.last c.asked_clauses.new.builder c.in_ok-clauses.clauses makes c.in_ok-clauses.ensures.clauses
    c.in_ok-cnf.cnf.variables c.in_ok-cnf.cnf.clauses c.in_ok-cnf.ensures.variables c.in_ok-cnf.ensures.clauses

pub returns-clause-words : goal.returns-clause-words
returns-clause-words c =
    let d = c.args.netlist.now in
    let a = c.args.violation.now in
    let n = c.args.n in
    let on : Premises d a = record { sound = c.soundness_law.ensures.sound; good = c.automaton_law.ensures; tests = c.requires.tests; some = c.soundness_law.ensures.ordered.0; ordered = c.soundness_law.ensures.ordered.1 } in
    let begun = c.in_ok-builder.ensures.framed.builder in
    let made = c.in_ok-places.ensures.builder ∙ ap (λ (m : Making). with_nodes m (m.nodes ++ place_nodes a n)) begun in
    let places = c.in_ok-places.places in
    let makes = c.in_ok-clauses.ensures.builder ∙ ap (λ (m : Making). with_nodes m (asked_of d places.automaton.now places.last).nodes) made in
    final-words d a on n places.automaton.now places.last c.in_ok-places.ensures.automaton c.in_ok-places.ensures.last c.asked_clauses.new.builder c.in_ok-clauses.clauses makes c.in_ok-clauses.ensures.clauses
    c.in_ok-cnf.cnf.clauses c.in_ok-cnf.ensures.clauses c.obligations_are_few.ensures

pub returns-clause-few : goal.returns-clause-few
returns-clause-few c =
    let d = c.args.netlist.now in
    let a = c.args.violation.now in
    let n = c.args.n in
    let on : Premises d a = record { sound = c.soundness_law.ensures.sound; good = c.automaton_law.ensures; tests = c.requires.tests; some = c.soundness_law.ensures.ordered.0; ordered = c.soundness_law.ensures.ordered.1 } in
    let begun = c.in_ok-builder.ensures.framed.builder in
    let made = c.in_ok-places.ensures.builder ∙ ap (λ (m : Making). with_nodes m (m.nodes ++ place_nodes a n)) begun in
    let places = c.in_ok-places.places in
    let makes = c.in_ok-clauses.ensures.builder ∙ ap (λ (m : Making). with_nodes m (asked_of d places.automaton.now places.last).nodes) made in
    final-few d a on n places.automaton.now places.last c.in_ok-places.ensures.automaton c.in_ok-places.ensures.last c.asked_clauses.new.builder c.in_ok-clauses.clauses makes c.in_ok-clauses.ensures.clauses
    c.in_ok-cnf.cnf.variables c.in_ok-cnf.ensures.variables c.obligations_are_few.ensures
