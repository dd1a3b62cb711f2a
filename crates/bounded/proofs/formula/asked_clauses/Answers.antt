use Rattle.std.proofs.Common.{◌≡◌, ◌∙◌, suc, ◌<◌, ℤ, List, length, ap, subst}
use Rattle.std.proofs.lemmas.List.FromFn.{length-map-range_with_len}
use Rattle.std.proofs.lemmas.Result.{err_from_is_err_and}
use Rattle.clauses.specs.declared.flat.TheConstants.{MOST_WORDS}
use Rattle.clauses.specs.Literals.{clause_words}
use Rattle.gates_builder.specs.Adding.{Making, with_nodes}
use Rattle.gates_nodes.specs.Nodes.{variables_of}
use Rattle.gates_theory.specs.Sizes.{IsTooLarge}
use Rattle.bounded.specs.Obligations.{Asked}
use Rattle.bounded.specs.Searches.{free_in, literals_of}
use Rattle.bounded.proofs.Cones.{Premises}
use Rattle.bounded.proofs.Gathered.{asked-are, asked-large, free-are, front-large, fronts-are, placed-has, whole-is}
use Rattle.bounded.proofs.formula.asked_clauses.Goals as goal

pub front_clauses-requires-clause-size : goal.front_clauses-requires-clause-size
front_clauses-requires-clause-size c =
    let places = c.args.places.now in
    ap (λ (l : List (List ℤ)). length l) (c.as_slice-frames.ensures ∙ c.requires.placed.frames_are)
    ∙ length-map-range_with_len (literals_of c.args.netlist.now places.automaton.now) 0 (suc places.last)

pub returns-in_err-clauses-clause-large : goal.returns-in_err-clauses-clause-large
returns-in_err-clauses-clause-large c =
    let d = c.args.netlist.now in
    let places = c.args.places.now in
    let a = places.automaton.now in
    let n = places.last in
    let on : Premises d a = record { sound = c.soundness_law.ensures.sound; good = c.automaton_law.ensures; tests = c.requires.tests; some = c.soundness_law.ensures.ordered.0; ordered = c.soundness_law.ensures.ordered.1 } in
    let signals : c.as_slice.result.now ≡ free_in d a = c.as_slice.ensures ∙ c.in_ok-signals.ensures.is ∙ free-are d a on.sound c.args.cone.now c.requires.placed.cone_is in
    let fronts = fronts-are d a n places.before c.as_slice-frames.result.now c.requires.placed.before (c.as_slice-frames.ensures ∙ c.requires.placed.frames_are) c.as_slice.result.now signals in
    let p = err_from_is_err_and c.from_residual-in_err-clauses.result c.from_residual-in_err-clauses.ensures.1 in
    rw (p.1, p.2) (λ e. front-large d a n on (subst (λ (cs : List (List ℤ)). MOST_WORDS < clause_words cs) fronts (c.in_err-clauses.ensures.large e)))

pub add_obligations-requires-clause-places : goal.add_obligations-requires-clause-places
add_obligations-requires-clause-places c =
    let d = c.args.netlist.now in
    let places = c.args.places.now in
    let a = places.automaton.now in
    let on : Premises d a = record { sound = c.soundness_law.ensures.sound; good = c.automaton_law.ensures; tests = c.requires.tests; some = c.soundness_law.ensures.ordered.0; ordered = c.soundness_law.ensures.ordered.1 } in
    placed-has d places c.args.builder.now c.args.frames.now c.args.cone.now on c.requires.placed

pub add_obligations-requires-clause-size : goal.add_obligations-requires-clause-size
add_obligations-requires-clause-size c =
    let places = c.args.places.now in
    ap (λ (l : List (List ℤ)). length l) (c.as_slice-frames.ensures ∙ c.requires.placed.frames_are)
    ∙ length-map-range_with_len (literals_of c.args.netlist.now places.automaton.now) 0 (suc places.last)

pub returns-in_err-add_obligations-clause-large : goal.returns-in_err-add_obligations-clause-large
returns-in_err-add_obligations-clause-large c =
    let d = c.args.netlist.now in
    let places = c.args.places.now in
    let a = places.automaton.now in
    let n = places.last in
    let on : Premises d a = record { sound = c.soundness_law.ensures.sound; good = c.automaton_law.ensures; tests = c.requires.tests; some = c.soundness_law.ensures.ordered.0; ordered = c.soundness_law.ensures.ordered.1 } in
    let frames = c.as_slice-frames.ensures ∙ c.requires.placed.frames_are in
    let signals : c.as_slice.result.now ≡ free_in d a = c.as_slice.ensures ∙ c.in_ok-signals.ensures.is ∙ free-are d a on.sound c.args.cone.now c.requires.placed.cone_is in
    let fronts = fronts-are d a n places.before c.as_slice-frames.result.now c.requires.placed.before frames c.as_slice.result.now signals in
    let nodes = ap (λ (m : Making). m.nodes) c.requires.placed.builder in
    let all = asked-are d a n places.before c.as_slice-frames.result.now c.requires.placed.before frames c.args.builder.now.nodes c.in_ok-clauses.clauses nodes (c.in_ok-clauses.ensures.clauses ∙ fronts) in
    let p = err_from_is_err_and c.from_residual-in_err-add_obligations.result c.from_residual-in_err-add_obligations.ensures.1 in
    rw (p.1, p.2) (λ e. asked-large d a n on (subst (λ (x : Asked). IsTooLarge (variables_of 0 x.nodes) x.clauses) all (c.in_err-add_obligations.ensures.large e)))

pub returns-clause-builder : goal.returns-clause-builder
returns-clause-builder c =
    let d = c.args.netlist.now in
    let places = c.args.places.now in
    let a = places.automaton.now in
    let n = places.last in
    let frames = c.as_slice-frames.ensures ∙ c.requires.placed.frames_are in
    let signals : c.as_slice.result.now ≡ free_in d a = c.as_slice.ensures ∙ c.in_ok-signals.ensures.is ∙ free-are d a c.soundness_law.ensures.sound c.args.cone.now c.requires.placed.cone_is in
    let fronts = fronts-are d a n places.before c.as_slice-frames.result.now c.requires.placed.before frames c.as_slice.result.now signals in
    let nodes = ap (λ (m : Making). m.nodes) c.requires.placed.builder in
    let all = asked-are d a n places.before c.as_slice-frames.result.now c.requires.placed.before frames c.args.builder.now.nodes c.in_ok-clauses.clauses nodes (c.in_ok-clauses.ensures.clauses ∙ fronts) in
    c.in_ok-add_obligations.ensures.making ∙ ap (λ (x : Asked). with_nodes c.args.builder.now x.nodes) all

pub returns-clause-clauses : goal.returns-clause-clauses
returns-clause-clauses c =
    let d = c.args.netlist.now in
    let places = c.args.places.now in
    let a = places.automaton.now in
    let n = places.last in
    let frames = c.as_slice-frames.ensures ∙ c.requires.placed.frames_are in
    let signals : c.as_slice.result.now ≡ free_in d a = c.as_slice.ensures ∙ c.in_ok-signals.ensures.is ∙ free-are d a c.soundness_law.ensures.sound c.args.cone.now c.requires.placed.cone_is in
    let fronts = fronts-are d a n places.before c.as_slice-frames.result.now c.requires.placed.before frames c.as_slice.result.now signals in
    let nodes = ap (λ (m : Making). m.nodes) c.requires.placed.builder in
    let all = asked-are d a n places.before c.as_slice-frames.result.now c.requires.placed.before frames c.args.builder.now.nodes c.in_ok-clauses.clauses nodes (c.in_ok-clauses.ensures.clauses ∙ fronts) in
    c.in_ok-add_obligations.ensures.clauses ∙ ap (λ (x : Asked). x.clauses) all ∙ whole-is d a n
