use Rattle.std.proofs.Common.{◌≡◌, ◌∙◌, ℕ, suc, ◌-◌, ◌<◌, ◌≤◌, ℤ, Bool, List, map, length, ap, arith}
use Rattle.std.specs.List.{range_with_len}
use Rattle.std.proofs.lemmas.List.FromFn.{length-map-range_with_len}
use Rattle.bounded_theory.specs.Found.{first_passing}
use Rattle.clauses.specs.Models.{is_true}
use Rattle.gates_builder.specs.Adding.{Making}
use Rattle.gates_nodes.specs.Nodes.{variables_of}
use Rattle.run_terms.specs.Formulas.{values_of}
use Rattle.bounded.specs.Adding.{frame_in}
use Rattle.bounded.specs.Found.{filled, free_values, loop_place, run_from, run_of, valuation_at}
use Rattle.bounded.specs.Places.{begins_at}
use Rattle.bounded.specs.Searches.{before_places, literals_of}
use Rattle.bounded.proofs.Cones.{Premises}
use Rattle.bounded.proofs.Reading.{model-run}
use Rattle.bounded.proofs.Totals.{begins-few}
use Rattle.bounded.proofs.Wholes.{frame-is, range-values}
use Rattle.bounded.proofs.runs.read_run.Goals as goal

pub loop_place-first-requires : goal.loop_place-first-requires
loop_place-first-requires c =
    let d = c.args.netlist.now in
    let a = c.args.violation.now in
    let n = c.args.n in
    let on : Premises d a = record { sound = c.soundness_law.ensures.sound; good = c.automaton_law.ensures; tests = c.requires.tests; some = c.soundness_law.ensures.ordered.0; ordered = c.soundness_law.ensures.ordered.1 } in
    let before : c.variables.result ≡ before_places d a n = c.variables.ensures.is ∙ ap (λ (m : Making). variables_of m.given m.nodes) c.in-Ok.ensures.framed.builder in
    let few = begins-few d a on n in
    let size = ap (λ (l : List Bool). length l) c.as_slice-values.ensures in
    omega (arith, before, few, size, c.requires.size)

pub valuations-requires-clause-room : goal.valuations-requires-clause-room
valuations-requires-clause-room c =
    let n = c.args.n in
    let size : length c.as_slice-frames.result.now ≡ suc n =
    ap (λ (l : List (List ℤ)). length l) (c.as_slice-frames.ensures ∙ c.in-Ok.ensures.framed.frames) ∙ length-map-range_with_len (literals_of c.args.netlist.now c.args.violation.now) 0 (suc n) in
    omega (arith, size, c.loop_place-first.ensures.few)

pub valuations-requires-2-clause-room : goal.valuations-requires-2-clause-room
valuations-requires-2-clause-room c =
    let n = c.args.n in
    let size : length c.as_slice-frames.result.now ≡ suc n =
    ap (λ (l : List (List ℤ)). length l) (c.as_slice-frames.ensures ∙ c.in-Ok.ensures.framed.frames) ∙ length-map-range_with_len (literals_of c.args.netlist.now c.args.violation.now) 0 (suc n) in
    omega (arith, size, c.loop_place-first.ensures.few)

pub returns-clause-read : goal.returns-clause-read
returns-clause-read c =
    let d = c.args.netlist.now in
    let a = c.args.violation.now in
    let n = c.args.n in
    let values = values_of c.as_slice-values.result.now in
    let frames = c.as_slice-frames.result.now in
    let first = c.loop_place-first.result in
    let low : first ≤ n = c.loop_place-first.ensures.few in
    let before : c.variables.result ≡ before_places d a n = c.variables.ensures.is ∙ ap (λ (m : Making). variables_of m.given m.nodes) c.in-Ok.ensures.framed.builder in
    let begins : first ≡ loop_place d a n values = c.loop_place-first.ensures.is ∙ ap (λ b. first_passing n (λ place. is_true values (begins_at a n b place))) before in
    let is = c.as_slice-frames.ensures ∙ c.in-Ok.ensures.framed.frames in
    let same : (p : ℕ) → p < suc n → filled d (free_values d values (frame_in frames p)) ≡ valuation_at d a values p =
    λ p below. ap (λ l. filled d (free_values d values l)) (ap (λ l. frame_in l p) is ∙ frame-is (literals_of d a) n p (omega arith)) in
    let stem = c.in_ok-valuations.ensures ∙ range-values (λ p. filled d (free_values d values (frame_in frames p))) (valuation_at d a values) (suc n) same first 0 (omega arith) in
    let looped = c.in_ok-valuations-2.ensures ∙ range-values (λ p. filled d (free_values d values (frame_in frames p))) (valuation_at d a values) (suc n) same (n - first) first (omega arith) in
    let whole : record { stem = c.in_ok-valuations.field-0; loop_part = c.in_ok-valuations-2.field-0 } ≡ run_from (valuation_at d a values) n first =
    ap (λ (s : List (List Bool)). record { stem = s; loop_part = c.in_ok-valuations-2.field-0 }) stem
    ∙ ap (λ (l : List (List Bool)). record { stem = map (valuation_at d a values) (range_with_len 0 first); loop_part = l }) looped in
    whole ∙ ap (run_from (valuation_at d a values) n) begins ∙ ap (λ (bits : List Bool). run_of d a n (values_of bits)) c.as_slice-values.ensures

pub returns-clause-found : goal.returns-clause-found
returns-clause-found c =
    let d = c.args.netlist.now in
    let a = c.args.violation.now in
    let on : Premises d a = record { sound = c.soundness_law.ensures.sound; good = c.automaton_law.ensures; tests = c.requires.tests; some = c.soundness_law.ensures.ordered.0; ordered = c.soundness_law.ensures.ordered.1 } in
    rw (returns-clause-read c) (model-run d a on c.args.n (values_of c.args.model.now) c.requires.model)
