use Rattle.std.proofs.Common.{◌∙◌, length, sym, ap, get_or, arith, ℕ, List}
use Rattle.std.proofs.lemmas.List.FromFn.{get_or-map-range_with_len, length-map-range_with_len}
use Rattle.gates_builder.proofs.CubeSteps.{get-is}
use Rattle.bounded.specs.Places.{bits_before}
use Rattle.bounded.proofs.Blocks.{bits-below}
use Rattle.bounded.proofs.places.Places.start.Goals as goal

pub at-requires : goal.at-requires
at-requires c =
    let places = c.args.self.now in
    let a = places.automaton.now in
    let size = ap (λ (l : List ℕ). length l) places.starts_are in
    omega (arith, size, length-map-range_with_len (bits_before a) 0 (length a.obligations), c.requires)

pub returns-clause-is : goal.returns-clause-is
returns-clause-is c =
    let places = c.args.self.now in
    let a = places.automaton.now in
    let q = c.args.number in
    sym (get-is places.starts q c.at.result.now 0 c.at.ensures) ∙ ap (λ l. get_or l q 0) places.starts_are
    ∙ get_or-map-range_with_len (bits_before a) 0 (length a.obligations) q q 0 c.requires (omega arith)

pub returns-clause-within : goal.returns-clause-within
returns-clause-within c =
    let places = c.args.self.now in
    let a = places.automaton.now in
    let is = returns-clause-is c in
    let fit = bits-below a c.args.number c.requires in
    omega (arith, is, fit, places.bits_are)
