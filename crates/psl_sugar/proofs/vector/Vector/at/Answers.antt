use Rattle.std.proofs.Common.{◌≡◌, ◌+◌, ◌≤◌, ◌^◌, length, slice_get, Some, sym, ap, subst, ◌∙◌, arith}
use Rattle.std.proofs.lemmas.Option.{slice_get-map}
use Rattle.std.specs.Option.{option_map}
use Rattle.psl_sugar.specs.Kept.{bits_in, HavePlaces}
use Rattle.psl_sugar.specs.Vectors.{bit_of_signal, only_bit}
use Rattle.psl_sugar.proofs.Vectors.{side-at, side-length}
use Rattle.psl_sugar.proofs.vector.Vector.at.Goals as goal

pub overflow_add-result : goal.overflow_add-result
overflow_add-result c =
    let long : c.in-SideBySide.width ≡ length c.args.self.now =
    sym (side-length c.in-SideBySide.signal c.in-SideBySide.lowest c.in-SideBySide.width) ∙ ap (λ bits. length (bits_in bits)) (sym c.in-SideBySide.is) ∙ ap length c.self.view_is in
    let places : c.in-SideBySide.lowest + c.in-SideBySide.width ≤ 2 ^ 32 = subst HavePlaces c.in-SideBySide.is c.self.invariant in
    omega (arith, long, places, c.requires)

pub overflow_cast-result : goal.overflow_cast-result
overflow_cast-result c =
    let long : c.in-SideBySide.width ≡ length c.args.self.now =
    sym (side-length c.in-SideBySide.signal c.in-SideBySide.lowest c.in-SideBySide.width) ∙ ap (λ bits. length (bits_in bits)) (sym c.in-SideBySide.is) ∙ ap length c.self.view_is in
    let places : c.in-SideBySide.lowest + c.in-SideBySide.width ≤ 2 ^ 32 = subst HavePlaces c.in-SideBySide.is c.self.invariant in
    omega (arith, long, places, c.requires)

pub returns-in-SideBySide : goal.returns-in-SideBySide
returns-in-SideBySide c =
    let long : c.in-SideBySide.width ≡ length c.args.self.now =
    sym (side-length c.in-SideBySide.signal c.in-SideBySide.lowest c.in-SideBySide.width) ∙ ap (λ bits. length (bits_in bits)) (sym c.in-SideBySide.is) ∙ ap length c.self.view_is in
    ap (λ bits. slice_get bits c.args.place) (sym c.self.view_is ∙ ap bits_in c.in-SideBySide.is)
    ∙ side-at c.in-SideBySide.signal c.in-SideBySide.lowest c.in-SideBySide.width c.args.place (omega (arith, long, c.requires))
    ∙ ap (λ lowest. Some (bit_of_signal c.in-SideBySide.signal (lowest + c.args.place))) (sym c.from.ensures)

pub returns-in-OfSignals : goal.returns-in-OfSignals
returns-in-OfSignals c =
    ap (λ bits. slice_get bits c.args.place) (sym c.self.view_is ∙ ap bits_in c.in-OfSignals.is)
    ∙ slice_get-map only_bit c.in-OfSignals.signals c.args.place
    ∙ ap (option_map only_bit) c.at.ensures
