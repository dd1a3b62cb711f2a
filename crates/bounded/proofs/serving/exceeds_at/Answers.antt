use Rattle.std.proofs.Common.{suc, ◌+◌, ◌*◌, ap, arith}
use Rattle.alternating_theory.specs.Obligations.{obligation_at}
use Rattle.bounded.specs.Places.{bits_before}
use Rattle.bounded.proofs.Asking.{neither}
use Rattle.bounded.proofs.Blocks.{number-fits}
use Rattle.bounded.proofs.serving.exceeds_at.Goals as goal

pub exceeds-requires-clause-first : goal.exceeds-requires-clause-first
exceeds-requires-clause-first c =
    let places = c.args.places.now in
    let a = places.automaton.now in
    let p = c.args.place in
    let r = c.args.other in
    let plain = neither (obligation_at a.obligations c.args.number).accepting (obligation_at a.obligations r).accepting c.requires.none in
    let fit = number-fits a places.last places.before (p + 1) r (omega (arith, c.requires.place)) c.requires.other plain.1 in
    let same = ap (λ k. suc (places.before + (p + 1) * k + bits_before a r)) places.bits_are in
    omega (arith, c.before_digits-first.ensures, same, places.digits_are, fit, c.requires.places.many)

pub exceeds-requires-clause-second : goal.exceeds-requires-clause-second
exceeds-requires-clause-second c =
    let places = c.args.places.now in
    let a = places.automaton.now in
    let p = c.args.place in
    let q = c.args.number in
    let plain = neither (obligation_at a.obligations q).accepting (obligation_at a.obligations c.args.other).accepting c.requires.none in
    let fit = number-fits a places.last places.before p q (omega (arith, c.requires.place)) c.requires.number plain.0 in
    let same = ap (λ k. suc (places.before + p * k + bits_before a q)) places.bits_are in
    omega (arith, c.before_digits-second.ensures, same, places.digits_are, fit, c.requires.places.many)
