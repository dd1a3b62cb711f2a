use Rattle.std.proofs.Common.{◌==◌, ◌&&◌, ◌-◌, not, bit_and, sym, ap, ◌∙◌}
use Rattle.std.proofs.lemmas.Bool.{eq-eqb, ne_eqb}
use Rattle.gates_covers.proofs.Masks.{taken-is}
use Rattle.gates_covers.proofs.greedy.is_taken.Goals as goal

pub returns-then-points-fitted-eq0 : goal.returns-then-points-fitted-eq0
returns-then-points-fitted-eq0 c = λ rows others row here there before.
    (let apart = bit_and c.args.points c.args.fitted in
    ap (λ b. b && not (bit_and c.args.points (65535 - c.args.covered) == 0)) (sym (eq-eqb apart 0 c.if-points-fitted-eq0.true))
    ∙ taken-is c.args.points c.args.fitted c.args.covered rows others row c.ranges.points.fits c.ranges.covered.fits here there before)

pub returns-else-points-fitted-eq0 : goal.returns-else-points-fitted-eq0
returns-else-points-fitted-eq0 c = λ rows others row here there before.
    (let apart = bit_and c.args.points c.args.fitted in
    let none = ne_eqb apart 0 c.if-points-fitted-eq0.false in
    none ∙ ap (λ b. b && not (bit_and c.args.points (65535 - c.args.covered) == 0)) (sym none)
    ∙ taken-is c.args.points c.args.fitted c.args.covered rows others row c.ranges.points.fits c.ranges.covered.fits here there before)
