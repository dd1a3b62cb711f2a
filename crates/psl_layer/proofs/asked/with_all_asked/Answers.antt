use Rattle.std.proofs.Common.{◌≡◌, List, [], ◌∷◌, length, arith, refl, subst}
use Rattle.std.specs.Vec.Iter.{into_iter_items}
use Rattle.psl_layer.specs.declared.asked.Asked as code_asked
use Rattle.psl_layer.proofs.Longer.{IsSettling, settling_more, settling_err, settling_end}
use Rattle.psl_layer.proofs.asked.with_all_asked.Goals as goal

no_items : (items : List code_asked.Asked) → length items ≡ 0 → items ≡ []
no_items [] none = refl
no_items (one ∷ more) none = absurd (omega (arith, none))

pub returns-in-Err : goal.returns-in-Err
returns-in-Err c =
    settling_err c.args.clock.now c.args.unit c.loop-one.unit c.args.asked.items c.in-Some.one (into_iter_items c.next.new.self) c.in-Err.fault c.in-Err.ensures
    (subst (λ (rest : List code_asked.Asked). IsSettling c.args.clock.now c.args.unit c.loop-one.unit c.args.asked.items rest) c.in-Some.ensures.items c.loop-one.invariant)

pub loop-one-preserved : goal.loop-one-preserved
loop-one-preserved c =
    settling_more c.args.clock.now c.args.unit c.loop-one.unit c.in-Ok.longer c.args.asked.items c.in-Some.one (into_iter_items c.next.new.self) c.in-Ok.ensures
    (subst (λ (rest : List code_asked.Asked). IsSettling c.args.clock.now c.args.unit c.loop-one.unit c.args.asked.items rest) c.in-Some.ensures.items c.loop-one.invariant)

pub returns : goal.returns
returns c = settling_end c.args.clock.now c.args.unit c.loop-one.unit c.args.asked.items (into_iter_items c.loop-one.rest)
    (no_items (into_iter_items c.loop-one.rest) (omega (arith, c.in_default.ensures.cases.0, c.loop-one.rest.rest.ok.0))) c.loop-one.invariant
