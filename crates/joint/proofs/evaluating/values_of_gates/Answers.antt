use Rattle.std.proofs.Common.{◌≡◌, ℕ, ◌+◌, ◌<◌, ◌++◌, [], ◌∷◌, List, Bool, arith, ap, sym, subst, get_or, length, take, length-append}
use Rattle.std.specs.Prelude.{IsTrue}
use Rattle.gates_theory.specs.Circuits.{gate_within, gates_hold}
use Rattle.gates_theory.specs.declared.circuit.Gate.TheVariants.{Free}
use Rattle.run_terms.specs.Formulas.{values_of}
use Rattle.joint.proofs.Evaluated.{gate-at, holds-more}
use Rattle.joint.proofs.evaluating.values_of_gates.Goals as goal

pub value_of-value-requires : goal.value_of-value-requires
value_of-value-requires c =
    let gates = c.args.gates.now in
    let place = c.loop-place.place in
    let below : place < length gates = omega arith in
    let e : 0 + place ≡ length c.loop-place.values = omega (arith, c.loop-place.invariant.long) in
    subst (λ (n : ℕ). IsTrue (gate_within n (get_or gates place Free))) e (gate-at 0 gates place below c.requires)

pub loop-place-preserved : goal.loop-place-preserved
loop-place-preserved c =
    let gates = c.args.gates.now in
    let place = c.loop-place.place in
    let below : place < length gates = omega arith in
    let values = c.loop-place.values in
    let value = c.value_of-value.result in
    let pushed : c.push.new.self ≡ values ++ value ∷ [] = c.in_ok-push.ensures.ok in
    record {
      long = omega (arith, ap length pushed, length-append values (value ∷ []), c.loop-place.invariant.long);
      hold = subst (λ (list : List Bool). IsTrue (gates_hold (values_of list) 0 (take (place + 1) gates))) (sym pushed)
          (holds-more values value c.if-place-len.one gates place below c.requires c.loop-place.invariant.long c.value_of-value.ensures c.loop-place.invariant.hold);
    }
