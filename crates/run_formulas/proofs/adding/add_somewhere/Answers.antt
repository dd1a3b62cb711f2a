use Rattle.std.proofs.Common.{◌≡◌, ◌+◌, ◌*◌, pos, refl, arith, w32}
use Rattle.std.proofs.lemmas.Int.{to_z_pos}
use Rattle.std.proofs.lemmas.List.FromFn.{map-range_with_len_more}
use Rattle.gates_theory.specs.Unrolled.{moved}
use Rattle.run_formulas.proofs.Additions.{higher-below, higher-within, row-within}
use Rattle.run_formulas.proofs.adding.add_somewhere.Goals as goal

pub loop-position-preserved : goal.loop-position-preserved
loop-position-preserved c =
    let size = c.args.size in
    let variable = c.args.variable in
    let position = c.loop-position.position in
    let few = c.args.cnf.now.few in
    let below = higher-below size c.args.positions variable position c.requires.variable c.loop-position-test.true in
    let fits = c.requires.fits in
    rw (
      c.in_ok-push.ensures.ok,
      to_z_pos w32 (position * size + variable) (omega (arith, below)),
      c.loop-position.invariant,
      map-range_with_len_more (λ i. moved (i * size) (pos variable)) 0 position position (omega arith),
    ) refl

pub push-requires-2 : goal.push-requires-2
push-requires-2 c =
    let size = c.args.size in
    let variable = c.args.variable in
    let all : c.loop-position.position ≡ c.args.positions = omega (arith, c.loop-position.auto.position-end, c.loop-position-test.false) in
    rw (c.as_slice.ensures, c.loop-position.invariant, all)
    (row-within c.args.cnf.now.variables (λ i. moved (i * size) (pos variable)) 0 c.args.positions
    (λ i low. higher-within c.args.cnf.now.variables size c.args.positions variable i c.requires.some c.requires.variable c.requires.fits (omega (arith, low))))
