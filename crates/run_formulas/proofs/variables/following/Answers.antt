use Rattle.std.proofs.Common.{◌≡◌, ◌+◌, suc, refl, add-one, arith, w32}
use Rattle.std.proofs.lemmas.Int.{to_z_pos}
use Rattle.run_formulas.proofs.Additions.{following-next}
use Rattle.run_formulas.proofs.variables.following.Goals as goal

pub loop-k-preserved : goal.loop-k-preserved
loop-k-preserved c =
    let variables = c.args.variables in
    let k = c.loop-k.k in
    let fits = c.requires in
    let e : variables + k + 1 ≡ suc (variables + k) = omega arith in
    rw (c.in_ok-push.ensures.ok, to_z_pos w32 (variables + k + 1) (omega arith), e, c.loop-k.invariant, add-one, following-next variables k) refl
