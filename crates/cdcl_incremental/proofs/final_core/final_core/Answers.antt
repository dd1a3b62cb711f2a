use mir.Syntax.{w32}
use mir.Val.{SFits, of_z, to_z}
use Rattle.std.proofs.Common.{◌≡◌, [], ◌∷◌, ◌∙◌, rules}
use Rattle.std.proofs.lemmas.Int.{to_z-of_z}
use Rattle.cdcl_trail.specs.Literals.{signed}
use Rattle.cdcl_incremental.proofs.Cores.{core_of, pushed_one}
use Rattle.cdcl_incremental.proofs.final_core.final_core.Goals as goal

pub returns-then-branch : goal.returns-then-branch
returns-then-branch c =
    let fits : SFits w32 c.signed.result = search rules in
    let item : to_z w32 (of_z w32 c.signed.result) ≡ signed c.args.failed = to_z-of_z w32 c.signed.result fits ∙ c.signed.ensures in
    let one : c.push.new.self.items ≡ signed c.args.failed ∷ [] =
    pushed_one c.push.new.self.items c.new-core.result.items (to_z w32 (of_z w32 c.signed.result)) (signed c.args.failed) c.in_ok-push.ensures.items c.new-core.ensures.items item in
    rw c.from_vec.ensures
    (core_of c.args.propagator.now c.args.assumed.now c.in_ok-flags.flags.items c.trace.new.core.items c.args.failed c.requires.among c.requires.failed
    (rw (c.trail.ensures.is, c.opposite.ensures) at c.in_ok-flags.ensures.flag)
    (rw (c.if-branch.true, c.deref_mut.ensures.value, one) at c.in_ok-trace.ensures))
