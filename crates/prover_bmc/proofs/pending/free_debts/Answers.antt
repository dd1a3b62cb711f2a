use Rattle.std.proofs.Common.{rules, ◌≡◌, ◌++◌, ◌∷◌, [], arith, w32}
use mir.Val.{SFits}
use Rattle.std.proofs.lemmas.Int.{to_z-of_z}
use Rattle.std.proofs.lemmas.List.{length_push}
use Rattle.std.proofs.lemmas.List.Elements.{All-push}
use Rattle.gates_builder.specs.Adding.{IsOf}
use Rattle.prover_bmc.proofs.Laters.{are-later, later-then}
use Rattle.prover_bmc.proofs.pending.free_debts.Goals as goal

pub loop-number-preserved : goal.loop-number-preserved
loop-number-preserved c =
    let mid = c.loop-number.builder in
    let new = c.debt_if.new.builder in
    let before = c.loop-number.debts in
    let one = c.in_ok-debt_if.field-0 in
    let fits : SFits w32 c.in_ok-debt_if.field-0 = search rules in
    let pushed : c.push.new.self ≡ before ++ one ∷ [] = simp to_z-of_z at c.in_ok-push.ensures.ok in
    rw pushed (record {
      later = later-then c.args.builder.now mid new c.loop-number.invariant.later c.in_ok-debt_if.ensures.later;
      size = omega (arith, c.loop-number.invariant.size, length_push before one);
      are = All-push (IsOf new) before one (are-later mid new before c.in_ok-debt_if.ensures.later c.loop-number.invariant.are) c.in_ok-debt_if.ensures.of;
    })
