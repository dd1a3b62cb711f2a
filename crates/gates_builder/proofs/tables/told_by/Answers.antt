use Rattle.std.proofs.Common.{◌≡◌, ◌∙◌, neg_ℤ, ap, rules, w32}
use mir.Val.{SFits}
use Rattle.std.proofs.lemmas.Int.{to_z-of_z}
use Rattle.gates_theory.proofs.Within.{negated_within}
use Rattle.gates_nodes.specs.Tables.{sole}
use Rattle.gates_builder.proofs.CubeSteps.{told-literal, told-within}
use Rattle.gates_builder.proofs.tables.told_by.Goals as goal

pub returns-in-Some-clause-within : goal.returns-in-Some-clause-within
returns-in-Some-clause-within c = λ n few within.
    let fits : SFits w32 c.in-Some.literal = search rules in
    rw to_z-of_z (told-within n c.args.given c.args.cover.now.on c.args.literals.now c.in_ok-on.on c.in-Some.literal few within c.in_ok-on.ensures (c.in-Some.ensures ∙ ap sole c.as_slice-3.ensures))

pub negated-requires : goal.negated-requires
negated-requires c =
    let fits : SFits w32 c.in-Some-sole.literal = search rules in
    rw to_z-of_z (told-literal c.args.given c.args.cover.now.off c.args.literals.now c.in_ok-off.off c.in-Some-sole.literal c.requires.given c.requires.literals c.in_ok-off.ensures (c.in-Some-sole.ensures ∙ ap sole c.as_slice-in-None.ensures))

pub returns-in-Some-sole-clause-within : goal.returns-in-Some-sole-clause-within
returns-in-Some-sole-clause-within c = λ n few within.
    let literal = c.in-Some-sole.literal in
    let fits : SFits w32 c.in-Some-sole.literal = search rules in
    let fits_negated : SFits w32 c.negated.result = search rules in
    let is : c.negated.result ≡ neg_ℤ literal = simp to_z-of_z at c.negated.ensures.is in
    rw (to_z-of_z, is) (negated_within n literal (told-within n c.args.given c.args.cover.now.off c.args.literals.now c.in_ok-off.off literal few within c.in_ok-off.ensures (c.in-Some-sole.ensures ∙ ap sole c.as_slice-in-None.ensures)))
