use Rattle.std.proofs.Common.{rules, ap, ◌∙◌}
use Rattle.alternating.proofs.Untils.{boxed-part, until-made}
use Rattle.alternating.proofs.part.until.Goals as goal
use Rattle.alternating.specs.Parts.{part_of_code}
use Rattle.alternating.specs.declared.part.Part as code_part
use Rattle.alternating_theory.specs.Construction.{until_part}

pub returns : goal.returns
returns c =
    let left = c.into_inner-first.result in
    let right = c.into_inner-second.result in
    let new : code_part.Part = record { start = c.in_ok-start.start; rest = c.add.new.obligations } in
    boxed-part c.boxed.result new (until_part c.args.offset (part_of_code c.args.left.value) (part_of_code c.args.right.value)) c.boxed.ensures
    (until-made c.args.offset c.len.result left right new c.in_ok-copy.field-0 c.add_all.new.obligations.items c.in_ok-add_all.ensures (search rules)
    c.in_ok-start.ensures c.in_ok-copy.ensures c.in_ok-add.ensures
    ∙ ap (λ (p : code_part.Part). until_part c.args.offset (part_of_code p) (part_of_code right)) c.into_inner-first.ensures
    ∙ ap (λ (p : code_part.Part). until_part c.args.offset (part_of_code c.args.left.value) (part_of_code p)) c.into_inner-second.ensures)
