use Rattle.std.proofs.Common.{◌≡◌, ◌+◌, ◌++◌, [], ◌∷◌, ap, ◌∙◌, subst, sym, List, length, arith}
use Rattle.alternating.proofs.Built.{part-wider}
use Rattle.alternating.proofs.Settled.{part-settled, part-many}
use Rattle.alternating.proofs.automaton.unmerged.Goals as goal
use Rattle.alternating.specs.Pending.{pendings_of}
use Rattle.alternating.specs.Views.{ObligationsWithin}
use Rattle.alternating.specs.declared.obligation.Obligation as code_obligation
use Rattle.alternating.specs.declared.part.Part as code_part
use Rattle.alternating.specs.declared.pending.Pending as code_pending

pub trimmed-requires-clause-within : goal.trimmed-requires-clause-within
trimmed-requires-clause-within c =
    let part : code_part.Part = c.in_ok-first.field-0 in
    let added : c.add.new.obligations.items ≡ part.rest.items ++ part.start ∷ [] =
    (let a = c.in_ok-add.ensures in let b = c.in_ok-first.first-is in let d = c.in_ok-first.rest-is in cc) in
    let settled = c.in_ok-obligations.ensures ∙ ap (λ (l : List code_pending.Pending). pendings_of l) added in
    let many : length part.rest.items ≡ c.len-start.result = (let a = c.len-start.ensures in let d = c.in_ok-first.rest-is in cc) in
    let within = part-wider 0 (0 + length part.rest.items) 0 c.len-start.result (omega arith) (omega (arith, many)) part c.in_ok-first.ensures.within in
    subst (λ (l : List code_obligation.Obligation). ObligationsWithin 0 c.len-start.result l) (sym c.as_slice.ensures.value)
    (part-settled c.len-start.result part.rest.items part.start c.in_ok-obligations.obligations.items settled within.1 within.0)

pub trimmed-requires-clause-last : goal.trimmed-requires-clause-last
trimmed-requires-clause-last c =
    let part : code_part.Part = c.in_ok-first.field-0 in
    let added : c.add.new.obligations.items ≡ part.rest.items ++ part.start ∷ [] =
    (let a = c.in_ok-add.ensures in let b = c.in_ok-first.first-is in let d = c.in_ok-first.rest-is in cc) in
    let settled = c.in_ok-obligations.ensures ∙ ap (λ (l : List code_pending.Pending). pendings_of l) added in
    let many : length part.rest.items ≡ c.len-start.result = (let a = c.len-start.ensures in let d = c.in_ok-first.rest-is in cc) in
    omega (arith, many, ap (λ (l : List code_obligation.Obligation). length l) c.as_slice.ensures.value, part-many part.rest.items part.start c.in_ok-obligations.obligations.items settled)

pub trimmed-requires-clause-room : goal.trimmed-requires-clause-room
trimmed-requires-clause-room c =
    let part : code_part.Part = c.in_ok-first.field-0 in
    let added : c.add.new.obligations.items ≡ part.rest.items ++ part.start ∷ [] =
    (let a = c.in_ok-add.ensures in let b = c.in_ok-first.first-is in let d = c.in_ok-first.rest-is in cc) in
    let settled = c.in_ok-obligations.ensures ∙ ap (λ (l : List code_pending.Pending). pendings_of l) added in
    omega (
      arith,
      ap (λ (l : List code_obligation.Obligation). length l) c.as_slice.ensures.value,
      part-many part.rest.items part.start c.in_ok-obligations.obligations.items settled,
      c.in_ok-first.ensures.count,
      c.requires.room,
    )
