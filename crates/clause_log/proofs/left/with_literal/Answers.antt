use Rattle.std.proofs.Common.{sym, ap, ◌∙◌, rules}
use Rattle.std.proofs.lemmas.Bool.{false≢true}
use Rattle.std.proofs.lemmas.Int.{to_z-of_z}
use mir.Syntax.{w32}
use mir.Val.{SFits, of_z}
use Rattle.clause_log.proofs.Leaving.{leaves_member, leaves_first, leaves_again, leaves_second, leaves_several}
use Rattle.clause_log.proofs.Marking.{same_bits}
use Rattle.clause_log.proofs.left.with_literal.Goals as goal

pub returns-then-contains : goal.returns-then-contains
returns-then-contains c = λ clause leaves.
    let says = rw (to_z-of_z w32 c.args.literal c.ranges.literal) at c.contains.ensures in
    leaves_member c.args.set.now.members clause c.args.literal c.args.left (says.0 c.if-contains.true) leaves

pub returns-in-Nothing : goal.returns-in-Nothing
returns-in-Nothing c = λ clause leaves.
    let says = rw (to_z-of_z w32 c.args.literal c.ranges.literal) at c.contains.ensures in
    rw (to_z-of_z w32 c.args.literal c.ranges.literal)
    (leaves_first c.args.set.now.members clause c.args.literal c.args.left c.in-Nothing.is (λ member. false≢true (sym c.if-contains.false ∙ says.1 member)) leaves)

pub returns-then-other-literal : goal.returns-then-other-literal
returns-then-other-literal c = λ clause leaves.
    let fits : SFits w32 c.in-One.other = search rules in
    leaves_again c.args.set.now.members clause c.args.literal c.in-One.other c.args.left c.in-One.is (same_bits c.in-One.other c.args.literal fits c.ranges.literal c.if-other-literal.true) leaves

pub returns-else-other-literal : goal.returns-else-other-literal
returns-else-other-literal c = λ clause leaves.
    let says = rw (to_z-of_z w32 c.args.literal c.ranges.literal) at c.contains.ensures in
    leaves_second c.args.set.now.members clause c.args.literal c.in-One.other c.args.left c.in-One.is (λ same. c.if-other-literal.false (ap (of_z w32) same))
    (λ member. false≢true (sym c.if-contains.false ∙ says.1 member)) leaves

pub returns-in-Several : goal.returns-in-Several
returns-in-Several c = λ clause leaves.
    leaves_several c.args.set.now.members clause c.args.literal c.args.left c.in-Several.is leaves
