use Rattle.std.proofs.Common.{rules, w32}
use mir.Val.{SFits}
use Rattle.std.proofs.lemmas.Int.{to_z-of_z}
use Rattle.std.proofs.lemmas.Result.{err_from_is_err_and}
use Rattle.alternating.specs.Views.{positive_of}
use Rattle.gates_theory.specs.Terms.Term.{Literal}
use Rattle.joint.specs.Guards.{guard_of}
use Rattle.joint_theory.specs.Guards.{and_guard, guards, or_guard}
use Rattle.joint.proofs.Chains.{guards-build, guards-fail}
use Rattle.joint.proofs.support.+add_unless_asked.Goals as goal

pub returns-in_err-all-in-And : goal.returns-in_err-all-in-And
returns-in_err-all-in-And t c =
    let left = positive_of c.in-And.left.value in
    let right = positive_of c.in-And.right.value in
    let guard = guard_of c.args.guard in
    let fits_all : SFits w32 c.args.all = search rules in
    let fits_asker : SFits w32 c.args.asker = search rules in
    let p = err_from_is_err_and c.from_residual.result c.from_residual.ensures.1 in
    let first = rw (c.and_guard-first.ensures, c.deref.ensures, c.deref-in-And-2.ensures) at (simp to_z-of_z at c.in_err-all-in-And.ensures) in
    rw (p.1, p.2, c.in-And.is) (guards-fail c.args.product.netlist.now c.args.asker (guards (and_guard guard right) left c.args.number) (guards (and_guard guard left) right c.args.number)
    c.args.gates.now c.add_unless_asked.new.gates (Literal c.args.all) c.in_err-all-in-And.field-0.0 first)

pub returns-in_ok-all-in-And : goal.returns-in_ok-all-in-And
returns-in_ok-all-in-And t c =
    let left = positive_of c.in-And.left.value in
    let right = positive_of c.in-And.right.value in
    let guard = guard_of c.args.guard in
    let fits_all : SFits w32 c.args.all = search rules in
    let fits_asker : SFits w32 c.args.asker = search rules in
    let all = c.in_ok-all-in-And.all in
    let fits : SFits w32 c.in_ok-all-in-And.all = search rules in
    let first = rw (c.and_guard-first.ensures, c.deref.ensures, c.deref-in-And-2.ensures) at (simp to_z-of_z at c.in_ok-all-in-And.ensures) in
    let second = rw (c.and_guard-second.ensures, c.deref-in-And.ensures, c.deref-in-And-3.ensures) at (simp to_z-of_z at c.add_unless_asked-in-And.ensures) in
    rw (c.in-And.is) (guards-build c.args.product.netlist.now c.args.asker (guards (and_guard guard right) left c.args.number) (guards (and_guard guard left) right c.args.number)
    c.args.gates.now c.add_unless_asked.new.gates (Literal c.args.all) c.add_unless_asked-in-And.new.gates all c.add_unless_asked-in-And.result first second)

pub returns-in_err-all-in-Or : goal.returns-in_err-all-in-Or
returns-in_err-all-in-Or t c =
    let left = positive_of c.in-Or.left.value in
    let right = positive_of c.in-Or.right.value in
    let guard = guard_of c.args.guard in
    let fits_all : SFits w32 c.args.all = search rules in
    let fits_asker : SFits w32 c.args.asker = search rules in
    let p = err_from_is_err_and c.from_residual-in_err-all-in-Or.result c.from_residual-in_err-all-in-Or.ensures.1 in
    let first = rw (c.or_guard-first.ensures, c.deref-in-Or.ensures, c.deref-in-Or-3.ensures) at (simp to_z-of_z at c.in_err-all-in-Or.ensures) in
    rw (p.1, p.2, c.in-Or.is) (guards-fail c.args.product.netlist.now c.args.asker (guards (or_guard guard right) left c.args.number) (guards (or_guard guard left) right c.args.number)
    c.args.gates.now c.add_unless_asked-in-Or.new.gates (Literal c.args.all) c.in_err-all-in-Or.field-0.0 first)

pub returns-in_ok-all-in-Or : goal.returns-in_ok-all-in-Or
returns-in_ok-all-in-Or t c =
    let left = positive_of c.in-Or.left.value in
    let right = positive_of c.in-Or.right.value in
    let guard = guard_of c.args.guard in
    let fits_all : SFits w32 c.args.all = search rules in
    let fits_asker : SFits w32 c.args.asker = search rules in
    let all = c.in_ok-all-in-Or.all in
    let fits : SFits w32 c.in_ok-all-in-Or.all = search rules in
    let first = rw (c.or_guard-first.ensures, c.deref-in-Or.ensures, c.deref-in-Or-3.ensures) at (simp to_z-of_z at c.in_ok-all-in-Or.ensures) in
    let second = rw (c.or_guard-second.ensures, c.deref-in-Or-2.ensures, c.deref-in-Or-4.ensures) at (simp to_z-of_z at c.add_unless_asked-in-Or-2.ensures) in
    rw (c.in-Or.is) (guards-build c.args.product.netlist.now c.args.asker (guards (or_guard guard right) left c.args.number) (guards (or_guard guard left) right c.args.number)
    c.args.gates.now c.add_unless_asked-in-Or.new.gates (Literal c.args.all) c.add_unless_asked-in-Or-2.new.gates all c.add_unless_asked-in-Or-2.result first second)
