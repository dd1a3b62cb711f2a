use Rattle.std.proofs.Common.{◌+◌, ◌-◌, ◌^◌, length, arith}
use Rattle.psl_tree.specs.Trees.{formula_of}
use Rattle.alternating.proofs.Built.{built-ok-within, built-ok-count, part-wider}
use Rattle.alternating.proofs.build.+build.Goals as goal

pub boxed_build-returns-clause-within : goal.boxed_build-returns-clause-within
boxed_build-returns-clause-within t c =
    built-ok-within c.args.offset (formula_of c.args.f.now) c.build_form.result c.requires.plain c.build_form.ensures

pub boxed_build-returns-clause-count : goal.boxed_build-returns-clause-count
boxed_build-returns-clause-count t c =
    built-ok-count c.args.offset (formula_of c.args.f.now) c.build_form.result c.requires.plain c.build_form.ensures

pub build_form-abort_of-requires-clause-within : goal.build_form-abort_of-requires-clause-within
build_form-abort_of-requires-clause-within t c =
    let room = rw c.in-Abort.is at c.requires.room in
    let few = rw c.deref-in-Abort.ensures at c.in_ok-boxed_build-in-Abort.ensures.count in
    part-wider c.args.offset (c.args.offset + length c.in_ok-boxed_build-in-Abort.field-0.value.rest.items) 0 (2 ^ 32 - length c.in_ok-boxed_build-in-Abort.field-0.value.rest.items)
    (omega arith) (omega (arith, few, room)) c.in_ok-boxed_build-in-Abort.field-0.value c.in_ok-boxed_build-in-Abort.ensures.within
