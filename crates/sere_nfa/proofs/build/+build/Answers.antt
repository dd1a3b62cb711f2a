use Rattle.std.proofs.Common.{rules, arith}
use Rattle.psl_tree.specs.Trees.{sequence_of}
use Rattle.psl_tree.specs.declared.sere.Sere.{the_lemmas}
use Rattle.sere_nfa.proofs.Built.{built-ok-within, built-ok-count, product_grows}
use Rattle.sere_nfa.proofs.build.+build.Goals as goal

pub boxed_build-returns-clause-within : goal.boxed_build-returns-clause-within
boxed_build-returns-clause-within t c =
    built-ok-within c.args.offset (sequence_of c.args.sequence.now) c.build_form.result c.requires.no_clock c.build_form.ensures

pub boxed_build-returns-clause-count : goal.boxed_build-returns-clause-count
boxed_build-returns-clause-count t c =
    built-ok-count c.args.offset (sequence_of c.args.sequence.now) c.build_form.result c.requires.no_clock c.build_form.ensures

pub build_form-boxed_build-requires-in-Both : goal.build_form-boxed_build-requires-in-Both
build_form-boxed_build-requires-in-Both t c =
    let room = rw c.in-Both.is at c.requires.room in
    let few = product_grows (sequence_of c.in-Both.left.value) (sequence_of c.in-Both.right.value) in
    (search (rules, the_lemmas), (search rules, rw c.deref-in-Both.ensures (omega (arith, few, room))))
