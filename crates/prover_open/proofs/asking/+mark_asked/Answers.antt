use Rattle.std.proofs.Common.{◌∙◌, ◌||◌, ap, sym}
use Rattle.std.specs.List.{list_any}
use Rattle.alternating.specs.Views.{positive_of}
use Rattle.joint_theory.specs.Guards.{allows, and_guard, guards, or_guard}
use Rattle.netlist.specs.Valuations.{bit}
use Rattle.prover_held.specs.Lasting.{letter_in}
use Rattle.prover_open.proofs.Guarded.{both-read}
use Rattle.prover_open.proofs.asking.+mark_asked.Goals as goal

pub returns-in-And-clause-each : goal.returns-in-And-clause-each
returns-in-And-clause-each t c guard number allowed =
    let letter = letter_in c.args.netlist.now c.args.path.now c.args.place in
    both-read letter and_guard guard number (positive_of c.in-And.left.value) (positive_of c.in-And.right.value)
    (positive_of c.deref.result.now) (positive_of c.deref-in-And.result.now) (positive_of c.deref-in-And-2.result.now) (positive_of c.deref-in-And-3.result.now)
    c.and_allowed-first.result c.and_allowed-second.result
    (bit c.args.into.now number) (bit c.mark_asked.new.into number) (bit c.mark_asked-in-And.new.into number)
    (ap positive_of c.deref.ensures) (ap positive_of c.deref-in-And.ensures) (ap positive_of c.deref-in-And-2.ensures) (ap positive_of c.deref-in-And-3.ensures)
    (c.and_allowed-first.ensures guard allowed) (c.and_allowed-second.ensures guard allowed)
    (λ under same. c.mark_asked.ensures.each under number same) (λ under same. c.mark_asked-in-And.ensures.each under number same)
    ∙ ap (λ positive. bit c.args.into.now number || list_any (allows letter) (guards guard (positive_of positive) number)) (sym c.in-And.is)

pub returns-in-Or-clause-each : goal.returns-in-Or-clause-each
returns-in-Or-clause-each t c guard number allowed =
    let letter = letter_in c.args.netlist.now c.args.path.now c.args.place in
    both-read letter or_guard guard number (positive_of c.in-Or.left.value) (positive_of c.in-Or.right.value)
    (positive_of c.deref-in-Or.result.now) (positive_of c.deref-in-Or-2.result.now) (positive_of c.deref-in-Or-3.result.now) (positive_of c.deref-in-Or-4.result.now)
    c.or_allowed-first.result c.or_allowed-second.result
    (bit c.args.into.now number) (bit c.mark_asked-in-Or.new.into number) (bit c.mark_asked-in-Or-2.new.into number)
    (ap positive_of c.deref-in-Or.ensures) (ap positive_of c.deref-in-Or-2.ensures) (ap positive_of c.deref-in-Or-3.ensures) (ap positive_of c.deref-in-Or-4.ensures)
    (c.or_allowed-first.ensures guard allowed) (c.or_allowed-second.ensures guard allowed)
    (λ under same. c.mark_asked-in-Or.ensures.each under number same) (λ under same. c.mark_asked-in-Or-2.ensures.each under number same)
    ∙ ap (λ positive. bit c.args.into.now number || list_any (allows letter) (guards guard (positive_of positive) number)) (sym c.in-Or.is)
