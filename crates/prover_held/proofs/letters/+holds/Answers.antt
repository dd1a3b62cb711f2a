use Rattle.std.proofs.Common.{◌∙◌, ap, sym, subst}
use Rattle.psl_tree.specs.Atoms.{AtomsOfBoolean}
use Rattle.psl_tree.specs.Holds.{holds}
use Rattle.psl_tree.specs.Names.{AtomInRange}
use Rattle.psl_tree.specs.Trees.{boolean_of}
use Rattle.prover_held.specs.Lasting.{letter_in}
use Rattle.prover_held.proofs.PathLetters.{test-in}
use Rattle.prover_held.proofs.letters.+holds.Goals as goal

pub returns-in-Test : goal.returns-in-Test
returns-in-Test t c =
    c.is_held.ensures
    ∙ sym (test-in c.args.netlist.now c.args.path.now c.args.place c.in-Test.atom
    (subst (λ test. AtomsOfBoolean (AtomInRange c.args.netlist.now.names) (boolean_of test)) c.in-Test.is c.requires.atoms))
    ∙ ap (λ test. holds (letter_in c.args.netlist.now c.args.path.now c.args.place) (boolean_of test)) (sym c.in-Test.is)
