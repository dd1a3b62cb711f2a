use Rattle.std.proofs.Common.{◌∙◌, length, arith}
use Rattle.psl_tree.specs.Letters.{atom_at}
use Rattle.netlist.specs.Runs.{bits_of, valuation_at}
use Rattle.netlist.proofs.Held.{atoms-more}
use Rattle.netlist.proofs.word.atoms_at.Goals as goal

pub loop-name-preserved : goal.loop-name-preserved
loop-name-preserved c =
    let names = c.args.names.now in
    let here = c.loop-name.name-index in
    let now = atom_at (bits_of c.args.run.now) c.args.place in
    let named = c.requires.sizes c.args.place (omega arith) here c.name-item.result c.loop-name-test.true in
    c.in_ok-add_atoms.ensures
    ∙ atoms-more now names here (length (valuation_at c.args.run.now c.args.place)) c.name-item.result c.loop-name.atoms c.loop-name-test.true c.name-item.is (rw c.name-item.is named) c.loop-name.invariant
