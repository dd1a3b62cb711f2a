use Rattle.std.proofs.Common.{arith}
use Rattle.psl_tree.specs.Trees.{boolean_of}
use Rattle.alternating_blocks.proofs.Columns.{tells-not, tells-and, tells-or}
use Rattle.alternating_blocks.proofs.letters.+word_of.Goals as goal

pub returns-in-Not : goal.returns-in-Not
returns-in-Not t c =
    rw (c.in-Not.is, ← c.deref.ensures) (tells-not c.args.atoms.now c.args.columns.now (boolean_of c.deref.result.now) c.word_of.result (omega arith) c.word_of.ensures)

pub returns-in-And : goal.returns-in-And
returns-in-And t c =
    rw (c.in-And.is, ← c.deref-in-And.ensures, ← c.deref-in-And-2.ensures)
    (tells-and c.args.atoms.now c.args.columns.now (boolean_of c.deref-in-And.result.now) (boolean_of c.deref-in-And-2.result.now) c.word_of-in-And.result c.word_of-in-And-2.result
    c.word_of-in-And.ensures c.word_of-in-And-2.ensures)

pub returns-in-Or : goal.returns-in-Or
returns-in-Or t c =
    rw (c.in-Or.is, ← c.deref-in-Or.ensures, ← c.deref-in-Or-2.ensures)
    (tells-or c.args.atoms.now c.args.columns.now (boolean_of c.deref-in-Or.result.now) (boolean_of c.deref-in-Or-2.result.now) c.word_of-in-Or.result c.word_of-in-Or-2.result
    c.word_of-in-Or.ensures c.word_of-in-Or-2.ensures)
