use Rattle.std.proofs.Common.{refl, sym, ◌∙◌, arith}
use Rattle.alternating_blocks.proofs.Columns.{found}
use Rattle.alternating_blocks.proofs.letters.column_of.Goals as goal

pub returns-then-same_atom : goal.returns-then-same_atom
returns-then-same_atom c =
    found c.args.atoms.now c.args.columns.now c.loop-number.number _ c.args.atom.now _ (omega arith) (sym c.same_atom.ensures ∙ c.if-same_atom.true) refl
