use Rattle.std.proofs.Common.{◌<◌, length, List, sym, subst, arith}
use Rattle.std.specs.Prelude.{All}
use Rattle.psl_tree.specs.declared.atom.Atom.{Atom}
use Rattle.vcd_reader.specs.Sampled.{AtomInRange}
use Rattle.wave_judge.proofs.columns.pack_block.Goals as goal

pub column_of-requires-clause-in_range : goal.column_of-requires-clause-in_range
column_of-requires-clause-in_range c =
    let within : c.loop-number.number < length c.as_slice-atom-items.result.now = omega arith in
    subst (λ (atoms : List Atom). All (AtomInRange c.args.recording.now.names) atoms) (sym c.as_slice-atom-items.ensures) c.requires.in_range c.loop-number.number _ within
