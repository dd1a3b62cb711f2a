use Rattle.std.proofs.Common.{◌<◌, length, List, sym, subst, arith}
use Rattle.std.specs.Prelude.{All}
use Rattle.psl_tree.specs.declared.atom.Atom.{Atom}
use Rattle.vcd_reader.specs.Sampled.{AtomInRange}
use Rattle.wave_judge.proofs.packing.pack.Goals as goal

pub holds-requires-clause-in_range : goal.holds-requires-clause-in_range
holds-requires-clause-in_range c =
    let within : c.loop-place.place < length c.as_slice-atom-items.result.now = omega arith in
    subst (λ (atoms : List Atom). All (AtomInRange c.args.recording.now.names) atoms) (sym c.as_slice-atom-items.ensures) c.requires.in_range c.loop-place.place _ within
