use Rattle.gates_theory.proofs.Models.{now_within}
use Rattle.gates.proofs.parts.add_next.Goals as goal

pub add_links-requires-clause-within : goal.add_links-requires-clause-within
add_links-requires-clause-within c =
    rw (c.len-size.ensures, c.as_slice-2.ensures) (now_within c.args.circuit.now c.requires.sound)
