use Rattle.std.proofs.Common.{length, arith}
use Rattle.clauses.specs.declared.flat.TheConstants.{MOST_VARIABLES}
use Rattle.gates_theory.proofs.Models.{now_within}
use Rattle.gates_theory.proofs.Within.{following-within}
use Rattle.gates.proofs.states.add_pair.Goals as goal

pub add_differences-requires-clause-within : goal.add_differences-requires-clause-within
add_differences-requires-clause-within c =
    rw (c.len-size.ensures, c.as_slice.ensures) (now_within c.args.circuit.now c.requires.sound)

pub add-requires-clause-within : goal.add-requires-clause-within
add-requires-clause-within c =
    rw c.write_following.ensures (following-within MOST_VARIABLES c.args.pair.variables (length c.args.buffer.now) (omega (arith, c.requires.buffer, c.requires.few)))
