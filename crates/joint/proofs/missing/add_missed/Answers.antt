use Rattle.std.proofs.Common.{arith}
use Rattle.gates_theory.proofs.Within.{following-within}
use Rattle.joint.proofs.missing.add_missed.Goals as goal

pub add_clause-requires : goal.add_clause-requires
add_clause-requires c =
    rw (c.as_slice.ensures, c.in-Ok.ensures) (following-within c.add_each_missed.new.cnf.variables c.args.before c.len.result
    (omega (arith, c.requires.selectors, c.len.ensures, c.in_ok-add_each_missed.ensures.variables)))
