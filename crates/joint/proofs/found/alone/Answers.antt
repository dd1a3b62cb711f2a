use Rattle.std.proofs.Common.{◌+◌, arith}
use Rattle.gates_theory.proofs.Within.{wider_all}
use Rattle.joint.proofs.found.alone.Goals as goal

pub invariant_of-cnf : goal.invariant_of-cnf
invariant_of-cnf c =
    let cnf = c.in_ok-cnf.cnf in
    record {
      few = omega (arith, c.if-further-gates.false, c.len-gates.ensures, c.requires.few);
      within = wider_all cnf.variables (c.len-gates.result + c.args.further) (omega (arith, c.in_ok-cnf.ensures.variables, c.len-gates.ensures)) cnf.clauses cnf.within;
    }
