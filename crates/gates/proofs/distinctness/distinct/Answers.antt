use Rattle.std.proofs.Common.{rules, ◌≡◌, ◌≤◌, ◌++◌, arith}
use Rattle.std.proofs.lemmas.Grind.{common_steps}
use Rattle.gates_theory.specs.Distinct.{distinct}
use Rattle.gates_theory.specs.Sizes.{distinct_variables}
use Rattle.gates_theory.proofs.Filling.{distinct-models, distinct-extends}
use Rattle.gates_theory.proofs.Within.{both_within, wider_all, distinct-all_within}
use Rattle.gates.proofs.distinctness.distinct.Goals as goal

pub invariant_of-cnf-2 : goal.invariant_of-cnf-2
invariant_of-cnf-2 c =
    let circuit = c.args.circuit.now in
    let cnf = c.args.cnf.now in
    let more = distinct circuit cnf.variables c.args.positions in
    let all = distinct_variables circuit cnf.variables c.args.positions in
    let added : c.add_states.new.clauses ≡ cnf.clauses ++ more = first_of (search rules, grind (arith, common_steps)) in
    let order : cnf.variables ≤ all = omega arith in
    record {
      few = omega (arith, c.in_ok-variables.ensures.ok, c.in_ok-variables.ensures.fits.few_variables);
      within = rw (c.in_ok-variables.ensures.ok, added) (both_within all cnf.clauses more (wider_all cnf.variables all order cnf.clauses cnf.within)
          (distinct-all_within circuit cnf.variables c.args.positions c.requires.sound c.requires.variables));
    }

pub returns-clause-different : goal.returns-clause-different
returns-clause-different c = λ values.
    let circuit = c.args.circuit.now in
    let cnf = c.args.cnf.now in
    let added : c.add_states.new.clauses ≡ cnf.clauses ++ distinct circuit cnf.variables c.args.positions = first_of (search rules, grind (arith, common_steps)) in
    rw added (distinct-models circuit cnf.clauses cnf.variables c.args.positions values c.requires.sound)

pub returns-clause-extends : goal.returns-clause-extends
returns-clause-extends c = λ values.
    let circuit = c.args.circuit.now in
    let cnf = c.args.cnf.now in
    let added : c.add_states.new.clauses ≡ cnf.clauses ++ distinct circuit cnf.variables c.args.positions = first_of (search rules, grind (arith, common_steps)) in
    rw added (distinct-extends circuit cnf.clauses cnf.variables c.args.positions values c.requires.sound c.requires.variables cnf.within)
