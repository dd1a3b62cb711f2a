use Rattle.std.proofs.Common.{◌≡◌, sym, subst, ◌+◌, ◌≤◌, Bool as Truth, List, length, arith}
use Rattle.std.specs.Prelude.{IfOk}
use Rattle.joint.specs.Joined.{Joined}
use Rattle.joint_theory.specs.Bits.{joint_width, state_in}
use Rattle.run_terms.specs.Formulas.{values_of}
use Rattle.joint.proofs.StateReads.{own-again, own-length, own-state}
use Rattle.joint.proofs.joined.Joint.read_state.Goals as goal

pub read_state-requires : goal.read_state-requires
read_state-requires c =
    let product = c.self.inside.product in
    let j = c.args.self.now in
    let long = own-length j.design j.automaton j.visits c.args.bits.now c.requires.some in
    record {
      fits = subst (λ (values : List Truth). 0 + joint_width product.netlist.now product.violation.now product.visits ≤ length values) (sym c.as_slice.ensures)
          (subst (λ (j : Joined). 0 + joint_width j.design j.automaton j.visits ≤ length c.args.bits.now) (sym c.self.view_is) (omega (arith, long)));
    }

pub returns-clause-is : goal.returns-clause-is
returns-clause-is c =
    let product = c.self.inside.product in
    let j = c.args.self.now in
    own-state j.design j.automaton j.visits c.args.bits.now c.requires.some c.read_state.result
    (subst (λ (j : Joined). IfOk c.read_state.result (λ state. state ≡ state_in j.design j.automaton j.visits 0 (λ variable. values_of c.args.bits.now (0 + variable))))
    c.self.view_is
    (subst (λ (values : List Truth). IfOk c.read_state.result (λ state. state
    ≡ state_in product.netlist.now product.violation.now product.visits 0 (λ variable. values_of values (0 + variable)))) c.as_slice.ensures c.read_state.ensures))

pub returns-clause-bits : goal.returns-clause-bits
returns-clause-bits c =
    let product = c.self.inside.product in
    let j = c.args.self.now in
    own-again j.design j.automaton j.visits c.args.bits.now c.requires.some c.read_state.result
    (subst (λ (j : Joined). IfOk c.read_state.result (λ state. state ≡ state_in j.design j.automaton j.visits 0 (λ variable. values_of c.args.bits.now (0 + variable))))
    c.self.view_is
    (subst (λ (values : List Truth). IfOk c.read_state.result (λ state. state
    ≡ state_in product.netlist.now product.violation.now product.visits 0 (λ variable. values_of values (0 + variable)))) c.as_slice.ensures c.read_state.ensures))
