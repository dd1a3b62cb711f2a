use Rattle.std.proofs.Common.{◌+◌, ◌∙◌, arith}
use Rattle.joint_theory.specs.Bits.{count_of}
use Rattle.joint.proofs.States.{seen, state-is, valuation-read, owed-read, pending-read, count-read}
use Rattle.joint.proofs.model_state.read_state.Goals as goal

pub returns : goal.returns
returns c =
    let design = c.args.product.netlist.now in
    let automaton = c.args.product.violation.now in
    let values = c.args.values.now in
    let base = c.args.base in
    let signals = design.signals in
    let before = rw c.signals-signals.ensures at c.in_ok-read_before.ensures in
    let valuation = rw c.signals-signals.ensures at c.in_ok-read_bits.ensures in
    let owed = rw (c.signals-signals.ensures, c.len-obligations.ensures) at c.in_ok-read_numbers.ensures in
    let pending = rw (c.signals-signals.ensures, c.len-obligations.ensures) at c.in_ok-read_numbers-2.ensures in
    let count = rw (c.signals-signals.ensures, c.len-obligations.ensures) at c.read_count.ensures.is in
    state-is design automaton c.args.product.visits (seen values base) c.in_ok-read_before.field-0 c.in_ok-read_bits.field-0 c.in_ok-read_numbers.field-0 c.in_ok-read_numbers-2.field-0 c.read_count.result
    before
    (valuation ∙ valuation-read values base signals)
    (owed ∙ owed-read design automaton values base (base + 1 + signals + signals) (omega arith))
    (pending ∙ pending-read design automaton values base (base + 1 + signals + signals + count_of automaton) (omega arith))
    (count ∙ count-read design automaton values base (base + 1 + signals + signals + count_of automaton + count_of automaton) c.args.product.visits (omega arith))
