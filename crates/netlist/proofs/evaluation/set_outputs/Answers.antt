use Rattle.std.proofs.Common.{List, Bool, ap, ◌∙◌, length-set}
use Rattle.netlist.specs.Valuations.{output_in}
use Rattle.netlist.proofs.Filled.{with_outputs-more}
use Rattle.netlist.proofs.evaluation.set_outputs.Goals as goal

pub loop-number-preserved : goal.loop-number-preserved
loop-number-preserved c =
    let here = c.loop-number.number-index in
    record {
      same = c.set.ensures ∙ with_outputs-more c.args.tables.now c.args.order.now here c.args.into.now c.loop-number.into c.index-tables-number.result c.output_in-value.result
          c.loop-number-test.true c.loop-number.invariant.same (c.requires.order here 0 c.loop-number-test.true) c.index-tables-number.is (c.output_in-value.ensures ∙ ap (λ (filling : List Bool). output_in filling c.index-tables-number.result) c.as_slice.ensures);
      size = rw (c.set.ensures, length-set) c.loop-number.invariant.size;
    }
