use Rattle.vcd_writer.proofs.Growing.{one-more}
use Rattle.vcd_writer.proofs.making.make_recording.Goals as goal

pub loop-sample-preserved : goal.loop-sample-preserved
loop-sample-preserved c =
    one-more c.args.seed c.loop-sample.sample c.loop-sample.number c.number_after-number.result c.loop-sample.text.items c.add_sample.new.text.items c.loop-sample.answer c.bit_16-request.result
    c.loop-sample.invariant c.number_after-number.ensures c.bit_16-request.ensures c.in_ok-add_sample.ensures
