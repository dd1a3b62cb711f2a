use Rattle.std.proofs.Common.{◌∙◌, sym, arith}
use Rattle.vcd_reader.proofs.Letters.{holds_among-at}
use Rattle.wave_judge.proofs.columns.column_of.Goals as goal

pub returns : goal.returns
returns c = λ place h. c.loop-place.invariant place (omega arith) h ∙ sym (holds_among-at c.args.recording.now _ c.args.atom.now c.requires.in_range)
