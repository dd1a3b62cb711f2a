use Rattle.std.proofs.Common.{◌∙◌, sym}
use Rattle.vcd_reader.proofs.Letters.{holds_among-at}
use Rattle.wave_judge.proofs.packing.holds.Goals as goal

pub returns : goal.returns
returns c =
    c.bit_near.ensures ∙ sym (holds_among-at c.args.recording.now c.args.sample c.args.atom.now c.requires.in_range)
