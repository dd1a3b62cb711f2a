use Rattle.std.proofs.Common.{◌∙◌, sym, ap, length}
use Rattle.vcd_reader.proofs.Rows.{length-rows_of}
use Rattle.vcd_reader.specs.Sampled.{Sampled}
use Rattle.vcd_reader.proofs.recording.Recording.samples.Goals as goal

pub returns-clause-count : goal.returns-clause-count
returns-clause-count c =
    sym (length-rows_of c.self.inside.bytes c.self.inside.samples c.self.inside.changes.items) ∙ ap (λ (recording : Sampled). length recording.samples) c.self.view_is
