use Rattle.std.proofs.Common.{◌≡◌, ◌++◌}
use Rattle.vcd_writer.proofs.making.make_recording.Given as goal
use Rattle.vcd_writer.specs.Generator.{number_at, answer_at}
use Rattle.vcd_writer.specs.Lines.{samples_from}
use Rattle.vcd_writer.specs.Made.{definitions, made_codes, made_values}

abbrev pub invariant-loop-sample : goal.invariant-loop-sample
invariant-loop-sample l =
    (l.text.items ≡ definitions ++ samples_from made_codes (made_values l.seed) 0 l.sample) × (l.number ≡ number_at l.seed l.sample) × (l.answer ≡ answer_at l.seed l.sample)
