-- The tokens with which samples begin (IEEE 1364, clause 18.2.3).
use Rattle.std.specs.Prelude.{ℕ, Bool, false, not, List, Option, None, Some}
use Rattle.vcd_reader.specs.Events.{is_last}
use Rattle.vcd_reader.specs.Rules.{of_time}
use Rattle.vcd_reader.specs.Shapes.{shape_of}
use Rattle.vcd_reader.specs.Standing.{Told, Part, Telling, Open, Ready}

-- a time other than the last one
abbrev pub is_further : Told → Option ℕ → Bool
is_further told None = false
is_further told (Some time) = not (is_last told.last time)

-- such a time, where a change is wanted, begins a sample
abbrev pub begins_sample : Part → Open → List ℕ → Bool
begins_sample (Telling told) Ready text = of_time (is_further told) (shape_of text) text
begins_sample part opened text = false
