-- What contracts see of a sink in memory.
use Rattle.std.specs.Prelude.{ℕ, ◌+◌, ◌<◌, ◌⊎◌, List, length, min, Some}
use Rattle.std.specs.List.{Contains}
use Rattle.psl_base.specs.Faults.{last_count}
use Rattle.psl_base.specs.Sink.{SinkState}

-- a count, one further
abbrev pub counted : ℕ → ℕ
counted count = min (count + 1) last_count

-- a sink in memory: its bytes and how many it has room for, its calls and faults so far,
-- and the numbers of the calls that fail
pub record MemorySink : Type 0 where
  pub bytes : List ℕ
  pub room : ℕ
  pub calls : ℕ
  pub faults : ℕ
  pub fail : List ℕ

-- it tells everything
abbrev pub sink_state : MemorySink → SinkState
sink_state sink = record { written = Some sink.bytes; faults = sink.faults }

-- a piece fails: the number of the call is listed, or the piece goes past the room
abbrev pub SinkRefuses : MemorySink → List ℕ → Type 0
SinkRefuses sink piece = Contains sink.fail (counted sink.calls) ⊎ sink.room < length sink.bytes + length piece
