-- What contracts see of a sink, and what its call does to it.
use Rattle.std.specs.Prelude.{◌≡◌, ℕ, ◌<◌, ◌≤◌, List, ◌++◌, length, take, Option}
use Rattle.std.specs.Option.{option_map}
use Rattle.psl_base.specs.Faults.{Rose}

-- what a sink stands for
pub record SinkState : Type 0 where
  -- every byte that was put, or none where the sink tells nothing
  pub written : Option (List ℕ)
  pub faults : ℕ

-- what was written, with more bytes at its end
abbrev pub with_bytes : List ℕ → Option (List ℕ) → Option (List ℕ)
with_bytes more written = option_map (λ bytes. bytes ++ more) written

-- the first bytes of a piece were added, at least one of a piece that has any
pub record Puts (count : ℕ) (piece : List ℕ) (old new : SinkState) : Type 0 where
  pub fits : count ≤ length piece
  pub some : 0 < length piece → 0 < count
  pub written : new.written ≡ with_bytes (take count piece) old.written
  pub faults : new.faults ≡ old.faults

-- nothing was added
pub record PutFails (old new : SinkState) : Type 0 where
  pub cause : Rose old.faults new.faults
  pub written : new.written ≡ old.written
  pub faults : old.faults ≤ new.faults

-- all bytes of a text were added
pub record AddsAll (text : List ℕ) (old new : SinkState) : Type 0 where
  pub written : new.written ≡ with_bytes text old.written
  pub faults : new.faults ≡ old.faults

-- only the first bytes of a text were added, and then a fault came
pub record AddsPart (text : List ℕ) (old new : SinkState) : Type 0 where
  pub count : ℕ
  pub within : count < length text
  pub written : new.written ≡ with_bytes (take count text) old.written
  pub cause : Rose old.faults new.faults
  pub faults : old.faults ≤ new.faults
