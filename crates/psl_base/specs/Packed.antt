-- Files that lie one behind another in one run of bytes, name before content.
use Rattle.std.specs.Prelude.{◌≡◌, ℕ, ◌+◌, ◌≤◌, List, [], ◌∷◌, length, take, drop, sum_by, vec_capacity}
use Rattle.psl_base.specs.declared.packed.File.{File}
use Rattle.psl_base.specs.declared.packed.Span.{Span}
use Rattle.psl_base.specs.declared.packed.PackedFiles.TheInside.{Inside}
use Rattle.psl_base.specs.Files.{FileStore}

-- how many bytes the spans cover
abbrev pub covered : List Span → ℕ
covered spans = sum_by (λ span. span.name + span.content) spans

-- the files whose spans follow one another from the first byte on
abbrev pub files_in : List Span → List ℕ → List File
files_in [] bytes = []
files_in (span ∷ spans) bytes =
    record { name = take span.name bytes; content = take span.content (drop span.name bytes) }
    ∷ files_in spans (drop (span.name + span.content) bytes)

-- the spans cover the bytes, and both keep to their room, which is there already
pub record IsPacked (packed : Inside) : Type 0 where
  pub covers : covered packed.spans.items ≡ length packed.bytes.items
  pub files_fit : length packed.spans.items ≤ packed.file_room
  pub bytes_fit : length packed.bytes.items ≤ packed.byte_room
  pub files_taken : packed.file_room ≤ vec_capacity packed.spans
  pub bytes_taken : packed.byte_room ≤ vec_capacity packed.bytes

abbrev pub store_of : Inside → FileStore
store_of packed = record { files = files_in packed.spans.items packed.bytes.items; file_room = packed.file_room; byte_room = packed.byte_room }
