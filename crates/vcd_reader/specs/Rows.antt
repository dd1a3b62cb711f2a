-- The samples of a recording, from what is kept of it.
use Rattle.std.specs.Prelude.{◌≡◌, ℕ, ◌+◌, ◌<◌, ◌≤◌, List, [], ◌∷◌, map, length, drop, Option, None, All, unwrap_or}
use Rattle.std.specs.List.{range_with_len}
use Rattle.std.specs.Option.{option_map}
use Rattle.psl_base.specs.Places.{file_limit, place_at}
use Rattle.psl_base.specs.Tokens.{PlacedToken, tokens}
use Rattle.psl_tree.specs.declared.name.Name.{Name}
use Rattle.vcd_reader.specs.declared.changes.Change.{Change}
use Rattle.vcd_reader.specs.Rules.{sample_limit}
use Rattle.vcd_reader.specs.Sampled.{Sampled, AreAlike}
use Rattle.vcd_reader.specs.Standing.{time_of}
use Rattle.vcd_reader.specs.declared.unknown.Unknown.{Unknown}
use Rattle.vcd_reader.specs.Changes.{latest_change, letters_in}

-- the value of a signal, by its changes, at a sample: its latest change with at most so many samples begun, this one among them
abbrev pub value_of : List ℕ → ℕ → List Change → Option (List ℕ)
value_of bytes sample list = option_map (letters_in bytes) (latest_change None (sample + 1) list)

abbrev pub rows_of : List ℕ → ℕ → List (List Change) → List (List (Option (List ℕ)))
rows_of bytes samples changes = map (λ sample. map (value_of bytes sample) changes) (range_with_len 0 samples)

-- the letters of each change stand in the text, and there is one at least
abbrev pub AreInside : List ℕ → List (List Change) → Type 0
AreInside bytes changes = All (λ list. All (λ change. (0 < change.len) × (change.start + change.len ≤ length bytes)) list) changes

-- the time that the first of some tokens lists, 0 where it lists none
abbrev pub first_time : List PlacedToken → ℕ
first_time [] = 0
first_time (t ∷ ts) = unwrap_or (time_of t.text) 0

-- the time that is listed behind so many bytes of a text
abbrev pub time_at : List ℕ → ℕ → ℕ
time_at bytes at = first_time (tokens (drop at bytes))

-- the line of the byte before which so many bytes of a text stand
abbrev pub line_at : List ℕ → ℕ → ℕ
line_at bytes at = (place_at bytes at).line

-- a recording, from what is kept of it: its names and its bytes, how many samples it has, of each signal its changes, and
-- before how many bytes each sample begins
abbrev pub kept_as : List Name → List ℕ → ℕ → List (List Change) → List ℕ → Unknown → Sampled
kept_as names bytes samples changes starts unknown = record {
  names = names;
  samples = rows_of bytes samples changes;
  times = map (time_at bytes) starts;
  places = map (place_at bytes) starts;
  unknown = unknown;
}

-- what each recording keeps
pub record IsSound (names : List Name) (bytes : List ℕ) (samples : ℕ) (changes : List (List Change)) (starts : List ℕ) : Type 0 where
  pub few : samples ≤ sample_limit
  pub short : length bytes ≤ file_limit
  pub inside : AreInside bytes changes
  pub signals : All (λ name. name.signal < length changes) names
  pub alike : AreAlike names
  pub counted : length starts ≡ samples
  pub within : All (λ start. start ≤ length bytes) starts
