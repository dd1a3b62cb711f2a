-- What the bytes of a file say: a recording, or the first fault.
use Rattle.std.specs.Prelude.{ℕ, Bool, cond, List, [], ◌∷◌, ◌++◌, map, length, Option, None, Some, Result, Ok, Err}
use Rattle.std.specs.List.{range_with_len}
use Rattle.std.specs.Option.{option_map, option_or, option_to_list}
use Rattle.psl_base.specs.Places.{place_at}
use Rattle.psl_base.specs.Tokens.{PlacedToken, tokens}
use Rattle.psl_base.specs.declared.place.Place.{Place}
use Rattle.psl_tree.specs.declared.name.Name.{Name}
use Rattle.vcd_reader.specs.declared.fault.VcdFault.{VcdFault}
use Rattle.vcd_reader.specs.declared.fault.VcdFault.TheVariants.{EndsInside}
use Rattle.vcd_reader.specs.declared.unknown.Unknown.{Unknown}
use Rattle.vcd_reader.specs.declared.unknown.Unknown.TheVariants.{Refuse}
use Rattle.vcd_reader.specs.Beginnings.{begins_sample}
use Rattle.vcd_reader.specs.Events.{Event, value_at, times_of}
use Rattle.vcd_reader.specs.Rules.{rule_at, may_end}
use Rattle.vcd_reader.specs.Sampled.{Sampled, unknown_at}
use Rattle.vcd_reader.specs.Standing.{Standing, standing_by, event_of}

-- the fault of a token, which wants its place, by what the tokens before it say
abbrev pub rule_after : Standing → PlacedToken → Option (Place → VcdFault)
rule_after standing t = rule_at standing.declared standing.part standing.opened t.text

-- the fault of a token, by the tokens before it
abbrev pub fault_at : List PlacedToken → PlacedToken → Option VcdFault
fault_at before t = option_map (λ fault. fault t.place) (rule_after (standing_by before) t)

-- whether a text may end behind some tokens
abbrev pub may_end_after : List PlacedToken → Bool
may_end_after before = may_end (standing_by before).part (standing_by before).opened

-- the end of a text counts as a last token, which has no fault but to come too early
abbrev pub fault_at_end : Place → Bool → Option VcdFault
fault_at_end end may = cond may None (Some (EndsInside end))

-- the first fault of tokens that stand behind others, in a text that ends at a place
abbrev pub first_fault : Place → List PlacedToken → List PlacedToken → Option VcdFault
first_fault end before [] = fault_at_end end (may_end_after before)
first_fault end before (t ∷ ts) = option_or (fault_at before t) (first_fault end (before ++ t ∷ []) ts)

-- the event that a token says, by what the tokens before it say
abbrev pub event_after : Standing → PlacedToken → Option Event
event_after standing t = event_of standing.declared standing.part standing.opened t.text

-- the events that tokens say which stand behind others
abbrev pub events_after : List PlacedToken → List PlacedToken → List Event
events_after before [] = []
events_after before (t ∷ ts) = option_to_list (event_after (standing_by before) t) ++ events_after (before ++ t ∷ []) ts

-- whether a sample begins with a token, by what the tokens before it say
abbrev pub begins_after : Standing → PlacedToken → Bool
begins_after standing t = begins_sample standing.part standing.opened t.text

-- the places of the tokens with which samples begin, of tokens that stand behind others
abbrev pub places_after : List PlacedToken → List PlacedToken → List Place
places_after before [] = []
places_after before (t ∷ ts) = cond (begins_after (standing_by before) t) (t.place ∷ places_after (before ++ t ∷ []) ts) (places_after (before ++ t ∷ []) ts)

-- what a recording says: its names, how many signals it has, the times and changes of its body, and where
-- its samples begin
pub record Dump : Type 0 where
  pub names : List Name
  pub signals : ℕ
  pub events : List Event
  pub places : List Place

abbrev pub dump_of : Standing → List Event → List Place → Dump
dump_of standing events places = record { names = standing.declared.names; signals = length standing.declared.codes; events = events; places = places }

-- those of a whole text
abbrev pub places_in : List ℕ → List Place
places_in bytes = places_after [] (tokens bytes)

-- what the tokens say
abbrev pub dump_by : List PlacedToken → Dump
dump_by ts = dump_of (standing_by ts) (events_after [] ts) (places_after [] ts)

abbrev pub unless : {A B : Type 0} → Option B → A → Result A B
unless None value = Ok value
unless (Some failed) value = Err failed

-- one sample for each distinct time that is listed, in order, and at it of each signal its last change
-- before the next higher time; unknown bits read so
abbrev pub sampled_of : Unknown → Dump → Sampled
sampled_of unknown dump = record {
  names = dump.names;
  samples = map (λ time. map (λ signal. value_at dump.events signal time) (range_with_len 0 dump.signals)) (times_of dump.events);
  times = times_of dump.events;
  places = dump.places;
  unknown = unknown;
}

-- the place of a text's end
abbrev pub end_of : List ℕ → Place
end_of bytes = place_at bytes (length bytes)

-- what the bytes of a file say, where unknown bits read so: a recording, or its first fault
abbrev pub reading : Unknown → List ℕ → Result Sampled VcdFault
reading unknown bytes = unless (first_fault (end_of bytes) [] (tokens bytes)) (sampled_of unknown (dump_by (tokens bytes)))

-- whether the bytes of a file leave a bit unknown at a sample, however unknown bits read
abbrev pub unknown_in : List ℕ → ℕ → ℕ → ℕ → Bool
unknown_in bytes sample signal bit = unknown_at (sampled_of Refuse (dump_by (tokens bytes))) sample signal bit
