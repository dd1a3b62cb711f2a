-- A text of definitions and samples is read as the values that it was made of.
use Rattle.std.proofs.Common.{◌≡◌, ◌∙◌, refl, ap, ℕ, ◌<◌, List, Bool, [], map, length, Option, Ok, true, arith}
use Rattle.std.specs.List.{range_with_len}
use Rattle.psl_base.specs.Tokens.{tokens}
use Rattle.vcd_writer.proofs.Samples.{before_sample, events_from}
use Rattle.vcd_writer.proofs.Standings.{Goes, says}
use Rattle.vcd_writer.proofs.Values.{times-are, rows-are}
use Rattle.vcd_writer.specs.Lines.{letters_of}
use Rattle.vcd_reader.proofs.Firsts.{faultless-reading}
use Rattle.psl_base.specs.declared.place.Place.{Place}
use Rattle.vcd_reader.specs.declared.unknown.Unknown.{Unknown}
use Rattle.vcd_reader.specs.Declarations.{Declared}
use Rattle.vcd_reader.specs.Events.{Event, value_at}
use Rattle.vcd_reader.specs.Meaning.{may_end_after, events_after, places_in, dump_of, sampled_of, reading}
use Rattle.vcd_reader.specs.Rules.{may_end}
use Rattle.vcd_reader.specs.Sampled.{Sampled}
use Rattle.vcd_reader.specs.Standing.{Standing, at_first}

-- what the events give
sampled-are : (unknown : Unknown) (declared : Declared) (values : ℕ → List Bool) (count : ℕ) (places : List Place) → ((sample : ℕ) → sample < count → length (values sample) ≡ length declared.codes)
    → sampled_of unknown (dump_of (before_sample declared count) (events_from values 0 count) places) ≡ record { names = declared.names; samples = map (λ sample. letters_of (values sample)) (range_with_len 0 count); times = range_with_len 0 count; places = places; unknown = unknown }
sampled-are unknown declared values count places wide =
    let rows_at : List ℕ → List (List (Option (List ℕ))) = map (λ time. map (λ signal. value_at (events_from values 0 count) signal time) (range_with_len 0 (length declared.codes))) in
    ap (λ (times : List ℕ). record { names = declared.names; samples = rows_at times; times = times; places = places; unknown = unknown }) (times-are values 0 count)
    ∙ ap (λ (rows : List (List (Option (List ℕ)))). record { names = declared.names; samples = rows; times = range_with_len 0 count; places = places; unknown = unknown })
    (rows-are values (length declared.codes) count 0 count wide (omega arith))

pub text-read : (unknown : Unknown) (text : List ℕ) (declared : Declared) (values : ℕ → List Bool) (count : ℕ) → ((sample : ℕ) → sample < count → length (values sample) ≡ length declared.codes)
    → Goes at_first (tokens text) (events_from values 0 count) (before_sample declared count)
    → reading unknown text ≡ Ok (record { names = declared.names; samples = map (λ sample. letters_of (values sample)) (range_with_len 0 count); times = range_with_len 0 count; places = places_in text; unknown = unknown })
text-read unknown text declared values count wide goes =
    let all = says [] (tokens text) (events_from values 0 count) at_first (before_sample declared count) refl goes in
    let end : may_end_after (tokens text) ≡ true = ap (λ (s : Standing). may_end s.part s.opened) all.end_is in
    faultless-reading unknown text (all.none, end)
    ∙ ap (λ (s : Standing). Ok (sampled_of unknown (dump_of s (events_after [] (tokens text)) (places_in text)))) all.end_is
    ∙ ap (λ (es : List Event). Ok (sampled_of unknown (dump_of (before_sample declared count) es (places_in text)))) all.events_are
    ∙ ap (λ (s : Sampled). Ok s) (sampled-are unknown declared values count (places_in text) wide)
