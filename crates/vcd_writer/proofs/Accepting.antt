-- A made recording is read as the values that it was made of.
use Rattle.std.proofs.Common.{◌≡◌, refl, subst, ℕ, ◌+◌, ◌≤◌, false, List, [], ◌∷◌, ◌++◌, Ok, arith}
use Rattle.psl_base.specs.Tokens.{tokens_from}
use Rattle.vcd_writer.proofs.Pieces.{reads-all}
use Rattle.vcd_writer.proofs.Samples.{AreRead, before_sample, events_from, samples-read}
use Rattle.vcd_writer.proofs.Standings.{Goes}
use Rattle.vcd_writer.proofs.Texts.{text-read}
use Rattle.vcd_writer.specs.Made.{definitions, made_codes, made_names, made_sampled, made_text, made_values}
use Rattle.vcd_writer.specs.Lines.{samples_from}
use Rattle.vcd_reader.specs.declared.unknown.Unknown.{Unknown}
use Rattle.vcd_reader.specs.Declarations.{Declared}
use Rattle.vcd_reader.specs.Events.{Event}
use Rattle.vcd_reader.specs.Meaning.{reading}
use Rattle.vcd_reader.specs.Rules.{sample_limit}
use Rattle.vcd_reader.specs.Shapes.{shape_of, keyword_of}
use Rattle.vcd_reader.specs.Standing.{Standing, at_first}

-- what the definitions declare
abbrev declared : Declared
declared = record {
  codes = made_codes;
  signals = record { size = 1; unread = false } ∷ record { size = 1; unread = false } ∷ [];
  names = made_names;
  scopes = [];
}

-- the definitions
definitions-go : (whole rest : List ℕ) (events : List Event) (end : Standing) → Goes (before_sample declared 0) (tokens_from whole 67 rest) events end
    → Goes at_first (tokens_from whole 0 (definitions ++ rest)) events end
unfolding shape_of keyword_of
definitions-go whole rest events end goes =
    (refl, (events, refl, (refl, (events, refl, (refl, (events, refl, (refl, (events, refl, (refl, (events, refl, (refl, (events, refl, (refl, (events, refl, (refl, (events, refl, (refl, (events, refl, (refl, (events, refl, (refl, (events, refl, (refl, (events, refl, (refl, (events, refl, (refl, (events, refl, goes))))))))))))))))))))))))))))

codes-read : AreRead declared 0 made_codes
codes-read =
    (record { some = omega arith; solid = refl; found = refl; read = refl }, (record { some = omega arith; solid = refl; found = refl; read = refl }, tt))

pub accepted : (unknown : Unknown) (seed samples : ℕ) → samples ≤ sample_limit → reading unknown (made_text seed samples) ≡ Ok (made_sampled unknown seed samples)
accepted unknown seed samples few =
    let text = made_text seed samples in
    let lines = samples_from made_codes (made_values seed) 0 samples in
    let events = events_from (made_values seed) 0 samples in
    let last : 0 + samples ≡ samples = omega arith in
    text-read unknown text declared (made_values seed) samples (λ sample within. refl)
    (definitions-go text lines events (before_sample declared samples)
    (subst (λ (n : ℕ). Goes (before_sample declared 0) (tokens_from text 67 lines) events (before_sample declared n)) last
    (reads-all text (before_sample declared 0) (before_sample declared (0 + samples)) lines events
    (samples-read text declared made_codes (made_values seed) 0 samples codes-read (λ sample within. refl) (omega (arith, few))) 67)))
