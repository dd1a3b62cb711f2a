-- How unknown bits read, and values worked out by hand.
use Rattle.std.proofs.Common.{◌≡◌, ℕ, Bool, true, false, not, ◌&&◌, ◌||◌, List, [], Option, None, Some, Ok, Err, refl, sym, ap, ◌∙◌}
use Rattle.psl_base.specs.Tokens.{tokens}
use Rattle.vcd_reader.specs.declared.fault.VcdFault.{VcdFault}
use Rattle.vcd_reader.specs.declared.unknown.Unknown.{Unknown}
use Rattle.vcd_reader.specs.Meaning.{first_fault, dump_by, unless, end_of, reading, sampled_of, unknown_in}
use Rattle.vcd_reader.specs.Sampled.{Sampled, letter_of, says_one, says_zero, is_one_under, bit_of, is_unknown_of, value_in, bit_at, unknown_at}
use Rattle.vcd_reader.specs.Shapes.{shape_of, keyword_of}
use Rattle.vcd_reader.specs.Unknowns.{AreRead}

abbrev pub with : Sampled → Unknown → Sampled
with recording unknown = record recording { unknown = unknown }

by_same : (one other : Sampled) (fault : Option VcdFault) (recording : Sampled) (unknown : Unknown) → with one unknown ≡ other → unless fault one ≡ Ok recording → unless fault other ≡ Ok (with recording unknown)
by_same one other None recording unknown same read = let is : one ≡ recording = cc in ap (λ (s : Sampled). Ok s) (sym same ∙ ap (λ (s : Sampled). with s unknown) is)
by_same one other (Some found) recording unknown same read = absurd (let wrong : Err found ≡ Ok recording = read in cc)

pub same-reading : (one other : Unknown) (bytes : List ℕ) (recording : Sampled) → reading one bytes ≡ Ok recording → reading other bytes ≡ Ok (with recording other)
same-reading one other bytes recording read =
    by_same (sampled_of one (dump_by (tokens bytes))) (sampled_of other (dump_by (tokens bytes))) (first_fault (end_of bytes) [] (tokens bytes)) recording other refl read

by_fault : (one other : Sampled) (fault : Option VcdFault) (found : VcdFault) → unless fault one ≡ Err found → unless fault other ≡ Err found
by_fault one other None found read = absurd (let wrong : Ok one ≡ Err found = read in cc)
by_fault one other (Some same) found read = let is : same ≡ found = cc in ap Err is

pub same-fault : (one other : Unknown) (bytes : List ℕ) (found : VcdFault) → reading one bytes ≡ Err found → reading other bytes ≡ Err found
same-fault one other bytes found read =
    by_fault (sampled_of one (dump_by (tokens bytes))) (sampled_of other (dump_by (tokens bytes))) (first_fault (end_of bytes) [] (tokens bytes)) found read

by_ok : (said : Sampled) (fault : Option VcdFault) (recording : Sampled) → unless fault said ≡ Ok recording → said ≡ recording
by_ok said None recording read = cc
by_ok said (Some found) recording read = absurd (let wrong : Err found ≡ Ok recording = read in cc)

says : (unknown : Unknown) (bytes : List ℕ) (recording : Sampled) → reading unknown bytes ≡ Ok recording → sampled_of unknown (dump_by (tokens bytes)) ≡ recording
says unknown bytes recording read = by_ok (sampled_of unknown (dump_by (tokens bytes))) (first_fault (end_of bytes) [] (tokens bytes)) recording read

pub reads-as-told : (unknown : Unknown) (bytes : List ℕ) (recording : Sampled) → reading unknown bytes ≡ Ok recording → recording.unknown ≡ unknown
reads-as-told unknown bytes recording read = sym (ap (λ (s : Sampled). s.unknown) (says unknown bytes recording read))

pub unknown-of-text : (unknown : Unknown) (bytes : List ℕ) (recording : Sampled) → reading unknown bytes ≡ Ok recording → (sample signal bit : ℕ) → unknown_at recording sample signal bit ≡ unknown_in bytes sample signal bit
unknown-of-text unknown bytes recording read sample signal bit = sym (ap (λ (s : Sampled). unknown_at s sample signal bit) (says unknown bytes recording read))

known-letter : (one zero under over : Bool) → not (one || zero) ≡ false → (one || (under && not (one || zero))) ≡ (one || (over && not (one || zero)))
known-letter true zero under over known = refl
known-letter false true true true known = refl
known-letter false true true false known = refl
known-letter false true false true known = refl
known-letter false true false false known = refl
known-letter false false under over known = absurd (let wrong : true ≡ false = known in cc)

known-bit : (value : Option (List ℕ)) (under over : Unknown) (bit : ℕ) → is_unknown_of value bit ≡ false → bit_of under value bit ≡ bit_of over value bit
known-bit None under over bit known = absurd (let wrong : true ≡ false = known in cc)
known-bit (Some value) under over bit known = known-letter (says_one (letter_of value bit)) (says_zero (letter_of value bit)) (is_one_under under) (is_one_under over) known

pub known-reads : (other : Unknown) (recording : Sampled) (sample signal bit : ℕ) → unknown_at recording sample signal bit ≡ false → bit_at (with recording other) sample signal bit ≡ bit_at recording sample signal bit
known-reads other recording sample signal bit known = known-bit (value_in recording sample signal) other recording.unknown bit known

unknown-letter : (one zero under : Bool) → not (one || zero) ≡ true → (one || (under && not (one || zero))) ≡ under
unknown-letter true zero under unknown = absurd (let wrong : false ≡ true = unknown in cc)
unknown-letter false true under unknown = absurd (let wrong : false ≡ true = unknown in cc)
unknown-letter false false true unknown = refl
unknown-letter false false false unknown = refl

unknown-bit : (value : Option (List ℕ)) (under : Unknown) (bit : ℕ) → is_unknown_of value bit ≡ true → bit_of under value bit ≡ is_one_under under
unknown-bit None under bit unknown = refl
unknown-bit (Some value) under bit unknown = unknown-letter (says_one (letter_of value bit)) (says_zero (letter_of value bit)) (is_one_under under) unknown

pub unknown-reads : (recording : Sampled) (sample signal bit : ℕ) → unknown_at recording sample signal bit ≡ true → bit_at recording sample signal bit ≡ is_one_under recording.unknown
unknown-reads recording sample signal bit unknown = unknown-bit (value_in recording sample signal) recording.unknown bit unknown

-- values worked out by hand
pub are-read : AreRead
unfolding shape_of keyword_of
are-read = record {
  ones = refl;
  zeros = refl;
  known = refl;
  unknown = refl;
  under_zero = refl;
  under_one = refl;
  refused = refl;
  x = (refl, refl, refl);
  z = (refl, refl);
  one = (refl, refl);
  zero = (refl, refl);
  high = (refl, refl);
  low = (refl, refl);
  none = (refl, refl, refl);
  read = λ unknown. refl;
  block = (refl, refl);
  vector = (refl, refl);
  scalar = (refl, refl);
  missing = (refl, refl);
}
