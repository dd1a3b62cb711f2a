-- Which files of evidence `prove` is to leave.
use Rattle.std.specs.Prelude.{◌≡◌, ℕ, Bool, List, Option, codes, option_map}
use Rattle.command_line.specs.Clap.{is_true}
use Rattle.command_line.specs.Numbers.{IsGiven}
use Rattle.command_line.specs.declared.Evidence.{Evidence}
use Rattle.command_line.specs.declared.commands.TheConstants.{MOST_LOOPS}

-- the prefix of the names of certificates, and that of the names of recordings, where they are given; and how often the
-- loop of a run is written, and whether each bus is one vector in a recording
pub record Wanted : Type 0 where
  pub cert : Option (List ℕ)
  pub vcd : Option (List ℕ)
  pub loops : ℕ
  pub buses : Bool

-- the values of options say this: loops are from 1 to 16, and whether `--buses` is given
pub record IsEvidence (values : List ℕ → Option (List ℕ)) (wanted : Wanted) : Type 0 where
  pub cert : values (codes "cert") ≡ wanted.cert
  pub vcd : values (codes "vcd") ≡ wanted.vcd
  pub loops : IsGiven 1 MOST_LOOPS (values (codes "loops")) wanted.loops
  pub buses : is_true (values (codes "buses")) ≡ wanted.buses

abbrev pub evidence_of : Evidence → Wanted
evidence_of evidence = record { cert = option_map (λ s. s.now) evidence.cert; vcd = option_map (λ s. s.now) evidence.vcd; loops = evidence.loops; buses = evidence.buses }
