-- Words that `clap` reads as they stand.
use Rattle.std.specs.Prelude.{◌≢◌, ℕ, Bool, true, false, List, [], ◌∷◌, Option, None, Some, codes, decimal, slice_index}
use Rattle.command_line.specs.Evidences.{Wanted}
use Rattle.command_line.specs.Kinds.{word_of}
use Rattle.command_line.specs.declared.Limits.{Limits}
use Rattle.command_line.specs.declared.Unknown.{Unknown}

-- the word does not begin with a hyphen
abbrev pub IsPlain : List ℕ → Type 0
IsPlain word = slice_index word 0 ≢ 45

abbrev pub ArePlain : List ℕ → List ℕ → List ℕ → Type 0
ArePlain a b c = IsPlain a × IsPlain b × IsPlain c

-- `wave UNIT RECORDING --unknown WORD`
abbrev pub with_unknown : List ℕ → List ℕ → Unknown → List (List ℕ)
with_unknown unit recording unknown = codes "wave" ∷ unit ∷ recording ∷ codes "--unknown" ∷ word_of unknown ∷ []

-- `wave UNIT RECORDING --unknown WORD --where`
abbrev pub with_points : List ℕ → List ℕ → Unknown → List (List ℕ)
with_points unit recording unknown = codes "wave" ∷ unit ∷ recording ∷ codes "--unknown" ∷ word_of unknown ∷ codes "--where" ∷ []

-- the limits where no option is given
abbrev pub usual_limits : Limits
usual_limits = record { depth = 20; visits = 4; steps = 1000000; reach = false; covers = false; progress = false }

abbrev pub limits_of_depth : ℕ → Limits
limits_of_depth number = record usual_limits { depth = number }

-- the limits where `--reach` alone is given
abbrev pub limits_of_reach : Limits
limits_of_reach = record usual_limits { reach = true }

-- the limits where `--covers` alone is given
abbrev pub limits_of_covers : Limits
limits_of_covers = record usual_limits { covers = true }

-- the limits where `--progress` alone is given
abbrev pub limits_of_progress : Limits
limits_of_progress = record usual_limits { progress = true }

-- a flag in front of others, where it is to be given
abbrev pub flag_then : Bool → List ℕ → List (List ℕ) → List (List ℕ)
flag_then true name others = name ∷ others
flag_then false name others = others

-- the flags that limits have
abbrev pub flags : Bool → Bool → Bool → List (List ℕ)
flags reach covers progress =
    flag_then reach (codes "--reach") (flag_then covers (codes "--covers") (flag_then progress (codes "--progress") []))

-- `prove UNIT NETLIST --depth N`
abbrev pub with_depth : List ℕ → List ℕ → ℕ → List (List ℕ)
with_depth unit netlist number = codes "prove" ∷ unit ∷ netlist ∷ codes "--depth" ∷ decimal number ∷ []

-- `prove --cert PREFIX --steps N --visits N UNIT --depth N NETLIST`, and behind it `--reach`, `--covers` and `--progress` where
-- the limits have them
abbrev pub with_options : List ℕ → List ℕ → Limits → List ℕ → List (List ℕ)
with_options unit netlist limits prefix =
    codes "prove" ∷ codes "--cert" ∷ prefix ∷ codes "--steps" ∷ decimal limits.steps ∷ codes "--visits"
    ∷ decimal limits.visits ∷ unit ∷ codes "--depth" ∷ decimal limits.depth ∷ netlist
    ∷ flags limits.reach limits.covers limits.progress

-- certificates alone, where there is a prefix for them
abbrev pub certificates_in : Option (List ℕ) → Wanted
certificates_in cert = record { cert = cert; vcd = None; loops = 1; buses = false }

-- recordings alone
abbrev pub recordings_in : List ℕ → ℕ → Wanted
recordings_in vcd loops = record { cert = None; vcd = Some vcd; loops = loops; buses = false }

-- recordings in which each bus is one vector
abbrev pub vectors_in : List ℕ → Wanted
vectors_in vcd = record { cert = None; vcd = Some vcd; loops = 1; buses = true }

-- `prove UNIT NETLIST --vcd PREFIX --buses`
abbrev pub with_buses : List ℕ → List ℕ → List ℕ → List (List ℕ)
with_buses unit netlist prefix = codes "prove" ∷ unit ∷ netlist ∷ codes "--vcd" ∷ prefix ∷ codes "--buses" ∷ []

-- `prove UNIT NETLIST --vcd PREFIX --loops N`
abbrev pub with_recordings : List ℕ → List ℕ → List ℕ → ℕ → List (List ℕ)
with_recordings unit netlist prefix loops =
    codes "prove" ∷ unit ∷ netlist ∷ codes "--vcd" ∷ prefix ∷ codes "--loops" ∷ decimal loops ∷ []

-- `check UNIT NETLIST NUMBER CERTIFICATE`
abbrev pub to_check : List ℕ → List ℕ → ℕ → List ℕ → List (List ℕ)
to_check unit netlist number certificate =
    codes "check" ∷ unit ∷ netlist ∷ decimal number ∷ certificate ∷ []
