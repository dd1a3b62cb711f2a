-- Texts that are one word each.
use Rattle.std.specs.Prelude.{◌≡◌, ℕ, ◌<◌, false, List, length, All}
use Rattle.netlist.specs.Design.{Design}
use Rattle.psl_base.specs.Bytes.{is_white}
use Rattle.trace.specs.Trace.{first_text}

-- a text that has bytes, and none of white space
pub record IsWord (text : List ℕ) : Type 0 where
  pub some : 0 < length text
  pub solid : All (λ byte. is_white byte ≡ false) text

-- the first name of each signal is one
abbrev pub HasWords : Design → Type 0
HasWords design = (signal : ℕ) → signal < design.signals → IsWord (first_text design.names signal)
