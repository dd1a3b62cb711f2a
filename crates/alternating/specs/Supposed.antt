-- What merging knows of the obligations, and the classes that it supposes while it compares two of them.
use Rattle.std.specs.Prelude.{ℕ, Bool as Truth}
use Rattle.alternating_theory.specs.Merged.{class_in, supposed, is_like}
use Rattle.alternating_theory.specs.Obligations.{Obligation}
use Rattle.alternating_theory.specs.Trimmed.{renumbered_obligation}
use Rattle.alternating.specs.Views.{obligations_of_code}
use Rattle.alternating.specs.declared.merge.Known as known
use Rattle.alternating.specs.declared.merge.Supposed as code

-- the class of a number: what the later obligation is supposed to have, or the known one
abbrev pub class_of : code.Supposed → ℕ → ℕ
class_of held number = supposed (class_in held.classes.now) held.number held.class number

-- what an obligation asks, up to these classes
abbrev pub asked : code.Supposed → Obligation → Obligation
asked held obligation = renumbered_obligation (class_of held) obligation

-- an obligation asks what an earlier one asks, by the classes that are known
abbrev pub asks_same : known.Known → ℕ → ℕ → Truth
asks_same held first number = is_like (obligations_of_code held.obligations.now) (class_in held.classes.now) first number
