-- How many bits a path stands for.
use Rattle.std.specs.Prelude.{ℕ, length}
use Rattle.psl_layer_theory.specs.declared.found.Reference.{Reference}
use Rattle.psl_layer_theory.specs.declared.found.Reference.TheVariants as references

-- how many there are; a path that stands for none counts as one
abbrev pub bits_in : Reference → ℕ
bits_in references.Nothing = 1
bits_in references.Several = 1
bits_in (references.Bits bits) = length bits
