-- What is read of a flat netlist besides its parts.
use Rattle.std.specs.Prelude.{◌≡◌, ◌<◌, false, length, All}
use Rattle.psl_base.specs.Bytes.{is_white}
use Rattle.psl_tree.specs.declared.name.Name.{Name}

-- a name that has bytes, and none of white space
pub record IsPlain (name : Name) : Type 0 where
  pub some : 0 < length name.text
  pub plain : All (λ byte. is_white byte ≡ false) name.text
