-- Finite words that something follows for ever: nothing, Top or Bottom.
use Rattle.std.specs.Prelude.{zero, suc, List, [], ◌∷◌, Option, None, Some}
use Rattle.psl_tree.specs.Trace.{Trace}
use Rattle.psl_tree.specs.declared.letter.Letter.{Letter}
use Rattle.psl_tree.specs.declared.letter.Letter.TheVariants.{Top, Bottom}

-- what follows a finite word for ever
pub data Past : Type 0 where
  Nothing : Past
  Tops : Past
  Bottoms : Past

-- what stands at each place past the word
abbrev pub past_at : Past → Option Letter
past_at Nothing = None
past_at Tops = Some Top
past_at Bottoms = Some Bottom

-- Top and Bottom change places
abbrev pub dual_past : Past → Past
dual_past Nothing = Nothing
dual_past Tops = Bottoms
dual_past Bottoms = Tops

-- letters, and then what follows them
abbrev pub followed : List Letter → Past → Trace
followed [] past _ = past_at past
followed (letter ∷ _) _ zero = Some letter
followed (_ ∷ letters) past (suc k) = followed letters past k
