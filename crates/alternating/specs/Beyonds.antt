-- What follows a word, as the program names it.
use Rattle.psl_tree.specs.Followed.{Past, Nothing, Tops, Bottoms}
use Rattle.alternating.specs.declared.step.Beyond.{Beyond}
use Rattle.alternating.specs.declared.step.Beyond.TheVariants.{End, Top, Bottom}

abbrev pub past_of : Beyond → Past
past_of End = Nothing
past_of Top = Tops
past_of Bottom = Bottoms
