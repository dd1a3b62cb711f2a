-- The three views of a finite word. Their names are this project's.
use Rattle.std.specs.Prelude.{List, [], ◌∷◌}
use Rattle.psl_tree.specs.declared.letter.Letter.{Letter}
use Rattle.psl_tree.specs.declared.letter.Letter.TheVariants.{Top, Bottom}
use Rattle.psl_tree.specs.declared.letter.Word.{Word}

-- the letters, followed for ever by a letter on which every Boolean holds
abbrev pub weak : List Letter → Word
weak letters = record { stem = letters; looped = Top ∷ [] }

-- the letters alone
abbrev pub neutral : List Letter → Word
neutral letters = record { stem = letters; looped = [] }

-- the letters, followed for ever by a letter on which no Boolean holds
abbrev pub strong : List Letter → Word
strong letters = record { stem = letters; looped = Bottom ∷ [] }
