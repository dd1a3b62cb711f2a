-- The letter that an assignment makes of the literals of two frames, and the one of valuations that these show.
use Rattle.std.specs.Prelude.{ℕ, ℤ, Bool as Truth, List, map, Option, None, Some, IsTrue}
use Rattle.std.specs.Option.{option_map, IfSome}
use Rattle.clauses.specs.Literals.{clause_within}
use Rattle.clauses.specs.Models.{Assignment, is_true}
use Rattle.psl_tree.specs.declared.letter.Letter.{Letter}
use Rattle.psl_tree.specs.declared.name.Name.{Name}
use Rattle.gates_frames.specs.Frames.{Cone}
use Rattle.gates_frames.specs.Paths.{Shows}
use Rattle.run_terms.specs.Letters.{letter_after}

-- the letter of the values that the literals of a frame have, after those of the frame before
abbrev pub letter_of : List Name → Assignment → Option (List ℤ) → List ℤ → Letter
letter_of names values before now =
    letter_after names (option_map (map (is_true values)) before) (map (is_true values) now)

-- the literals of a frame and of the one before are of so many variables
pub record FramesWithin (variables : ℕ) (earlier : Option (List ℤ)) (literals : List ℤ) : Type 0 where
  pub before : IfSome earlier (λ others. IsTrue (clause_within variables others))
  pub now : IsTrue (clause_within variables literals)

-- a frame before shows a valuation before, or there is neither
abbrev pub ShowsBefore : ℕ → Cone → Assignment → Option (List ℤ) → Option (List Truth) → Type 0
ShowsBefore given cone values None None = Unit {0}
ShowsBefore given cone values None (Some valuation) = ⊥
ShowsBefore given cone values (Some literals) None = ⊥
ShowsBefore given cone values (Some literals) (Some valuation) = Shows given cone values literals valuation
