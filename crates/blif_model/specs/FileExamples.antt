-- Worked examples of texts with several models.
use Rattle.std.specs.Prelude.{◌≡◌, ℕ, List, [], ◌∷◌, map, codes, Result, Ok, Err}
use Rattle.blif_model.specs.declared.fault.BlifFault.{BlifFault}
use Rattle.blif_model.specs.declared.fault.BlifFault.TheVariants.{BadModel, BadRow, SecondModel}
use Rattle.blif_model.specs.Examples.{IsRefused}
use Rattle.blif_model.specs.Files.{Part, models_of, title_text}
use Rattle.blif_model.specs.Models.{Model, names_of}

-- of each model its name, the names that its own lines mention, those in its `.clock`s, and of each `.subckt` the words
-- behind it and how many lines stand before it
pub record Shown : Type 0 where
  pub title : List (List ℕ)
  pub names : List (List ℕ)
  pub clocks : List (List ℕ)
  pub words : List (List (List ℕ))
  pub before : List ℕ

abbrev pub shown_part : Part Model → Shown
shown_part part = record {
  title = title_text part.title;
  names = names_of part.own.mentions;
  clocks = map (λ word. word.text) part.clocks;
  words = map (λ placing. map (λ word. word.text) placing.words) part.placings;
  before = map (λ placing. placing.before) part.placings;
}

abbrev pub shown_parts : Result (List (Part Model)) BlifFault → List Shown
shown_parts (Ok parts) = map shown_part parts
shown_parts (Err fault) = []

-- a model may stand before or behind where it is placed, an `.end` may be missing, and each model has names of its own
abbrev pub TwoModels : Type 0
TwoModels =
    shown_parts (models_of (codes ".model a\n.outputs y\n.subckt b q=y\n.clock c\n.model b\n.names q\n.end\n"))
    ≡ record {
      title = codes "a" ∷ [];
      names = codes "y" ∷ [];
      clocks = codes "c" ∷ [];
      words = (codes "b" ∷ codes "q=y" ∷ []) ∷ [];
      before = 1 ∷ [];
    }
    ∷ record { title = codes "b" ∷ []; names = codes "q" ∷ []; clocks = []; words = []; before = [] }
    ∷ []

-- the only model of a text may have no name, and has all of its lines
abbrev pub NoTitle : Type 0
NoTitle =
    shown_parts (models_of (codes ".inputs x\n.subckt\n"))
    ≡ record { title = []; names = codes "x" ∷ []; clocks = []; words = [] ∷ []; before = 1 ∷ [] } ∷ []

-- two models of one name, a line behind `.end` that begins no model, a further `.model` without a name, and a row whose
-- table a `.subckt` has closed
abbrev pub TwiceNamed : Type 0
TwiceNamed = IsRefused (codes ".model a\n.end\n.model b\n.model a\n") SecondModel 4 1

abbrev pub PlacedBehindTheEnd : Type 0
PlacedBehindTheEnd = IsRefused (codes ".model a\n.end\n.subckt a\n") SecondModel 3 1

abbrev pub FurtherWithoutName : Type 0
FurtherWithoutName = IsRefused (codes ".model a\n.end\n.model\n") BadModel 3 1

abbrev pub RowBehindPlacement : Type 0
RowBehindPlacement = IsRefused (codes ".model a\n.names q\n.subckt a\n1\n") BadRow 4 1
