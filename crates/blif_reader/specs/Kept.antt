-- What is kept of a text before its models are linked, and what is found of them, each as the definitions say.
use Rattle.std.specs.Prelude.{◌≡◌, ℕ, List, [], ◌∷◌, ◌++◌, length, map, Option, None, Some, Ok}
use Rattle.std.specs.Option.{option_map}
use Rattle.psl_base.specs.Places.{file_limit}
use Rattle.psl_base.specs.declared.place.Place.{Place}
use Rattle.blif_flattening.specs.Hierarchy.{flat_lines}
use Rattle.blif_flat.specs.Flat.{flat_design, flat_outputs, Models}
use Rattle.blif_flat.specs.Inputs.{design_in}
use Rattle.blif_flat.specs.declared.flat.FlatNetlist.{FlatNetlist}
use Rattle.blif_hierarchy.specs.declared.cost.Scale.{Scale}
use Rattle.blif_hierarchy.specs.Depth.{IsTooDeep}
use Rattle.blif_hierarchy.specs.First.{Finds}
use Rattle.blif_hierarchy.specs.Order.{IsRecursive}
use Rattle.blif_hierarchy.specs.Sums.{FindsLong}
use Rattle.blif_hierarchy.specs.declared.place.PlacementAt.{PlacementAt}
use Rattle.blif_model.specs.declared.file.FileModel.{FileModel}
use Rattle.blif_model.specs.declared.file.FileText.{FileText}
use Rattle.blif_model.specs.declared.file.PlacementLine.{PlacementLine}
use Rattle.blif_model.specs.declared.pieces.Span.{Span}
use Rattle.blif_model.specs.Files.{models_of}
use Rattle.blif_model.specs.Rules.{signal_limit}
use Rattle.blif_model.specs.Scanning.{word_of}
use Rattle.blif_linking.specs.Bad.{IsReadAs}
use Rattle.blif_linking.specs.Linked.{linked, linked_texts, IsHierarchy}
use Rattle.blif_linking.specs.Names.{Parts, first_bad, first_driven, first_undriven, first_unknown}
use Rattle.blif_linking.specs.Sizes.{scale_of}
use Rattle.blif_linking.specs.declared.linking.LinkedModels.{LinkedModels}
use Rattle.blif_reader.specs.declared.kept.Kept.{Kept}
use Rattle.blif_reader.specs.declared.shape.Shape.{Shape}
use Rattle.blif_reader.specs.Faults.{SeeksLong, place_in, titles_in}

-- the name of the model in a `.subckt`, or the `.subckt` where it has none
abbrev pub first_span : Span → List Span → Span
first_span head [] = head
first_span head (word ∷ words) = word

abbrev pub title_span : PlacementLine → Span
title_span line = first_span line.head line.words

abbrev pub line_titles : List PlacementLine → List ℕ
line_titles lines = map (λ (line : PlacementLine). (title_span line).at) lines

abbrev pub model_titles : FileModel → List ℕ
model_titles model = line_titles model.placements

-- where the lines of models begin, and those of the last one end; how large their flat netlist may be
abbrev pub start_at : Option Span → ℕ
start_at None = 0
start_at (Some title) = title.at

abbrev pub starts_in : ℕ → List FileModel → List ℕ
starts_in size models = map (λ (model : FileModel). start_at model.title) models ++ size ∷ []

abbrev pub scale_in : List ℕ → List FileModel → Scale
scale_in whole models = record { count = signal_limit; size = file_limit; starts = starts_in (length whole) models }

-- the place of a word
abbrev pub span_place : List ℕ → Option Span → Option Place
span_place whole span = option_map (λ (word : Span). (word_of whole word).place) span

-- a text is held of which no model is missing
pub record IsKnown (whole : List ℕ) (text : FileText) : Type 0 where
  pub parts : Parts
  pub read : IsReadAs whole text parts
  pub known : first_unknown parts ≡ None

-- how long lines are is asked where none contains itself and none is too deep
abbrev pub LooksLong : Models → Scale → Option PlacementAt → Option PlacementAt → Option ℕ → Type 0
LooksLong models scale None None found = FindsLong models scale found
LooksLong models scale None (Some at) found = found ≡ None
LooksLong models scale (Some at) deep found = found ≡ None

-- what is known of these models by what they place
pub record IsShape (whole : List ℕ) (parts : Parts) (shape : Shape) : Type 0 where
  pub titles_are : shape.titles ≡ titles_in parts
  pub scale_is : shape.scale ≡ scale_of whole parts
  pub recursive_is : Finds (IsRecursive (linked parts)) shape.recursive
  pub deep_is : Finds (IsTooDeep (linked parts)) shape.deep
  pub long_is : SeeksLong (linked parts) (scale_of whole parts) shape.long

-- what is kept is of these models
pub record IsKept (whole : List ℕ) (parts : Parts) (kept : Kept) : Type 0 where
  pub shape_is : IsShape whole parts kept.shape
  pub driven_is : span_place whole kept.driven ≡ place_in (first_driven parts)
  pub undriven_is : span_place whole kept.undriven ≡ place_in (first_undriven parts)

-- models of a text by numbers, of which none is missing, whose lines are not too long together, and whose connections are
-- in form
pub record IsLinked (whole : List ℕ) (all : LinkedModels) (kept : Kept) : Type 0 where
  pub parts : Parts
  pub said : models_of whole ≡ Ok parts
  pub known : first_unknown parts ≡ None
  pub short : SeeksLong (linked parts) (scale_of whole parts) None
  pub connected : first_bad parts ≡ None
  pub models_are : all.models ≡ linked parts
  pub texts_are : all.texts ≡ linked_texts parts
  pub keeps : IsKept whole parts kept

-- the flat netlist of models of a text that fit together
pub record IsFlat (whole : List ℕ) (flat : FlatNetlist) : Type 0 where
  pub models : Models
  pub texts : List (List (List ℕ))
  pub fits : IsHierarchy whole models texts
  pub design : design_in flat ≡ flat_design models texts
  pub outputs : flat.parts.outputs ≡ flat_outputs (flat_lines models)
