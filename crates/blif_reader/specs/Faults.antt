-- The first fault of the models of a text, in whose lines there is none: one rule after another, each of which is asked
-- where those before it find nothing (Berkeley Logic Interchange Format, models and model references).
use Rattle.std.specs.Prelude.{◌≡◌, ℕ, List, [], map, Option, None, Some, slice_index, slice_index_or}
use Rattle.std.specs.Option.{option_map}
use Rattle.psl_base.specs.Places.{place_at}
use Rattle.psl_base.specs.Tokens.{PlacedToken}
use Rattle.psl_base.specs.declared.place.Place.{Place}
use Rattle.netlist_order.specs.Graph.{IsFirstOnCycle}
use Rattle.netlist_order.specs.TableGraph.{table_graph}
use Rattle.blif_flattening.specs.Hierarchy.{flat_lines}
use Rattle.blif_hierarchy.specs.declared.place.PlacementAt.{PlacementAt}
use Rattle.blif_hierarchy.specs.Depth.{IsTooDeep}
use Rattle.blif_hierarchy.specs.First.{Finds}
use Rattle.blif_hierarchy.specs.Order.{IsRecursive}
use Rattle.blif_hierarchy.specs.declared.cost.Scale.{Scale}
use Rattle.blif_hierarchy.specs.Sums.{FindsLong, FindsPast}
use Rattle.blif_flat.specs.Flat.{Models, flat_design, flat_outputs}
use Rattle.blif_model.specs.declared.fault.BlifFault.{BlifFault}
use Rattle.blif_model.specs.declared.fault.BlifFault.TheVariants.{UnknownModel, BadConnection, ModelRecursion, TooDeep, DrivenBySubckt, Undriven, TooLarge, CombinationalCycle}
use Rattle.blif_model.specs.Files.{Part, Placing}
use Rattle.blif_model.specs.Models.{Model}
use Rattle.blif_linking.specs.Linked.{linked, linked_texts}
use Rattle.blif_linking.specs.Links.{title_in}
use Rattle.blif_linking.specs.Names.{Parts, first_bad, first_driven, first_undriven, first_unknown}
use Rattle.blif_linking.specs.Sizes.{scale_of}

-- where a rule finds something, it is at fault there; else the rest is asked
abbrev pub Asks : (Place → BlifFault) → Option Place → (BlifFault → Type 0) → BlifFault → Type 0
Asks name (Some place) rest fault = fault ≡ name place
Asks name None rest fault = rest fault

abbrev pub place_in : Option PlacedToken → Option Place
place_in word = option_map (λ (found : PlacedToken). found.place) word

-- the same of a rule by what it may find
pub record IsSought {Thing : Type 0} (name : Place → BlifFault) (Seeks : Option Thing → Type 0) (place : Thing → Place)
    (Rest : BlifFault → Type 0) (fault : BlifFault) : Type 0 where
  pub found : Option Thing
  pub sought : Seeks found
  pub is : Asks name (option_map place found) Rest fault

-- how many bytes of the text stand before the name of the model in each `.subckt` of each model, or before the `.subckt`
-- where it has none
abbrev pub title_by : PlacedToken → Option PlacedToken → PlacedToken
title_by head None = head
title_by head (Some title) = title

abbrev pub title_at : Placing → ℕ
title_at placing = (title_by placing.head (title_in placing.words)).at

abbrev pub titles_of : {Own : Type 0} → Part Own → List ℕ
titles_of part = map title_at part.placings

abbrev pub titles_in : Parts → List (List ℕ)
titles_in parts = map (titles_of {Own = Model}) parts

-- the place of that of a placement
abbrev pub title_place : List ℕ → List (List ℕ) → PlacementAt → Place
title_place text titles at = place_at text (slice_index (slice_index_or titles at.model []) at.placement)

abbrev pub in_top : ℕ → PlacementAt
in_top k = record { model = 0; placement = k }

-- CombinationalCycle: the first table in flat order that depends on itself, at the name of its output
pub record IsCycleFault (text : List ℕ) (parts : Parts) (fault : BlifFault) : Type 0 where
  pub table : ℕ
  pub first : IsFirstOnCycle (table_graph (flat_design (linked parts) (linked_texts parts)).tables) table
  pub is : fault ≡ CombinationalCycle (place_at text (slice_index (flat_outputs (flat_lines (linked parts))) table))

-- TooLarge: the first `.subckt` of the top with which there are too many signals, or too many instances, or their lines and
-- names take too much
abbrev pub FromLarge : List ℕ → Parts → BlifFault → Type 0
FromLarge text parts =
    IsSought TooLarge (FindsPast (linked parts) (scale_of text parts)) (λ k. title_place text (titles_in parts) (in_top k))
    (IsCycleFault text parts)

-- Undriven: a name that is used, and that nothing drives
abbrev pub FromUndriven : List ℕ → Parts → BlifFault → Type 0
FromUndriven text parts = Asks Undriven (place_in (first_undriven parts)) (FromLarge text parts)

-- DrivenBySubckt: a connection of an output drives a name that is driven already
abbrev pub FromDriven : List ℕ → Parts → BlifFault → Type 0
FromDriven text parts = Asks DrivenBySubckt (place_in (first_driven parts)) (FromUndriven text parts)

-- TooDeep: a model is placed that is too deep
abbrev pub FromDeep : List ℕ → Parts → BlifFault → Type 0
FromDeep text parts =
    IsSought TooDeep (Finds (IsTooDeep (linked parts))) (title_place text (titles_in parts)) (FromDriven text parts)

-- ModelRecursion: a model is placed that is, or contains, the one in which it is placed
abbrev pub FromRecursion : List ℕ → Parts → BlifFault → Type 0
FromRecursion text parts =
    IsSought ModelRecursion (Finds (IsRecursive (linked parts))) (title_place text (titles_in parts)) (FromDeep text parts)

-- BadConnection: connections do not fit the model that is placed
abbrev pub FromBad : List ℕ → Parts → BlifFault → Type 0
FromBad text parts = Asks BadConnection (place_in (first_bad parts)) (FromRecursion text parts)

-- no model contains itself, and none is too deep: sums over placements are of instances that there would be
pub record AreFinite (models : Models) : Type 0 where
  pub finite : Finds (IsRecursive models) None
  pub shallow : Finds (IsTooDeep models) None

-- the first placement of the top with which the lines of all instances are too long, where models are such; where they are
-- not, there is none
abbrev pub SeeksLong : Models → Scale → Option ℕ → Type 0
SeeksLong models scale None = AreFinite models → FindsLong models scale None
SeeksLong models scale (Some k) = AreFinite models × FindsLong models scale (Some k)

-- TooLarge: the first `.subckt` of the top with which the lines of all instances have more bytes than a file may have. This is
-- asked before connections are looked at, so that a text whose instances are too long is refused for the work of reading it
abbrev pub FromLong : List ℕ → Parts → BlifFault → Type 0
FromLong text parts =
    IsSought TooLarge (SeeksLong (linked parts) (scale_of text parts)) (λ k. title_place text (titles_in parts) (in_top k))
    (FromBad text parts)

-- UnknownModel: there is no such model. The first fault of all
abbrev pub IsModelsFault : List ℕ → Parts → BlifFault → Type 0
IsModelsFault text parts = Asks UnknownModel (place_in (first_unknown parts)) (FromLong text parts)
