-- What a model offers to those who place it, by the numbers of its names.
use Rattle.std.specs.Prelude.{ℕ, Bool, true, false, cond, List, [], ◌∷◌, map, Option, None, Some}
use Rattle.blif_flattening.specs.declared.model.Item.{Item}
use Rattle.blif_flattening.specs.declared.model.Item.TheVariants.{Own, Place}
use Rattle.blif_model.specs.declared.file.FileModel.{FileModel}
use Rattle.blif_model.specs.declared.line.LineKind.{LineKind}
use Rattle.blif_model.specs.declared.line.LineKind.TheVariants as kinds
use Rattle.blif_model.specs.declared.line.ModelLine.{ModelLine}
use Rattle.blif_model.specs.Scanning.{word_of}
use Rattle.blif_linking.specs.declared.interface.Interface.{Interface}
use Rattle.blif_linking.specs.Interfaces.{Role, Input, Output, Clock, is_one_of, texts_of}
use Rattle.blif_linking.specs.Sets.{gathered, text_at}

-- the numbers that an item lists as inputs, or as outputs
abbrev pub listed_by : Bool → LineKind → List ℕ → List ℕ
listed_by inputs kinds.Inputs numbers = cond inputs numbers []
listed_by inputs kinds.Outputs numbers = cond inputs [] numbers
listed_by inputs (kinds.Latch init) numbers = []
listed_by inputs (kinds.Table rows) numbers = []

abbrev pub listed_at : Bool → Item ModelLine → List ℕ
listed_at inputs (Own line) = listed_by inputs line.kind line.mentions
listed_at inputs (Place placement) = []

-- names with those behind them that items list
abbrev pub listed_in : List (List ℕ) → Bool → List (List ℕ) → List (Item ModelLine) → List (List ℕ)
listed_in names inputs found [] = found
listed_in names inputs found (item ∷ items) =
    listed_in names inputs (gathered found (map (text_at names) (listed_at inputs item))) items

-- what a model offers
abbrev pub interface_in : List ℕ → FileModel → Interface
interface_in whole model = record {
  inputs = listed_in model.own.text.names true [] model.own.text.model.items;
  outputs = listed_in model.own.text.names false [] model.own.text.model.items;
  clocks = gathered [] (texts_of (map (word_of whole) model.clocks));
}

-- what a name is
abbrev pub role_in : Interface → List ℕ → Option Role
role_in interface name =
    cond (is_one_of interface.inputs name) (Some Input)
    (cond (is_one_of interface.outputs name) (Some Output)
    (cond (is_one_of interface.clocks name) (Some Clock) None))
