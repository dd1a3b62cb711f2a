-- The netlist of a hierarchy of models: what the flat lines say, and the names of all instances.
use Rattle.std.specs.Prelude.{◌≡◌, ℕ, suc, ◌+◌, ◌≤◌, cond, List, [], ◌∷◌, ◌++◌, length, map, decimal, slice_index_or}
use Rattle.std.specs.List.{flat_map}
use Rattle.psl_tree.specs.declared.name.Name.{Name}
use Rattle.blif_flattening.specs.declared.model.Item.TheVariants.{Own}
use Rattle.blif_flattening.specs.declared.model.Model.{Model}
use Rattle.blif_flattening.specs.Hierarchy.{Path, Placed, items_of, model_at, owner, flat_lines, mentioned_by}
use Rattle.blif_flattening.specs.Instances.{names_of, IsNamed}
use Rattle.blif_flattening.specs.Listing.{instances}
use Rattle.blif_flattening.specs.Members.{Among}
use Rattle.blif_flattening.specs.Numbers.{is_among, number, signals}
use Rattle.blif_flattening.specs.Trees.{IsWhole}
use Rattle.netlist.specs.declared.latch.Latch.{Latch}
use Rattle.netlist.specs.declared.table.Table.{Table}
use Rattle.netlist.specs.Design.{Design}
use Rattle.blif_model.specs.declared.line.ModelLine.{ModelLine}
use Rattle.blif_hierarchy.specs.Drivers.{inputs_in, IsDriven}
use Rattle.blif_hierarchy.specs.Sums.{signal_count}
use Rattle.blif_flat.specs.Lines.{latches_by, tables_by, outputs_by, mentions_of, inputs_of, drives_of, IsFormed}

abbrev pub Models : Type 0
Models = List (Model ModelLine)

-- the number of the signal that a name of an instance is
abbrev pub signal_of : Models → Path → ℕ → ℕ
signal_of models path name = number mentions_of models (owner models path name)

-- the signals that a line of an instance mentions
abbrev pub numbers_of : Models → Placed ModelLine → List ℕ
numbers_of models placed = map (number mentions_of models) (mentioned_by mentions_of models placed)

-- the inputs of the top, and the latches and tables of all instances in flat order
abbrev pub flat_inputs : Models → List ℕ
flat_inputs models = map (signal_of models []) (inputs_in inputs_of (items_of models 0))

abbrev pub flat_latches : Models → List (Placed ModelLine) → List Latch
flat_latches models lines = flat_map (λ placed. latches_by placed.1.kind (numbers_of models placed)) lines

abbrev pub flat_tables : Models → List (Placed ModelLine) → List Table
flat_tables models lines = flat_map (λ placed. tables_by placed.1.kind (numbers_of models placed)) lines

-- and where the name of each table's output stands
abbrev pub flat_outputs : List (Placed ModelLine) → List ℕ
flat_outputs lines = flat_map (λ placed. outputs_by placed.1.kind) lines

-- the text of a name of an instance, which has the numbers of the placements that lead there before it: `u1.u2.n`
abbrev pub full_text : Path → List ℕ → List ℕ
full_text [] text = text
full_text (k ∷ path) text = full_text path (117 ∷ decimal (k + 1) ++ 46 ∷ text)

-- the names of an instance that are signals, from a number on
abbrev pub names_from : Models → Path → ℕ → List (List ℕ) → List Name
names_from models path name [] = []
names_from models path name (text ∷ texts) =
    cond (is_among (signals mentions_of models) (owner models path name))
    (record { text = full_text path text; signal = signal_of models path name; left = 0; right = 0 }
    ∷ names_from models path (suc name) texts)
    (names_from models path (suc name) texts)

-- the names of all instances, where each model has these texts as names
abbrev pub texts_at : List (List (List ℕ)) → ℕ → List (List ℕ)
texts_at texts model = slice_index_or texts model []

abbrev pub flat_names : Models → List (List (List ℕ)) → List Name
flat_names models texts =
    flat_map (λ path. names_from models path 0 (texts_at texts (model_at models path))) (instances models)

-- the netlist
unfoldable pub flat_design : Models → List (List (List ℕ)) → Design
flat_design models texts = record {
  signals = length (signals mentions_of models);
  inputs = flat_inputs models;
  latches = flat_latches models (flat_lines models);
  tables = flat_tables models (flat_lines models);
  names = flat_names models texts;
}

-- the lines of all models are in form
abbrev pub AreFormed : Models → ℕ → Type 0
AreFormed models most =
    (model : ℕ) (line : ModelLine) → Among (Own line) (items_of models model) → IsFormed most line.kind line.mentions

-- models of which each name has one driver, and a text, which are no deeper, larger or wider than is allowed
pub record AreSound (models : Models) (texts : List (List (List ℕ))) (limit most : ℕ) : Type 0 where
  pub whole : IsWhole mentions_of models
  pub named : IsNamed mentions_of models
  pub driven : IsDriven inputs_of drives_of models
  pub formed : AreFormed models most
  pub titled : (model : ℕ) → length (texts_at texts model) ≡ names_of models model
  pub few : signal_count models ≤ limit
