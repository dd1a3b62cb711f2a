-- What a netlist that is read has to do with the hierarchy that its text says.
use Rattle.std.specs.Prelude.{◌≡◌, ℕ, List}
use Rattle.netlist.specs.Design.{Design}
use Rattle.blif_flat.specs.Flat.{Models, flat_design}
use Rattle.blif_flat.specs.Trees.{IsUnfolded}
use Rattle.blif_linking.specs.Linked.{IsHierarchy}
use Rattle.blif_laws.specs.Named.{HasAllNames, ListsAllInstances, ListsAllNames}
use Rattle.blif_laws.specs.Runs.{HasRuns}

-- it is the flat netlist of the models of its text: its valuations and runs are those of the hierarchy, whose instance
-- trees say of all names of each instance, and it lists all names of all instances
pub record IsOfHierarchy (text : List ℕ) (design : Design) : Type 0 where
  pub models : Models
  pub texts : List (List (List ℕ))
  pub fits : IsHierarchy text models texts
  pub is : design ≡ flat_design models texts
  pub unfolds : IsUnfolded models texts
  pub runs : HasRuns models texts
  pub named : HasAllNames models
  pub names : ListsAllNames models texts
  pub instances : ListsAllInstances models
