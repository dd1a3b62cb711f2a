-- What the text of a netlist says: a netlist, or its first fault.
use Rattle.std.specs.Prelude.{◌≡◌, ℕ, ◌⊎◌, List, Result, Ok, Err}
use Rattle.netlist.specs.Design.{Design}
use Rattle.netlist_order.specs.TableGraph.{table_graph, IsAcyclic}
use Rattle.blif_model.specs.declared.fault.BlifFault.{BlifFault}
use Rattle.blif_model.specs.Files.{models_of}
use Rattle.blif_flat.specs.Flat.{Models, flat_design}
use Rattle.blif_linking.specs.Linked.{IsHierarchy}
use Rattle.blif_linking.specs.Names.{Parts}
use Rattle.blif_reader.specs.Faults.{IsModelsFault}

-- a text says models that fit together, and this is their flat netlist, none of whose tables depends on itself
pub record IsNetlist (text : List ℕ) (design : Design) : Type 0 where
  pub models : Models
  pub texts : List (List (List ℕ))
  pub fits : IsHierarchy text models texts
  pub is : design ≡ flat_design models texts
  pub acyclic : IsAcyclic (table_graph design.tables)

-- the lines of a text have no fault, and this is the first fault of its models
pub record IsWholeFault (text : List ℕ) (fault : BlifFault) : Type 0 where
  pub parts : Parts
  pub said : models_of text ≡ Ok parts
  pub first : IsModelsFault text parts fault

-- what a text says: its netlist, or its fault. Models are looked at as a whole where no line has a fault
abbrev pub IsReading : List ℕ → Result Design BlifFault → Type 0
IsReading text (Ok design) = IsNetlist text design
IsReading text (Err fault) = (models_of text ≡ Err fault) ⊎ IsWholeFault text fault
