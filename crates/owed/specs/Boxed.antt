-- A formula of the program, in a box, which may be none.
use Rattle.std.specs.Prelude.{Option, None, Some, Box}
use Rattle.std.specs.declared.alloc.Global.{Global}
use Rattle.psl_tree.specs.Trees.{Formula, formula_of}
use Rattle.psl_tree.specs.declared.fl.Fl.{Fl}

abbrev pub formula_in : Option (Box Fl Global) → Option Formula
formula_in None = None
formula_in (Some box) = Some (formula_of box.value)
