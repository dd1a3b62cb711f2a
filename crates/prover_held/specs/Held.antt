-- The run that begins with some valuations and then holds its inputs.
use Rattle.std.specs.Prelude.{◌≡◌, ◌-◌, Bool as Truth, List, ◌++◌, length, All}
use Rattle.netlist.specs.Design.{Design}
use Rattle.netlist.specs.Runs.{IsRun}
use Rattle.netlist.specs.Valuations.{values}
use Rattle.netlist.specs.declared.run.Run.{Run}
use Rattle.gates_frames.specs.Paths.{valuation_of}

-- the last of some valuations
abbrev pub last_of : List (List Truth) → List Truth
last_of path = valuation_of path (length path - 1)

-- a valuation has the inputs of another one
abbrev pub HasInputsOf : Design → List Truth → List Truth → Type 0
HasInputsOf design held valuation = values valuation design.inputs ≡ values held design.inputs

-- A run whose stem begins with a path, and in which each later valuation has the inputs of the path's last one. The
-- latches of each valuation follow from the one before, so all such runs go through the same valuations; and since there
-- are finitely many, some of them come again for ever.
pub record IsHeldRun (design : Design) (path : List (List Truth)) (run : Run) : Type 0 where
  pub is : IsRun design run
  pub rest : List (List Truth)
  pub begins : run.stem ≡ path ++ rest
  pub holds : All (HasInputsOf design (last_of path)) (rest ++ run.loop_part)
