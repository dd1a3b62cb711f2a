-- What the spans of words stand for.
use Rattle.std.specs.Prelude.{ℕ, Bool, true, false, ◌||◌, cond, List, [], ◌∷◌, ◌++◌, map, Option, None, Some, IfSome}
use Rattle.std.specs.Option.{option_map}
use Rattle.netlist.specs.declared.latch.Init.{Init}
use Rattle.netlist.specs.declared.rows.Mark.{Mark}
use Rattle.blif_model.specs.declared.pieces.Span.{Span}
use Rattle.blif_model.specs.declared.shapes.Clocking.{Clocking}
use Rattle.blif_model.specs.declared.shapes.LatchWords.{LatchWords}
use Rattle.blif_model.specs.Models.{Mention, mention_as}
use Rattle.blif_model.specs.Scanning.{IsWithin, word_of}
use Rattle.blif_model.specs.Shapes as shapes
use Rattle.blif_model.specs.Shapes.{LatchParts, Row, is_edge, is_level}

abbrev pub clocking_in : List ℕ → Clocking → shapes.Clocking
clocking_in whole clocking = record { kind = word_of whole clocking.kind; control = word_of whole clocking.control }

abbrev pub latch_in : List ℕ → LatchWords → LatchParts
latch_in whole latch = record {
  input = word_of whole latch.input;
  output = word_of whole latch.output;
  clocking = option_map (clocking_in whole) latch.clocking;
  init = latch.init;
}

-- a latch without a type and a control, where it has a first value
abbrev pub plain_latch : Span → Span → Option Init → Option LatchWords
plain_latch input output None = None
plain_latch input output (Some init) = Some (record { input = input; output = output; clocking = None; init = init })

abbrev pub with_clocking : Span → Span → Option LatchWords → Option LatchWords
with_clocking kind control None = None
with_clocking kind control (Some latch) = Some (record latch { clocking = Some (record { kind = kind; control = control }) })

-- the latch with a type and a control, where the type is one that there is
abbrev pub timed_latch : List ℕ → Span → Span → Option LatchWords → Option LatchWords
timed_latch text kind control latch = cond (is_edge text || is_level text) (with_clocking kind control latch) None

-- the mention of a word that a line drives, or uses
abbrev pub mention_in : List ℕ → Bool → Span → Mention
mention_in whole drives word = mention_as drives (word_of whole word)

-- the mentions of a table: its inputs, and behind them its output
abbrev pub table_mentions : List ℕ → List Span → Span → List Mention
table_mentions whole inputs output =
    map (mention_as false) (map (word_of whole) inputs) ++ mention_in whole true output ∷ []

-- a row by its marks and its output
abbrev pub row_with : List ℕ → List Mark → Span → Row
row_with whole marks output = record { marks = marks; output = word_of whole output }

-- the spans of a latch are of the text
abbrev pub IsClockingWithin : List ℕ → Clocking → Type 0
IsClockingWithin whole clocking = IsWithin whole clocking.kind × IsWithin whole clocking.control

abbrev pub IsLatchWithin : List ℕ → LatchWords → Type 0
IsLatchWithin whole latch =
    IsWithin whole latch.input × IsWithin whole latch.output × IfSome latch.clocking (IsClockingWithin whole)
