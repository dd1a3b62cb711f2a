-- What the signals of a netlist are at one moment, at the first one, and from one to the next.
use Rattle.std.specs.Prelude.{◌≡◌, ℕ, Bool as Truth, true, false, not, ◌&&◌, cond, List, ◌∷◌, map, length, slice_index_or, All}
use Rattle.std.specs.List.{list_any}
use Rattle.netlist.specs.declared.latch.Init.{Init}
use Rattle.netlist.specs.declared.latch.Init.TheVariants as inits
use Rattle.netlist.specs.declared.latch.Latch.{Latch}
use Rattle.netlist.specs.declared.rows.Mark.{Mark}
use Rattle.netlist.specs.declared.rows.Mark.TheVariants as marks
use Rattle.netlist.specs.declared.table.Table.{Table}
use Rattle.netlist.specs.Design.{Design, free_of}

-- the value of a signal in a valuation, which has a value for each signal in the order of their numbers
abbrev pub bit : List Truth → ℕ → Truth
bit valuation signal = slice_index_or valuation signal false

-- the values of signals
abbrev pub values : List Truth → List ℕ → List Truth
values valuation signals = map (bit valuation) signals

-- whether a value is what a mark asks
abbrev pub fits_mark : Mark → Truth → Truth
fits_mark marks.Zero value = not value
fits_mark marks.One value = value
fits_mark marks.Any value = true

-- whether values are what the marks of a row ask
abbrev pub fits_row : List Mark → List Truth → Truth
fits_row (mark ∷ marks) (value ∷ values) = fits_mark mark value && fits_row marks values
fits_row _ _ = true

-- what a table says of the values of its inputs (Berkeley Logic Interchange Format, logic gates)
abbrev pub output_by : Table → List Truth → Truth
output_by table values = cond (list_any (λ row. fits_row row values) table.rows) table.value (not table.value)

-- what a table says of a valuation
abbrev pub output_in : List Truth → Table → Truth
output_in valuation table = output_by table (values valuation table.inputs)

-- the outputs of tables have the values that their rows say
abbrev pub Agree : List Table → List Truth → Type 0
Agree tables valuation = All (λ table. bit valuation table.output ≡ output_in valuation table) tables

-- each signal has a value, and the output of each table has the one that its rows say
pub record IsValuation (design : Design) (valuation : List Truth) : Type 0 where
  pub size : length valuation ≡ design.signals
  pub tables : Agree design.tables valuation

-- a valuation in which the signals that no table drives have these values
pub record IsFilled (design : Design) (free valuation : List Truth) : Type 0 where
  pub is : IsValuation design valuation
  pub has : values valuation (free_of design) ≡ free

-- a first value that a latch may have
abbrev pub MayBegin : Init → Truth → Type 0
MayBegin inits.Zero value = value ≡ false
MayBegin inits.One value = value ≡ true
MayBegin inits.Free value = Unit {0}

-- the outputs of latches are first values that they may have
abbrev pub Begin : List Latch → List Truth → Type 0
Begin latches valuation = All (λ latch. MayBegin latch.init (bit valuation latch.output)) latches

-- a valuation with which a run may begin: the latches have their first values
pub record IsInitial (design : Design) (first : List Truth) : Type 0 where
  pub valuation : IsValuation design first
  pub latches : Begin design.latches first

-- the output of each latch takes the value that its input had
abbrev pub Move : List Latch → List Truth → List Truth → Type 0
Move latches earlier later = All (λ latch. bit later latch.output ≡ bit earlier latch.input) latches

-- two valuations of which the second may follow the first: all latches move at once, and the inputs are free
pub record IsStep (design : Design) (earlier later : List Truth) : Type 0 where
  pub before : IsValuation design earlier
  pub after : IsValuation design later
  pub latches : Move design.latches earlier later
