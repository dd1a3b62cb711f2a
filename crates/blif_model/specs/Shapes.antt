-- Whether the words of rows and latches are in form (Berkeley Logic Interchange Format, logic gates and generic latches).
use Rattle.std.specs.Prelude.{ℕ, ◌==◌, nat_lt, Bool, ◌&&◌, ◌||◌, cond, List, [], ◌∷◌, map, length, codes, Option, None, Some}
use Rattle.std.specs.List.{list_all}
use Rattle.std.specs.Str.{bytes_eq}
use Rattle.psl_base.specs.Tokens.{PlacedToken}
use Rattle.netlist.specs.declared.latch.Init.{Init}
use Rattle.netlist.specs.declared.latch.Init.TheVariants as inits
use Rattle.netlist.specs.declared.rows.Mark.{Mark}
use Rattle.netlist.specs.declared.rows.Mark.TheVariants as marks

-- `0` or `1`
abbrev pub is_bit : List ℕ → Bool
is_bit text = bytes_eq text (codes "0") || bytes_eq text (codes "1")

abbrev pub is_one : List ℕ → Bool
is_one text = bytes_eq text (codes "1")

-- so many bytes, each `0`, `1` or `-`
abbrev pub is_mark : ℕ → Bool
is_mark byte = byte == 48 || byte == 49 || byte == 45

abbrev pub are_marks : ℕ → List ℕ → Bool
are_marks width text = length text == width && list_all is_mark text

abbrev pub mark_of : ℕ → Mark
mark_of byte = cond (byte == 48) marks.Zero (cond (byte == 49) marks.One marks.Any)

-- the marks and the output of a row
pub record Row : Type 0 where
  pub marks : List Mark
  pub output : PlacedToken

-- the row that words are, in a table with so many inputs: marks for these in one word, and the output; without inputs
-- the output alone
abbrev pub row_of : ℕ → List PlacedToken → Option Row
row_of width (output ∷ []) = cond (width == 0 && is_bit output.text) (Some (record { marks = []; output = output })) None
row_of width (word ∷ output ∷ []) =
    cond (nat_lt 0 width && are_marks width word.text && is_bit output.text) (Some (record { marks = map mark_of word.text; output = output })) None
row_of width words = None

-- the first value of a latch: `0`, `1`, `2` or `3`
abbrev pub init_of : List ℕ → Option Init
init_of text =
    cond (bytes_eq text (codes "0")) (Some inits.Zero)
    (cond (bytes_eq text (codes "1")) (Some inits.One)
    (cond (bytes_eq text (codes "2") || bytes_eq text (codes "3")) (Some inits.Free) None))

-- a type that moves all latches at once, and the others
abbrev pub is_edge : List ℕ → Bool
is_edge text = bytes_eq text (codes "fe") || bytes_eq text (codes "re")

abbrev pub is_level : List ℕ → Bool
is_level text = bytes_eq text (codes "ah") || bytes_eq text (codes "al") || bytes_eq text (codes "as")

-- the type and the control of a latch
pub record Clocking : Type 0 where
  pub kind : PlacedToken
  pub control : PlacedToken

-- the parts of a `.latch`
pub record LatchParts : Type 0 where
  pub input : PlacedToken
  pub output : PlacedToken
  pub clocking : Option Clocking
  pub init : Init

abbrev pub with_init : PlacedToken → PlacedToken → Option Clocking → Option Init → Option LatchParts
with_init input output clocking None = None
with_init input output clocking (Some init) = Some (record { input = input; output = output; clocking = clocking; init = init })

abbrev pub with_clocking : PlacedToken → PlacedToken → PlacedToken → PlacedToken → Option Init → Option LatchParts
with_clocking input output kind control init =
    cond (is_edge kind.text || is_level kind.text) (with_init input output (Some (record { kind = kind; control = control })) init) None

-- the latch that words are: what it reads and drives, its type and control where it has them, and its first value where
-- it has one
abbrev pub latch_of : List PlacedToken → Option LatchParts
latch_of (input ∷ output ∷ []) = with_init input output None (Some inits.Free)
latch_of (input ∷ output ∷ init ∷ []) = with_init input output None (init_of init.text)
latch_of (input ∷ output ∷ kind ∷ control ∷ []) = with_clocking input output kind control (Some inits.Free)
latch_of (input ∷ output ∷ kind ∷ control ∷ init ∷ []) = with_clocking input output kind control (init_of init.text)
latch_of words = None
