-- Recordings compared with netlists by hand.
use Rattle.std.specs.Prelude.{◌≡◌, ℕ, zero, suc, Bool as Truth, true, false, List, [], ◌∷◌, map, None, Some, codes}
use Rattle.netlist.specs.Design.{Design}
use Rattle.netlist.specs.declared.latch.Init.TheVariants.{Zero, One, Free}
use Rattle.netlist.specs.declared.rows.Mark.TheVariants as marks
use Rattle.psl_sugar.specs.Vectors.{bit_of_signal, only_bit}
use Rattle.psl_tree.specs.declared.name.Name.{Name}
use Rattle.replay.specs.Leaving.{leaves}
use Rattle.replay.specs.Recorded.{first_missing, recorded}
use Rattle.trace.specs.Examples.{named_from}
use Rattle.vcd_reader.specs.Sampled.{Sampled}
use Rattle.vcd_reader.specs.declared.unknown.Unknown.TheVariants as unknowns
use Rattle.vcd_writer.specs.Lines.{letters_of}

-- a latch `q`, at first 0, and then what `n` was, which is the contrary of `q`
abbrev pub toggle : Design
toggle = record {
  signals = 2;
  inputs = [];
  latches = record { input = 0; output = 1; init = Zero } ∷ [];
  tables = record { inputs = 1 ∷ []; output = 0; rows = (marks.Zero ∷ []) ∷ []; value = true } ∷ [];
  names = named_from 0 (codes "n" ∷ codes "q" ∷ []);
}

-- a latch `r` that is 1 at first and stays so, a latch `s` that may be anything at first and then is the input `i`, and `y`,
-- which is `i` and `r`
abbrev pub gated : Design
gated = record {
  signals = 4;
  inputs = 3 ∷ [];
  latches = record { input = 1; output = 1; init = One } ∷ record { input = 3; output = 2; init = Free } ∷ [];
  tables = record { inputs = 3 ∷ 1 ∷ []; output = 0; rows = (marks.One ∷ marks.One ∷ []) ∷ []; value = true } ∷ [];
  names = named_from 0 (codes "y" ∷ codes "r" ∷ codes "s" ∷ codes "i" ∷ []);
}

-- a recording of signals of one bit, by their names and their values at each sample
abbrev pub recording_of : List (List ℕ) → List (List Truth) → Sampled
recording_of texts rows =
    record { names = named_from 0 texts; samples = map letters_of rows; times = []; places = []; unknown = unknowns.Zero }

-- the valuations of a list, and then the last one of it for ever
abbrev pub listed : List Truth → List (List Truth) → ℕ → List Truth
listed last [] place = last
listed last (valuation ∷ valuations) zero = valuation
listed last (valuation ∷ valuations) (suc place) = listed valuation valuations place

-- the valuations of `toggle`
abbrev pub low : List Truth
low = true ∷ false ∷ []

abbrev pub high : List Truth
high = false ∷ true ∷ []

-- `q` alone is recorded: it has to change
abbrev pub Toggles : Type 0
Toggles =
    (leaves toggle (recording_of (codes "q" ∷ []) ((false ∷ []) ∷ (true ∷ []) ∷ (false ∷ []) ∷ [])) (listed low (low ∷ high ∷ low ∷ [])) ≡ None)
    × (leaves toggle (recording_of (codes "q" ∷ []) ((false ∷ []) ∷ (false ∷ []) ∷ [])) (listed low (low ∷ low ∷ [])) ≡ Some (1, 1))
    × (leaves toggle (recording_of (codes "q" ∷ []) ((true ∷ []) ∷ [])) (listed low (high ∷ [])) ≡ Some (0, 1))

-- the names of a recording in a scope are found by their ends; a table's output that is recorded is compared, and of two
-- signals that leave at one sample the one with the lower number counts, here `n` before `q`
abbrev pub Compares : Type 0
Compares =
    (leaves toggle (recording_of (codes "top.q" ∷ codes "top.n" ∷ []) ((false ∷ true ∷ []) ∷ (true ∷ false ∷ []) ∷ [])) (listed low (low ∷ high ∷ [])) ≡ None)
    × (leaves toggle (recording_of (codes "top.q" ∷ codes "top.n" ∷ []) ((false ∷ false ∷ []) ∷ [])) (listed low (low ∷ [])) ≡ Some (0, 0))
    × (leaves toggle (recording_of (codes "top.q" ∷ codes "top.n" ∷ []) ((false ∷ true ∷ []) ∷ (false ∷ false ∷ []) ∷ [])) (listed low (low ∷ low ∷ [])) ≡ Some (1, 0))
    × (leaves toggle (recording_of (codes "q" ∷ codes "a.n" ∷ codes "b.n" ∷ []) ((false ∷ false ∷ false ∷ []) ∷ [])) (listed low (low ∷ [])) ≡ None)

-- a first value of 1, one that is free, and a latch that follows an input of the sample before
abbrev pub Follows : Type 0
Follows =
    (leaves gated (recording_of (codes "i" ∷ codes "r" ∷ codes "s" ∷ []) ((true ∷ true ∷ true ∷ []) ∷ (false ∷ true ∷ true ∷ []) ∷ (false ∷ true ∷ false ∷ []) ∷ []))
    (listed low ((true ∷ true ∷ true ∷ true ∷ []) ∷ (false ∷ true ∷ true ∷ false ∷ []) ∷ (false ∷ true ∷ false ∷ false ∷ []) ∷ [])) ≡ None)
    × (leaves gated (recording_of (codes "i" ∷ codes "r" ∷ codes "s" ∷ []) ((true ∷ true ∷ true ∷ []) ∷ (false ∷ true ∷ false ∷ []) ∷ []))
    (listed low ((true ∷ true ∷ true ∷ true ∷ []) ∷ (false ∷ true ∷ false ∷ false ∷ []) ∷ [])) ≡ Some (1, 2))
    × (leaves gated (recording_of (codes "i" ∷ codes "r" ∷ codes "s" ∷ []) ((true ∷ false ∷ true ∷ []) ∷ [])) (listed low ((false ∷ false ∷ true ∷ true ∷ []) ∷ [])) ≡ Some (0, 1))

-- the first input or latch, as listed, that is not recorded
abbrev pub Misses : Type 0
Misses =
    (first_missing toggle (recording_of (codes "z" ∷ []) []) ≡ Some 1)
    × (first_missing toggle (recording_of (codes "q" ∷ []) []) ≡ None)
    × (first_missing toggle (recording_of (codes "a.q" ∷ codes "b.q" ∷ []) []) ≡ Some 1)
    × (first_missing gated (recording_of (codes "y" ∷ []) []) ≡ Some 3)
    × (first_missing gated (recording_of (codes "i" ∷ codes "s" ∷ []) []) ≡ Some 1)

-- a recording that has just some names, and no samples
abbrev pub of_names : List Name → Sampled
of_names names = record { names = names; samples = []; times = []; places = []; unknown = unknowns.Zero }

abbrev pub one_name : List ℕ → ℕ → ℕ → Sampled
one_name text left right = of_names (record { text = text; signal = 0; left = left; right = right } ∷ [])

-- a signal that is wider than a bit is none that is found, one of a single index is
abbrev pub Finds : Type 0
Finds =
    (recorded toggle (one_name (codes "q") 1 0) 1 ≡ None)
    × (recorded toggle (one_name (codes "q") 7 7) 1 ≡ Some (only_bit 0))
    × (recorded toggle (one_name (codes "xq") 0 0) 1 ≡ None)
    × (recorded toggle (one_name (codes "x.q") 0 0) 1 ≡ Some (only_bit 0))

-- a netlist of an input that has a name
abbrev pub one_input : List ℕ → Design
one_input text = record { signals = 1; inputs = 0 ∷ []; latches = []; tables = []; names = named_from 0 (text ∷ []) }

-- with an index behind it a name stands for the bit of a vector that has this index, whichever end of the range is the lower
-- one; no bit has an index out of the range, or one with a leading zero, and a signal of one bit is no vector
abbrev pub Indexes : Type 0
Indexes =
    (recorded (one_input (codes "c[3]")) (one_name (codes "c") 3 0) 0 ≡ Some (bit_of_signal 0 3))
    × (recorded (one_input (codes "c[3]")) (one_name (codes "c") 0 3) 0 ≡ Some (bit_of_signal 0 0))
    × (recorded (one_input (codes "c[5]")) (one_name (codes "top.c") 7 4) 0 ≡ Some (bit_of_signal 0 1))
    × (recorded (one_input (codes "u.c[1][0]")) (one_name (codes "top.u.c[1]") 1 0) 0 ≡ Some (bit_of_signal 0 0))
    × (recorded (one_input (codes "c[4]")) (one_name (codes "c") 3 0) 0 ≡ None)
    × (recorded (one_input (codes "c[03]")) (one_name (codes "c") 3 0) 0 ≡ None)
    × (recorded (one_input (codes "c[0]")) (one_name (codes "c") 0 0) 0 ≡ None)

-- a name that is there with its index goes before; the vector has to be one
abbrev pub IndexesOfSeveral : Type 0
IndexesOfSeveral =
    (recorded (one_input (codes "c[3]"))
    (of_names (record { text = codes "c"; signal = 0; left = 3; right = 0 } ∷ record { text = codes "c[3]"; signal = 1; left = 0; right = 0 } ∷ [])) 0
    ≡ Some (only_bit 1))
    × (recorded (one_input (codes "c[3]"))
    (of_names (record { text = codes "a.c"; signal = 0; left = 3; right = 0 } ∷ record { text = codes "b.c"; signal = 1; left = 3; right = 0 } ∷ [])) 0
    ≡ None)
    × (recorded (one_input (codes "b.c[3]"))
    (of_names (record { text = codes "a.c"; signal = 0; left = 3; right = 0 } ∷ record { text = codes "b.c"; signal = 1; left = 3; right = 0 } ∷ [])) 0
    ≡ Some (bit_of_signal 1 3))

pub record AreReplayed : Type 0 where
  pub toggles : Toggles
  pub compares : Compares
  pub follows : Follows
  pub misses : Misses
  pub finds : Finds
  pub indexes : Indexes
  pub several : IndexesOfSeveral
