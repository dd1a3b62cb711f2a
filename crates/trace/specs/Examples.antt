-- Traces worked out by hand.
use Rattle.std.specs.Prelude.{◌≡◌, ℕ, Bool, true, false, ◌+◌, List, [], ◌∷◌, ◌++◌, codes}
use Rattle.netlist.specs.Design.{Design}
use Rattle.netlist.specs.declared.run.Run.{Run}
use Rattle.psl_tree.specs.declared.name.Name.{Name}
use Rattle.trace.specs.Codes.{code_of}
use Rattle.trace.specs.Printed.{printed}
use Rattle.trace.specs.Trace.{trace_text}
use Rattle.trace.specs.Vectors.{vectors_text}
use Rattle.trace.specs.declared.vectors.Vector.{Vector}

-- signals of these names, in order; what drives them is no part of a trace
abbrev pub named_from : ℕ → List (List ℕ) → List Name
named_from signal [] = []
named_from signal (text ∷ texts) = record { text = text; signal = signal; left = 0; right = 0 } ∷ named_from (signal + 1) texts

abbrev pub design_of : ℕ → List (List ℕ) → Design
design_of signals texts = record { signals = signals; inputs = []; latches = []; tables = []; names = named_from 0 texts }

-- a run that is a loop alone
abbrev pub looped : List (List Bool) → Run
looped loop = record { stem = []; loop_part = loop }

-- one input that stays at 0, its loop twice
abbrev pub StaysLow : Type 0
StaysLow =
    trace_text (design_of 1 (codes "i" ∷ [])) (looped ((false ∷ []) ∷ [])) 2
    ≡ codes "$var wire 1 ! i $end\n$enddefinitions $end\n#0\n0!\n#1\n0!\n"

-- a counter of three bits, with its next values `n0` to `n2`, once around
abbrev pub Counts : Type 0
Counts =
    trace_text (design_of 6 (codes "n0" ∷ codes "q0" ∷ codes "n1" ∷ codes "q1" ∷ codes "n2" ∷ codes "q2" ∷ []))
    (looped ((true ∷ false ∷ false ∷ false ∷ false ∷ false ∷ []) ∷ (false ∷ true ∷ true ∷ false ∷ false ∷ false ∷ []) ∷ (true ∷ false ∷ true ∷ true ∷ false ∷ false ∷ []) ∷ (false ∷ true ∷ false ∷ true ∷ true ∷ false ∷ []) ∷ (true ∷ false ∷ false ∷ false ∷ true ∷ true ∷ []) ∷ (false ∷ true ∷ true ∷ false ∷ true ∷ true ∷ []) ∷ (true ∷ false ∷ true ∷ true ∷ true ∷ true ∷ []) ∷ (false ∷ true ∷ false ∷ true ∷ false ∷ true ∷ []) ∷ [])) 1
    ≡ codes "$var wire 1 ! n0 $end\n$var wire 1 \" q0 $end\n$var wire 1 # n1 $end\n$var wire 1 $ q1 $end\n$var wire 1 % n2 $end\n$var wire 1 & q2 $end\n$enddefinitions $end\n"
    ++ codes "#0\n1!\n0\"\n0#\n0$\n0%\n0&\n"
    ++ codes "#1\n0!\n1\"\n1#\n0$\n0%\n0&\n"
    ++ codes "#2\n1!\n0\"\n1#\n1$\n0%\n0&\n"
    ++ codes "#3\n0!\n1\"\n0#\n1$\n1%\n0&\n"
    ++ codes "#4\n1!\n0\"\n0#\n0$\n1%\n1&\n"
    ++ codes "#5\n0!\n1\"\n1#\n0$\n1%\n1&\n"
    ++ codes "#6\n1!\n0\"\n1#\n1$\n1%\n1&\n"
    ++ codes "#7\n0!\n1\"\n0#\n1$\n0%\n1&\n"

-- a stem, and a signal with two names, of which the first counts
abbrev pub Begins : Type 0
Begins =
    trace_text (record { signals = 1; inputs = []; latches = []; tables = []; names = record { text = codes "p"; signal = 0; left = 0; right = 0 } ∷ record { text = codes "u1.p"; signal = 0; left = 0; right = 0 } ∷ [] })
    (record { stem = (false ∷ []) ∷ []; loop_part = (true ∷ []) ∷ [] }) 2
    ≡ codes "$var wire 1 ! p $end\n$enddefinitions $end\n#0\n0!\n#1\n1!\n#2\n1!\n"

-- a bit, and a vector of four signals that are numbered from its lowest index on; the second sample has another value
abbrev pub ring : List Vector
ring = record { text = codes "up"; high = 0; low = 0; signals = 0 ∷ [] } ∷ record { text = codes "count"; high = 3; low = 0; signals = 4 ∷ 3 ∷ 2 ∷ 1 ∷ [] } ∷ []

abbrev pub IsJoined : Type 0
IsJoined =
    vectors_text ring (looped ((true ∷ false ∷ true ∷ false ∷ true ∷ []) ∷ (false ∷ true ∷ true ∷ false ∷ false ∷ []) ∷ [])) 1
    ≡ codes "$var wire 1 ! up $end\n$var wire 4 \" count [3:0] $end\n$enddefinitions $end\n#0\n1!\nb1010 \"\n#1\n0!\nb0011 \"\n"

-- codes, the lowest digit first
abbrev pub AreCoded : Type 0
AreCoded = (code_of 0 ≡ codes "!") × (code_of 93 ≡ codes "~") × (code_of 94 ≡ codes "!\"") × (code_of 95 ≡ codes "\"\"") × (code_of 8835 ≡ codes "~~") × (code_of 8836 ≡ codes "!!\"")

-- names that get a `_`, and names that get none
abbrev pub AreMarked : Type 0
AreMarked =
    (printed (codes "$end") ≡ codes "$end_") × (printed (codes "x[3:3]") ≡ codes "x[3:3]_") × (printed (codes "x[007:7]") ≡ codes "x[007:7]_")
    × (printed (codes "[0:00]") ≡ codes "[0:00]_") × (printed (codes "x[99999999999:99999999999]") ≡ codes "x[99999999999:99999999999]_")

abbrev pub ArePlain : Type 0
ArePlain =
    (printed (codes "x[3:5]") ≡ codes "x[3:5]") × (printed (codes "x[3]") ≡ codes "x[3]") × (printed (codes "x[:]") ≡ codes "x[:]")
    × (printed (codes "x[3:3]y") ≡ codes "x[3:3]y") × (printed (codes "$var") ≡ codes "$var")

pub record AreTraced : Type 0 where
  pub stays_low : StaysLow
  pub counts : Counts
  pub begins : Begins
  pub joined : IsJoined
  pub coded : AreCoded
  pub marked : AreMarked
  pub plain : ArePlain
