-- Buses worked out by hand, each of a few names.
use Rattle.std.specs.Prelude.{◌≡◌, [], ◌∷◌, codes}
use Rattle.trace.specs.Examples.{named_from}
use Rattle.trace.specs.Vectors.{single}
use Rattle.trace_buses.specs.Buses.{vectors_among}

-- a counter of two bits and the next value of one: the bus stands where the first of its signals does
abbrev pub Joins : Type 0
Joins =
    vectors_among (named_from 0 (codes "count[0]" ∷ codes "next" ∷ codes "count[1]" ∷ []))
    ≡ record { text = codes "count"; high = 1; low = 0; signals = 2 ∷ 0 ∷ [] } ∷ single (codes "next") 1 ∷ []

-- indices from another one than 0 on
abbrev pub Rises : Type 0
Rises = vectors_among (named_from 0 (codes "s[4]" ∷ codes "s[5]" ∷ [])) ≡ record { text = codes "s"; high = 5; low = 4; signals = 1 ∷ 0 ∷ [] } ∷ []

-- a hole, and one index alone
abbrev pub HasHole : Type 0
HasHole = vectors_among (named_from 0 (codes "q[0]" ∷ codes "q[2]" ∷ codes "p[7]" ∷ [])) ≡ single (codes "q[0]") 0 ∷ single (codes "q[2]") 1 ∷ single (codes "p[7]") 2 ∷ []

-- a signal of the very name
abbrev pub IsTaken : Type 0
IsTaken = vectors_among (named_from 0 (codes "w" ∷ codes "w[0]" ∷ codes "w[1]" ∷ [])) ≡ single (codes "w") 0 ∷ single (codes "w[0]") 1 ∷ single (codes "w[1]") 2 ∷ []

-- a signal that ends in a dot and the name of a bit: that bit would be found there
abbrev pub IsHidden : Type 0
IsHidden =
    vectors_among (named_from 0 (codes "c[1]" ∷ codes "c[0]" ∷ codes "u.c[0]" ∷ codes "p[1]" ∷ codes "u.p[0]" ∷ codes "p[0]" ∷ codes "u.p[1]" ∷ []))
    ≡ single (codes "c[1]") 0 ∷ single (codes "c[0]") 1 ∷ single (codes "u.c[0]") 2
    ∷ record { text = codes "p"; high = 1; low = 0; signals = 3 ∷ 5 ∷ [] } ∷ record { text = codes "u.p"; high = 1; low = 0; signals = 6 ∷ 4 ∷ [] } ∷ []

pub record AreJoined : Type 0 where
  pub joins : Joins
  pub rises : Rises
  pub has_hole : HasHole
  pub is_taken : IsTaken
  pub is_hidden : IsHidden
