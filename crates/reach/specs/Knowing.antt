-- What is known of each initial state.
use Rattle.std.specs.Prelude.{ℤ, Bool as Truth, List, [], ◌∷◌, map, IsTrue}
use Rattle.joint.specs.Joined.{Joined}
use Rattle.reach_frames.specs.Bits.{is_in_cube}
use Rattle.reach.specs.Systems.{BeginsAs}
use Rattle.reach.specs.declared.asking.Told.{Told}
use Rattle.reach.specs.declared.asking.Told.TheVariants.{Model, Refuted}

-- literals that are true of the bits of each initial state
abbrev pub AreKnown : Joined → List ℤ → Type 0
AreKnown joined literals = (bits : List Truth) → BeginsAs joined bits → IsTrue (is_in_cube literals bits)

-- for each literal the clause that says it
abbrev pub each_alone : List ℤ → List (List ℤ)
each_alone literals = map (λ literal. literal ∷ []) literals

-- what is told of the query for an initial state that misses one of these: where it is refuted, each is known
abbrev pub TellsKnown : Joined → List ℤ → Told → Type 0
TellsKnown joined literals (Model values) = Unit {0}
TellsKnown joined literals (Refuted log count) = AreKnown joined literals
