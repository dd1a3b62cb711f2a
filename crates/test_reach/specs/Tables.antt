-- Tables of states: one state that begins, and pairs of states that follow one another.
use mathlib.Core.Bool.{beq}
use Rattle.std.specs.Prelude.{◌≡◌, ℕ, ◌<◌, ◌≤◌, ℤ, Bool as Truth, false, not, ◌&&◌, ◌||◌, ◌==◌, List, length, IsTrue}
use Rattle.std.proofs.Common.{ap}
use Rattle.std.specs.List.{Contains}
use Rattle.std.specs.Cmp.Lexicographic.{pointwise}
use Rattle.clauses.specs.Literals.{is_within}
use Rattle.reach_frames.specs.Bits.{is_met, is_in_cube}
use Rattle.reach_frames.specs.Levels.{frames_of, AreWitnesses}
use Rattle.reach_frames.specs.Systems.{System, AreSound}
use Rattle.reach_frames.specs.declared.entry.Entry.{Entry}
use Rattle.reach_frames.specs.declared.level.KeptClause.{KeptClause}

-- two lists of bits are the same
abbrev pub are_same : List Truth → List Truth → Truth
are_same bits others = pointwise beq bits others

-- a pair of states of the width leads into a cube
abbrev pub leads_into : List Truth → List (List ℤ) → Truth → List ℤ → Entry → Truth
leads_into start frame initial cube entry =
    (length entry.before == length start) && ((length entry.after == length start) && (is_met frame entry.before
    && (not (is_in_cube cube entry.before) && (is_in_cube cube entry.after && (not initial || are_same entry.before start)))))

-- a pair of states leads from a state into a cube
abbrev pub leads_from : List Truth → List Truth → List ℤ → Entry → Truth
leads_from start state cube entry = are_same entry.before state && ((length entry.after == length start) && is_in_cube cube entry.after)

-- the system of a table
abbrev pub table_system : (start : List Truth) (steps : List Entry) (goal : ℤ) → IsTrue (is_within (length start) goal) → System
table_system start steps goal within = record {
  width = length start;
  goal = goal;
  begins = λ state. state ≡ start;
  follows = λ state next. Contains steps (record { before = state; after = next }) × (length state ≡ length start) × (length next ≡ length start);
  size = λ state begins. ap length begins;
  sizes = λ state next follows. (follows.1, follows.2);
  goal_within = within;
}

-- frames with which a search of a table can go on
pub record IsGoing (start : List Truth) (steps : List Entry) (goal : ℤ) (within : IsTrue (is_within (length start) goal)) (most : ℕ) (levels : List (List KeptClause)) : Type 0 where
  pub sound : AreSound (table_system start steps goal within) (frames_of levels)
  pub witnessed : AreWitnesses (table_system start steps goal within) levels
  pub some : 0 < length levels
  pub few : length levels ≤ most
