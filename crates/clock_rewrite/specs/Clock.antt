-- The clock that is in force, the forms that differ with it, and what rewriting keeps.
use Rattle.std.specs.Prelude.{Bool as Truth, IsTrue, ◌↔◌, Option, None, Some}
use Rattle.std.specs.Borrow.{Bor}
use Rattle.psl_tree.specs.Plain.{next_at_tick, until_at_tick}
use Rattle.psl_tree.specs.Satisfaction.{Sat}
use Rattle.psl_tree.specs.Trace.{trace_of}
use Rattle.psl_tree.specs.Atoms.{AtomsOfBoolean, AtomsOfFormula}
use Rattle.psl_tree.specs.Trees.{Boolean, Formula, And, Next, Until, boolean_of}
use Rattle.psl_tree.specs.declared.atom.Atom.{Atom}
use Rattle.psl_tree.specs.declared.boolean.Bool as bools
use Rattle.psl_tree.specs.declared.letter.Word.{Word}

-- the Boolean of a clock that is lent, or none
abbrev pub clock_of : Option (Bor bools.Bool) → Option Boolean
clock_of None = None
clock_of (Some clock) = Some (boolean_of clock.now)

-- X! of a part without clocks
abbrev pub next_under : Option Boolean → Formula → Formula
next_under None part = Next part
next_under (Some clock) part = next_at_tick clock part

-- U of parts without clocks
abbrev pub until_under : Option Boolean → Formula → Formula → Formula
until_under None left right = Until left right
until_under (Some clock) left right = until_at_tick clock left right

-- where a synchronous abort stops
abbrev pub stop_under : Option Boolean → Boolean → Boolean
stop_under None test = test
stop_under (Some clock) test = And clock test

-- just the words that satisfy the one formula without a clock satisfy the other under the clock
abbrev pub HasSameWords : Formula → Formula → Option Boolean → Type 0
HasSameWords new formula clock = (word : Word) → Sat (trace_of word) new None ↔ Sat (trace_of word) formula clock

-- each atom of the clock, where there is one, has P
abbrev pub AtomsOfClock : (Atom → Type 0) → Option Boolean → Type 0
AtomsOfClock P None = Unit {0}
AtomsOfClock P (Some clock) = AtomsOfBoolean P clock

-- a test that all atoms of the formula and of the clock pass is passed by all atoms of the new one
abbrev pub KeepsAtoms : Formula → Formula → Option Boolean → Type 0
KeepsAtoms new formula clock =
    (test : Atom → Truth) → AtomsOfFormula (λ atom. IsTrue (test atom)) formula → AtomsOfClock (λ atom. IsTrue (test atom)) clock
    → AtomsOfFormula (λ atom. IsTrue (test atom)) new
