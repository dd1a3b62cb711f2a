-- How the searches for inductive clauses end that find none.
use Rattle.std.specs.Prelude.{◌≡◌, ℕ, Bool as Truth, true, false, List, length, slice_get, Some}
use Rattle.joint.specs.Joined.{Joined}
use Rattle.netlist.specs.Design.{Design}
use Rattle.owed.specs.Violations.{violation_of}
use Rattle.psl_tree.specs.declared.directive.Directive.{Directive}
use Rattle.reach.specs.Answers.{IsReached}
use Rattle.reach.specs.declared.answer.Reached.{Reached}
use Rattle.reach.specs.declared.answer.Reached.TheVariants.{Inductive, Path, Open, Spent, LogFull, Large}
use Rattle.prover.specs.declared.options.Options.{Options}

-- the joint states of a netlist and the automaton of what violates a directive, for so many visits
abbrev pub joint_of : Design → List Directive → Directive → ℕ → Joined
joint_of design unit directive visits = record {
  design = design;
  automaton = violation_of unit directive;
  visits = visits;
}

-- a search found inductive clauses
abbrev pub is_inductive : Reached → Truth
is_inductive (Inductive clauses initial step bad) = true
is_inductive (Path path) = false
is_inductive (Open frames) = false
is_inductive (Spent query log) = false
is_inductive (LogFull query log) = false
is_inductive (Large query) = false

-- the search for so many visits, with as many frames as the depth, ends without inductive clauses
pub record IsEnd (design : Design) (unit : List Directive) (directive : Directive) (options : Options)
    (visits : ℕ) (end : Reached) : Type 0 where
  pub is : IsReached (joint_of design unit directive visits) options.depth options.steps end
  pub without : is_inductive end ≡ false

-- such an end for each of so many numbers of visits, in order from 0 on
pub record AreEnds (design : Design) (unit : List Directive) (directive : Directive) (options : Options)
    (count : ℕ) (ends : List Reached) : Type 0 where
  pub many : length ends ≡ count
  pub each : (visits : ℕ) (end : Reached) → slice_get ends visits ≡ Some end
      → IsEnd design unit directive options visits end
