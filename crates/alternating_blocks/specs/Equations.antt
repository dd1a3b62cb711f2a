-- The equations of a block.
use Rattle.std.specs.Prelude.{◌≡◌, ℕ, List, length, All}
use Rattle.psl_tree.specs.declared.atom.Atom.{Atom}
use Rattle.alternating_theory.specs.Obligations.{Automaton}
use Rattle.alternating_theory.specs.Positive.{Positive}
use Rattle.alternating_blocks.specs.Block.{MeetsAll, AreAllBlockValues}
use Rattle.alternating_blocks.specs.Plan.{combination_of, NodeWithin, IsPlan, TestsTell}
use Rattle.alternating_blocks.specs.declared.equations.Equations.{Equations}
use Rattle.alternating_blocks.specs.declared.plan.Node.{Node}
use Rattle.alternating_blocks.specs.declared.words.Words.{Words}

-- there is a node for each obligation and a word for each Boolean, and the nodes name no others
pub record IsReady (equations : Equations) : Type 0 where
  pub deltas : length equations.plan.now.deltas.items ≡ length equations.after.now
  pub tests : length equations.tests.now ≡ length equations.plan.now.tests.items
  pub within : All (NodeWithin (length equations.after.now) (length equations.tests.now)) equations.plan.now.deltas.items

-- they are those of an automaton at letters whose atoms are packed in columns
pub record AreEquations (automaton : Automaton) (atoms : List Atom) (columns : List ℕ) (equations : Equations) : Type 0 where
  pub plan : IsPlan automaton equations.plan.now
  pub tests : TestsTell atoms columns equations.plan.now.tests.items equations.tests.now

-- words are found for a combination: they say at which letters it is met
abbrev pub Meets : Equations → List Words → Positive → Words → Type 0
Meets equations words combination found =
    (atoms : List Atom) (columns : List ℕ) → TestsTell atoms columns equations.plan.now.tests.items equations.tests.now
    → length equations.tests.now ≡ length equations.plan.now.tests.items
    → MeetsAll atoms columns equations.after.now words combination found

-- so they are for a node
abbrev pub MeetsNode : Equations → List Words → Node → Words → Type 0
MeetsNode equations words node found = Meets equations words (combination_of equations.plan.now.tests.items node) found

-- words are the values of each automaton at all letters that have these equations
abbrev pub AreSolution : Equations → List Words → Type 0
AreSolution equations words =
    (automaton : Automaton) (atoms : List Atom) (columns : List ℕ) → AreEquations automaton atoms columns equations
    → AreAllBlockValues automaton atoms columns equations.after.now words
