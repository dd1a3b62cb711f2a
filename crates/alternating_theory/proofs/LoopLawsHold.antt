-- The laws that functions state.
use Rattle.std.proofs.Common.{ℕ, arith}
use Rattle.psl_tree.specs.Trees.{Formula}
use Rattle.alternating_theory.specs.Courses.{places, letter_at, next_place}
use Rattle.alternating_theory.proofs.Ends.{word-next}
use Rattle.alternating_theory.specs.Construction.{HasNoClock}
use Rattle.alternating_theory.specs.Laws.{NamesOf}
use Rattle.alternating_theory.specs.Merged.{merged_by}
use Rattle.alternating_theory.specs.Obligations.{Automaton}
use Rattle.alternating_theory.specs.Built.{built}
use Rattle.alternating_theory.specs.LoopLaws.{LoopsOf, KeepsLoops}
use Rattle.alternating_theory.proofs.Final.{accepts-word}
use Rattle.alternating_theory.proofs.LoopMerges.{merged-accepts}

pub loops : (f : Formula) → HasNoClock f → LoopsOf (built f) f
loops f h = record { on_loop = accepts-word f h }

pub merging : (a : Automaton) → NamesOf a → (class : ℕ → ℕ) → KeepsLoops a (merged_by class a)
merging a names class = record {
  loops = λ word some. merged-accepts a names class (places word) (letter_at word) (next_place word) (word-next word some) (omega arith);
}
