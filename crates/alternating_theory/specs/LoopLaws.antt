-- What an automaton accepts that stands for a formula.
use Rattle.std.specs.Prelude.{◌↔◌, ◌<◌, length, None}
use Rattle.psl_tree.specs.Satisfaction.{Sat}
use Rattle.psl_tree.specs.Trace.{trace_of}
use Rattle.psl_tree.specs.Trees.{Formula}
use Rattle.psl_tree.specs.declared.letter.Word.{Word}
use Rattle.alternating_theory.specs.Obligations.{Automaton}
use Rattle.alternating_theory.specs.Acceptance.{Accepts}

-- on each word with a loop, letters Top and Bottom among its letters, it accepts exactly where the word
-- satisfies the formula
pub record LoopsOf (automaton : Automaton) (formula : Formula) : Type 0 where
  pub on_loop : (word : Word) → 0 < length word.looped → Accepts automaton word ↔ Sat (trace_of word) formula None

-- another automaton accepts the same words with a loop
pub record KeepsLoops (automaton other : Automaton) : Type 0 where
  pub loops : (word : Word) → 0 < length word.looped → Accepts other word ↔ Accepts automaton word
