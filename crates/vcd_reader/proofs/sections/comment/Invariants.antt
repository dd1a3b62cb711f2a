use Rattle.std.proofs.Common.{◌≡◌, ◌≤◌, ℕ, List, length}
use Rattle.vcd_reader.specs.declared.changes.Change.{Change}
use Rattle.vcd_reader.specs.Declarations.{Declared}
use Rattle.vcd_reader.specs.Running.{run}
use Rattle.vcd_reader.specs.Standing.{Part, InComment}
use Rattle.vcd_reader.proofs.sections.comment.Given as goal

abbrev pub invariant-loop-token : goal.invariant-loop-token
invariant-loop-token l = record {
  same : (d : Declared) (p : Part) (changes : List (List Change)) (starts : List ℕ) → run d p changes starts InComment l.initial.cursor ≡ run d p changes starts InComment l.cursor;
  fewer : length l.cursor.tokens ≤ length l.initial.cursor.tokens;
}

abbrev pub decreases-loop-token : goal.decreases-loop-token
decreases-loop-token l = length l.cursor.tokens
