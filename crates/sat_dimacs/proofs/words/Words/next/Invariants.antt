use Rattle.std.proofs.Common.{◌≡◌, length, false}
use Rattle.sat_dimacs.specs.Words.{left_words}
use Rattle.sat_dimacs.proofs.words.Words.next.Given as goal

abbrev pub invariant-loop-token : goal.invariant-loop-token
invariant-loop-token l =
    (left_words l.self-inside.text.now l.self-inside.cursor l.self-inside.comment false ≡ l.fn.self) × (l.self-inside.ended ≡ false)

abbrev pub decreases-loop-token : goal.decreases-loop-token
decreases-loop-token l = length l.self-inside.cursor.tokens
