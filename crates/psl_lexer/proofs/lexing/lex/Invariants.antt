use Rattle.std.proofs.Common.{◌≡◌, ◌≤◌, ◌-◌, length}
use Rattle.psl_base.specs.Places.{place_at}
use Rattle.psl_lexer.specs.Lexed.{IsReadTo}
use Rattle.psl_lexer.proofs.lexing.lex.Given as goal

abbrev pub invariant-loop-position : goal.invariant-loop-position
invariant-loop-position l = record {
  same : l.position.text.now ≡ l.text;
  within : l.position.at ≤ length l.text;
  place : l.position.place ≡ place_at l.text l.position.at;
  is_read : IsReadTo l.text l.tokens l.position.at;
  few : length l.tokens ≤ l.position.at;
}

abbrev pub decreases-loop-position : goal.decreases-loop-position
decreases-loop-position l = length l.text - l.position.at
