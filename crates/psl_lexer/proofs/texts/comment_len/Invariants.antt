use Rattle.std.proofs.Common.{◌≡◌, drop, false}
use Rattle.std.specs.Option.{option_map}
use Rattle.std.specs.Prelude.{◌+◌}
use Rattle.psl_lexer.specs.Reading.{comment_len}
use Rattle.psl_lexer.proofs.texts.comment_len.Given as goal

abbrev pub invariant-loop-len : goal.invariant-loop-len
invariant-loop-len l = comment_len false l.behind ≡ option_map (λ n. l.len + n) (comment_len l.is_starred (drop l.len l.behind))
