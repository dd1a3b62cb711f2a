use Rattle.std.proofs.Common.{◌≡◌, drop, false}
use Rattle.std.specs.Option.{option_map}
use Rattle.std.specs.Prelude.{◌+◌}
use Rattle.psl_lexer.specs.Reading.{text_len}
use Rattle.psl_lexer.proofs.texts.text_len.Given as goal

abbrev pub invariant-loop-len : goal.invariant-loop-len
invariant-loop-len l = text_len false l.behind ≡ option_map (λ n. l.len + n) (text_len l.is_escaped (drop l.len l.behind))
