use Rattle.psl_grammar.specs.Parts.{Maybe, Sym}
use Rattle.psl_parser.specs.Pieces.{ReadsOptionalCount}
use Rattle.psl_parser.proofs.Exits.{exit}
use Rattle.psl_parser.proofs.Forms.{yes, no}
use Rattle.psl_grammar.specs.Reading.{Reads as r, Stops as s}
use Rattle.psl_grammar.specs.Parts as P
use Rattle.psl_parser.proofs.parser.Parser.optional_count.Goals as goal

pub returns-then-not-at-clause-parsed : goal.returns-then-not-at-clause-parsed
returns-then-not-at-clause-parsed c = (r.without (record { holds = (no c.at.ensures c.if-not-at.true) }))

pub returns-in_err-count-clause-parsed : goal.returns-in_err-count-clause-parsed
returns-in_err-count-clause-parsed c = exit ReadsOptionalCount (Maybe (Sym P.Count)) _ _ c.from_residual.ensures.1 (s.maybe (record { holds = (yes c.at.ensures c.if-not-at.false) }) c.in_err-count.ensures.parsed)

pub returns-clause-parsed : goal.returns-clause-parsed
returns-clause-parsed c = (r.with (record { holds = (yes c.at.ensures c.if-not-at.false) }) c.in_ok-count.ensures.parsed)
