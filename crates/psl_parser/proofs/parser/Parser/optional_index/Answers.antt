use Rattle.psl_grammar.specs.Parts.{Maybe}
use Rattle.psl_grammar.specs.Productions.{index}
use Rattle.psl_parser.specs.Pieces.{ReadsOptionalIndex}
use Rattle.psl_parser.proofs.Exits.{exit}
use Rattle.psl_parser.proofs.Forms.{yes, no}
use Rattle.psl_grammar.specs.Reading.{Reads as r, Stops as s}
use Rattle.psl_parser.proofs.parser.Parser.optional_index.Goals as goal

pub returns-then-not-at-clause-parsed : goal.returns-then-not-at-clause-parsed
returns-then-not-at-clause-parsed c = (r.without (record { holds = (no c.at.ensures c.if-not-at.true) }))

pub returns-in_err-number-clause-parsed : goal.returns-in_err-number-clause-parsed
returns-in_err-number-clause-parsed c = exit ReadsOptionalIndex (Maybe index) _ _ c.from_residual.ensures.1 (s.maybe (record { holds = (yes c.at.ensures c.if-not-at.false) }) c.in_err-number.ensures.parsed)

pub returns-clause-parsed : goal.returns-clause-parsed
returns-clause-parsed c = record { opening = c.in_ok-number.ensures.parsed.opening; closing = c.in_ok-number.ensures.parsed.closing; reads = (r.with (record { holds = (yes c.at.ensures c.if-not-at.false) }) c.in_ok-number.ensures.parsed.reads) }
