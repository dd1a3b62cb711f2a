use Rattle.std.proofs.Common.{length}
use Rattle.cert_lines.specs.Sections.{query_of}
use Rattle.cert_lines.proofs.Sectioning.{SectionAt}
use Rattle.cert_lines.proofs.section.check_section.Given as goal

abbrev pub invariant-loop-line : goal.invariant-loop-line
invariant-loop-line l = SectionAt l.fn.header l.fn.section (query_of l.formula) l.fn.reading l.reading l.checker

abbrev pub decreases-loop-line : goal.decreases-loop-line
decreases-loop-line l = length l.reading.rest.now
