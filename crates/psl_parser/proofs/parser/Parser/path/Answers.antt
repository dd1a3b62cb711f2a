use Rattle.std.proofs.Common.{refl, arith}
use Rattle.psl_grammar.proofs.Loops.{through-stop, through-end}
use Rattle.psl_grammar.specs.Parts.{Sym}
use Rattle.psl_parser.specs.Pieces.{ReadsPath}
use Rattle.psl_parser.proofs.Exits.{exit, spent}
use Rattle.psl_parser.proofs.Forms.{yes, no}
use Rattle.psl_parser.proofs.Making.{dotted-more, path-end}
use Rattle.psl_parser.proofs.Rounds.{dotted-start}
use Rattle.psl_parser.proofs.Taking.{taken, stopped}
use Rattle.psl_grammar.specs.Reading.{Reads as r, Stops as s}
use Rattle.psl_grammar.specs.Parts as P
use Rattle.psl_parser.proofs.parser.Parser.path.Goals as goal

pub returns-in_err-first-clause-parsed : goal.returns-in_err-first-clause-parsed
returns-in_err-first-clause-parsed c = exit ReadsPath (Sym P.Path) _ _ c.from_residual.ensures.1 (s.symbol (s.first (stopped c.in_err-first.ensures.took)))

pub returns-in_err-add-clause-parsed : goal.returns-in_err-add-clause-parsed
returns-in_err-add-clause-parsed c = spent ReadsPath (Sym P.Path) _ _ _ _ c.from_residual-in_err-add.ensures.1 c.in_err-add.ensures

pub loop-alloc-init : goal.loop-alloc-init
loop-alloc-init c = record { fewer = omega arith; rounds = dotted-start _ _ _ }

pub returns-in_err-take-clause-parsed : goal.returns-in_err-take-clause-parsed
returns-in_err-take-clause-parsed c = exit ReadsPath (Sym P.Path) _ _ c.from_residual-in_err-take.ensures.1 (s.symbol (s.next _ (taken c.in_ok-first.ensures.took) (through-stop _ c.loop-alloc.invariant.rounds.through (record { holds = (yes c.at.ensures c.loop-alloc-test.true) }) (s.first (stopped c.in_err-take.ensures.took)))))

pub returns-in_err-name-clause-parsed : goal.returns-in_err-name-clause-parsed
returns-in_err-name-clause-parsed c = exit ReadsPath (Sym P.Path) _ _ c.from_residual-in_err-name.ensures.1 (s.symbol (s.next _ (taken c.in_ok-first.ensures.took) (through-stop _ c.loop-alloc.invariant.rounds.through (record { holds = (yes c.at.ensures c.loop-alloc-test.true) }) (s.next _ (taken c.in_ok-take.ensures.took) (stopped c.in_err-name.ensures.took)))))

pub returns-in_err-add-2-clause-parsed : goal.returns-in_err-add-2-clause-parsed
returns-in_err-add-2-clause-parsed c = spent ReadsPath (Sym P.Path) _ _ _ _ c.from_residual-in_err-add-2.ensures.1 c.in_err-add-2.ensures

pub loop-alloc-preserved : goal.loop-alloc-preserved
loop-alloc-preserved c = record { fewer = omega arith; rounds = dotted-more c.loop-alloc.invariant.rounds (record { holds = (yes c.at.ensures c.loop-alloc-test.true) }) (r.both (taken c.in_ok-take.ensures.took) (taken c.in_ok-name.ensures.took) refl) c.in_ok-add-2.ensures }

pub returns-clause-parsed : goal.returns-clause-parsed
returns-clause-parsed c = r.symbol (r.both (taken c.in_ok-first.ensures.took) (through-end c.loop-alloc.invariant.rounds.through (record { holds = (no c.at.ensures c.loop-alloc-test.false) })) refl) (path-end c.in_ok-first.first.now c.new-names.result c.loop-alloc.invariant.rounds c.new-names.ensures c.in_ok-add.ensures)
