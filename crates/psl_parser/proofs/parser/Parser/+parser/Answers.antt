use Rattle.std.proofs.Common.{refl, sym, ◌∙◌, ap, [], ◌∷◌, ◌++◌, arith}
use Rattle.psl_grammar.proofs.Loops.{through-stop, through-end, infixed-end}
use Rattle.psl_grammar.proofs.NextToken.{kind-of_one}
use Rattle.psl_grammar.specs.Parts as P
use Rattle.psl_grammar.specs.Parts.{Many, Sym, ◌//◌}
use Rattle.psl_grammar.specs.Productions.{grouped}
use Rattle.psl_grammar.specs.Reading.{Reads as r, Stops as s}
use Rattle.psl_grammar.specs.Surface.{count_node, node_of}
use Rattle.psl_grammar.specs.Trees.{Absent, Clocked, NextForm, Repeat, Tok, Tree, applied, atom, built, opened, posted, tails, wide_tails}
use Rattle.psl_lexer.specs.declared.kind.TokenKind.TheVariants as kinds
use Rattle.psl_parser.proofs.Exits.{exit, spent, made, finished, pass, tree}
use Rattle.psl_parser.proofs.Forms.{yes, no, node, right-read, right-stop, regroup-read, regroup-stop, skip-read, skip-stop, joined-more, behind-more, posts-end, within-more, and-more, waiting-end}
use Rattle.psl_parser.proofs.Rounds.{joined-start, behind-start, waiting-start}
use Rattle.psl_parser.proofs.Taking.{chosen, other, taken, taken-beside, stopped, stopped-beside}
use Rattle.psl_parser.specs.Pieces.{braces, edged, event_ranged, next_event, next_ranged, next_times, signal, strong, tailed, Gave, ReadsBraces, ReadsGroup, ReadsPost, ReadsPosts, ReadsStrength, ReadsTail, ReadsTails}
use Rattle.psl_parser.proofs.parser.Parser.+parser.Goals as goal

pub property-returns-in_err-operator-clause-parsed : goal.property-returns-in_err-operator-clause-parsed
property-returns-in_err-operator-clause-parsed t c = exit (tree P.Prop) (Sym P.Prop) _ _ c.from_residual.ensures.1 (s.symbol (s.left (chosen refl (yes c.at_any.ensures c.if-at_any.true)) (s.first (stopped c.in_err-operator.ensures.took))))

pub property-returns-in_err-operand-clause-parsed : goal.property-returns-in_err-operand-clause-parsed
property-returns-in_err-operand-clause-parsed t c = exit (tree P.Prop) (Sym P.Prop) _ _ c.from_residual-in_err-operand.ensures.1 (s.symbol (s.left (chosen refl (yes c.at_any.ensures c.if-at_any.true)) (s.next _ (taken c.in_ok-operator.ensures.took) c.in_err-operand.ensures.parsed)))

pub property-returns-in_ok-operand-clause-parsed : goal.property-returns-in_ok-operand-clause-parsed
property-returns-in_ok-operand-clause-parsed t c = finished P.Prop _ _ c.prefix.ensures (r.symbol (r.left (chosen refl (yes c.at_any.ensures c.if-at_any.true)) (r.both (taken c.in_ok-operator.ensures.took) c.in_ok-operand.ensures.parsed refl)) refl)

pub property-returns-else-at_any-clause-parsed : goal.property-returns-else-at_any-clause-parsed
property-returns-else-at_any-clause-parsed t c = pass (tree P.Imp) (tree P.Prop) (Sym P.Imp) (Sym P.Prop) _ _ _ _ c.implication.ensures.parsed (λ x h. (r.symbol (r.right (other (no c.at_any.ensures c.if-at_any.false)) h) refl)) (λ e h. (s.symbol (s.right (other (no c.at_any.ensures c.if-at_any.false)) h)))

pub occurrence-returns-in_err-operator-clause-parsed : goal.occurrence-returns-in_err-operator-clause-parsed
occurrence-returns-in_err-operator-clause-parsed t c = exit (tree P.Occ) (Sym P.Occ) _ _ c.from_residual.ensures.1 (s.symbol (s.left (record { holds = (yes c.at_occurrence.ensures c.if-at_occurrence.true) }) (s.first (stopped c.in_err-operator.ensures.took))))

pub occurrence-returns-in_err-operand-clause-parsed : goal.occurrence-returns-in_err-operand-clause-parsed
occurrence-returns-in_err-operand-clause-parsed t c = exit (tree P.Occ) (Sym P.Occ) _ _ c.from_residual-in_err-operand.ensures.1 (s.symbol (s.left (record { holds = (yes c.at_occurrence.ensures c.if-at_occurrence.true) }) (s.next _ (taken c.in_ok-operator.ensures.took) c.in_err-operand.ensures.parsed)))

pub occurrence-returns-in_ok-operand-clause-parsed : goal.occurrence-returns-in_ok-operand-clause-parsed
occurrence-returns-in_ok-operand-clause-parsed t c = finished P.Occ _ _ c.prefix.ensures (r.symbol (r.left (record { holds = (yes c.at_occurrence.ensures c.if-at_occurrence.true) }) (r.both (taken c.in_ok-operator.ensures.took) c.in_ok-operand.ensures.parsed refl)) refl)

pub occurrence-returns-else-at_occurrence-clause-parsed : goal.occurrence-returns-else-at_occurrence-clause-parsed
occurrence-returns-else-at_occurrence-clause-parsed t c = pass (tree P.Trm) (tree P.Occ) (Sym P.Trm) (Sym P.Occ) _ _ _ _ c.termination.ensures.parsed (λ x h. (r.symbol (r.right (record { holds = (no c.at_occurrence.ensures c.if-at_occurrence.false) }) h) refl)) (λ e h. (s.symbol (s.right (record { holds = (no c.at_occurrence.ensures c.if-at_occurrence.false) }) h)))

pub bool_unary-returns-in_err-operator-clause-parsed : goal.bool_unary-returns-in_err-operator-clause-parsed
bool_unary-returns-in_err-operator-clause-parsed t c = exit (tree P.Buna) (Sym P.Buna) _ _ c.from_residual.ensures.1 (s.symbol (s.left (chosen refl (yes c.at.ensures c.if-at.true)) (s.first (stopped c.in_err-operator.ensures.took))))

pub bool_unary-returns-in_err-operand-clause-parsed : goal.bool_unary-returns-in_err-operand-clause-parsed
bool_unary-returns-in_err-operand-clause-parsed t c = exit (tree P.Buna) (Sym P.Buna) _ _ c.from_residual-in_err-operand.ensures.1 (s.symbol (s.left (chosen refl (yes c.at.ensures c.if-at.true)) (s.next _ (taken c.in_ok-operator.ensures.took) c.in_err-operand.ensures.parsed)))

pub bool_unary-returns-in_ok-operand-clause-parsed : goal.bool_unary-returns-in_ok-operand-clause-parsed
bool_unary-returns-in_ok-operand-clause-parsed t c = finished P.Buna _ _ c.prefix.ensures (r.symbol (r.left (chosen refl (yes c.at.ensures c.if-at.true)) (r.both (taken c.in_ok-operator.ensures.took) c.in_ok-operand.ensures.parsed refl)) refl)

pub bool_unary-returns-else-at-clause-parsed : goal.bool_unary-returns-else-at-clause-parsed
bool_unary-returns-else-at-clause-parsed t c = pass (tree P.Atom) (tree P.Buna) (Sym P.Atom) (Sym P.Buna) _ _ _ _ c.atom.ensures.parsed (λ x h. (r.symbol (r.right (other (no c.at.ensures c.if-at.false)) h) refl)) (λ e h. (s.symbol (s.right (other (no c.at.ensures c.if-at.false)) h)))

pub unary-returns-in_err-operator-clause-parsed : goal.unary-returns-in_err-operator-clause-parsed
unary-returns-in_err-operator-clause-parsed t c = exit (tree P.Una) (Sym P.Una) _ _ c.from_residual.ensures.1 (s.symbol (s.left (chosen refl (yes c.at.ensures c.if-at.true)) (s.first (stopped c.in_err-operator.ensures.took))))

pub unary-returns-in_err-operand-clause-parsed : goal.unary-returns-in_err-operand-clause-parsed
unary-returns-in_err-operand-clause-parsed t c = exit (tree P.Una) (Sym P.Una) _ _ c.from_residual-in_err-operand.ensures.1 (s.symbol (s.left (chosen refl (yes c.at.ensures c.if-at.true)) (s.next _ (taken c.in_ok-operator.ensures.took) c.in_err-operand.ensures.parsed)))

pub unary-returns-in_ok-operand-clause-parsed : goal.unary-returns-in_ok-operand-clause-parsed
unary-returns-in_ok-operand-clause-parsed t c = finished P.Una _ _ c.prefix.ensures (r.symbol (r.left (chosen refl (yes c.at.ensures c.if-at.true)) (r.both (taken c.in_ok-operator.ensures.took) c.in_ok-operand.ensures.parsed refl)) refl)

pub unary-returns-in_err-operand-2-clause-parsed : goal.unary-returns-in_err-operand-2-clause-parsed
unary-returns-in_err-operand-2-clause-parsed t c = exit (tree P.Una) (Sym P.Una) _ _ c.from_residual-in_err-operand-2.ensures.1 (s.symbol (s.right (other (no c.at.ensures c.if-at.false)) (s.first c.in_err-operand-2.ensures.parsed)))

pub unary-returns-in_ok-operand-2-clause-parsed : goal.unary-returns-in_ok-operand-2-clause-parsed
unary-returns-in_ok-operand-2-clause-parsed t c = pass (ReadsStrength c.in_ok-operand-2.operand) (tree P.Una) strong (Sym P.Una) _ _ _ _ c.strength.ensures.parsed (λ x h. (r.symbol (r.right (other (no c.at.ensures c.if-at.false)) (r.both c.in_ok-operand-2.ensures.parsed h.reads refl)) (node (sym h.unary)))) (λ e h. (s.symbol (s.right (other (no c.at.ensures c.if-at.false)) (s.next _ c.in_ok-operand-2.ensures.parsed h))))

pub implication-returns-in_err-left-clause-parsed : goal.implication-returns-in_err-left-clause-parsed
implication-returns-in_err-left-clause-parsed t c = exit (tree P.Imp) (Sym P.Imp) _ _ c.from_residual.ensures.1 (s.symbol (s.first c.in_err-left.ensures.parsed))

pub implication-returns-then-not-at_any-clause-parsed : goal.implication-returns-then-not-at_any-clause-parsed
implication-returns-then-not-at_any-clause-parsed t c = r.symbol (r.both c.in_ok-left.ensures.parsed (r.without (record { holds = (no c.at_any.ensures c.if-not-at_any.true) })) refl) refl

pub implication-returns-in_err-operator-clause-parsed : goal.implication-returns-in_err-operator-clause-parsed
implication-returns-in_err-operator-clause-parsed t c = exit (tree P.Imp) (Sym P.Imp) _ _ c.from_residual-in_err-operator.ensures.1 (s.symbol (s.next _ c.in_ok-left.ensures.parsed (s.maybe (record { holds = (yes c.at_any.ensures c.if-not-at_any.false) }) (s.first (stopped c.in_err-operator.ensures.took)))))

pub implication-returns-in_err-right-clause-parsed : goal.implication-returns-in_err-right-clause-parsed
implication-returns-in_err-right-clause-parsed t c = exit (tree P.Imp) (Sym P.Imp) _ _ c.from_residual-in_err-right.ensures.1 (s.symbol (s.next _ c.in_ok-left.ensures.parsed (s.maybe (record { holds = (yes c.at_any.ensures c.if-not-at_any.false) }) (s.next _ (taken c.in_ok-operator.ensures.took) (right-stop c.in_err-right.ensures.parsed)))))

pub implication-returns-clause-parsed : goal.implication-returns-clause-parsed
implication-returns-clause-parsed t c = finished P.Imp _ _ c.infix.ensures (r.symbol (r.both c.in_ok-left.ensures.parsed (r.with (record { holds = (yes c.at_any.ensures c.if-not-at_any.false) }) (r.both (taken c.in_ok-operator.ensures.took) (right-read c.in_ok-right.ensures.parsed) refl)) refl) refl)

pub suffix_implication-returns-in_err-left-clause-parsed : goal.suffix_implication-returns-in_err-left-clause-parsed
suffix_implication-returns-in_err-left-clause-parsed t c = exit (tree P.Suf) (Sym P.Suf) _ _ c.from_residual.ensures.1 (s.symbol (s.first c.in_err-left.ensures.parsed))

pub suffix_implication-returns-then-not-at_any-clause-parsed : goal.suffix_implication-returns-then-not-at_any-clause-parsed
suffix_implication-returns-then-not-at_any-clause-parsed t c = r.symbol (r.both c.in_ok-left.ensures.parsed (r.without (record { holds = (no c.at_any.ensures c.if-not-at_any.true) })) refl) refl

pub suffix_implication-returns-in_err-operator-clause-parsed : goal.suffix_implication-returns-in_err-operator-clause-parsed
suffix_implication-returns-in_err-operator-clause-parsed t c = exit (tree P.Suf) (Sym P.Suf) _ _ c.from_residual-in_err-operator.ensures.1 (s.symbol (s.next _ c.in_ok-left.ensures.parsed (s.maybe (record { holds = (yes c.at_any.ensures c.if-not-at_any.false) }) (s.first (stopped c.in_err-operator.ensures.took)))))

pub suffix_implication-returns-in_err-right-clause-parsed : goal.suffix_implication-returns-in_err-right-clause-parsed
suffix_implication-returns-in_err-right-clause-parsed t c = exit (tree P.Suf) (Sym P.Suf) _ _ c.from_residual-in_err-right.ensures.1 (s.symbol (s.next _ c.in_ok-left.ensures.parsed (s.maybe (record { holds = (yes c.at_any.ensures c.if-not-at_any.false) }) (s.next _ (taken c.in_ok-operator.ensures.took) c.in_err-right.ensures.parsed))))

pub suffix_implication-returns-clause-parsed : goal.suffix_implication-returns-clause-parsed
suffix_implication-returns-clause-parsed t c = finished P.Suf _ _ c.infix.ensures (r.symbol (r.both c.in_ok-left.ensures.parsed (r.with (record { holds = (yes c.at_any.ensures c.if-not-at_any.false) }) (r.both (taken c.in_ok-operator.ensures.took) c.in_ok-right.ensures.parsed refl)) refl) refl)

pub bounded-returns-in_err-left-clause-parsed : goal.bounded-returns-in_err-left-clause-parsed
bounded-returns-in_err-left-clause-parsed t c = exit (tree P.Bnd) (Sym P.Bnd) _ _ c.from_residual.ensures.1 (s.symbol (s.first c.in_err-left.ensures.parsed))

pub bounded-returns-then-not-at_any-clause-parsed : goal.bounded-returns-then-not-at_any-clause-parsed
bounded-returns-then-not-at_any-clause-parsed t c = r.symbol (r.both c.in_ok-left.ensures.parsed (r.without (record { holds = (no c.at_any.ensures c.if-not-at_any.true) })) refl) refl

pub bounded-returns-in_err-operator-clause-parsed : goal.bounded-returns-in_err-operator-clause-parsed
bounded-returns-in_err-operator-clause-parsed t c = exit (tree P.Bnd) (Sym P.Bnd) _ _ c.from_residual-in_err-operator.ensures.1 (s.symbol (s.next _ c.in_ok-left.ensures.parsed (s.maybe (record { holds = (yes c.at_any.ensures c.if-not-at_any.false) }) (s.first (stopped c.in_err-operator.ensures.took)))))

pub bounded-returns-in_err-right-clause-parsed : goal.bounded-returns-in_err-right-clause-parsed
bounded-returns-in_err-right-clause-parsed t c = exit (tree P.Bnd) (Sym P.Bnd) _ _ c.from_residual-in_err-right.ensures.1 (s.symbol (s.next _ c.in_ok-left.ensures.parsed (s.maybe (record { holds = (yes c.at_any.ensures c.if-not-at_any.false) }) (s.next _ (taken c.in_ok-operator.ensures.took) c.in_err-right.ensures.parsed))))

pub bounded-returns-clause-parsed : goal.bounded-returns-clause-parsed
bounded-returns-clause-parsed t c = finished P.Bnd _ _ c.infix.ensures (r.symbol (r.both c.in_ok-left.ensures.parsed (r.with (record { holds = (yes c.at_any.ensures c.if-not-at_any.false) }) (r.both (taken c.in_ok-operator.ensures.took) c.in_ok-right.ensures.parsed refl)) refl) refl)

pub comparison-returns-in_err-left-clause-parsed : goal.comparison-returns-in_err-left-clause-parsed
comparison-returns-in_err-left-clause-parsed t c = exit (tree P.Cmp) (Sym P.Cmp) _ _ c.from_residual.ensures.1 (s.symbol (s.first c.in_err-left.ensures.parsed))

pub comparison-returns-then-not-at_any-clause-parsed : goal.comparison-returns-then-not-at_any-clause-parsed
comparison-returns-then-not-at_any-clause-parsed t c = r.symbol (r.both c.in_ok-left.ensures.parsed (r.without (record { holds = (no c.at_any.ensures c.if-not-at_any.true) })) refl) refl

pub comparison-returns-in_err-operator-clause-parsed : goal.comparison-returns-in_err-operator-clause-parsed
comparison-returns-in_err-operator-clause-parsed t c = exit (tree P.Cmp) (Sym P.Cmp) _ _ c.from_residual-in_err-operator.ensures.1 (s.symbol (s.next _ c.in_ok-left.ensures.parsed (s.maybe (record { holds = (yes c.at_any.ensures c.if-not-at_any.false) }) (s.first (stopped c.in_err-operator.ensures.took)))))

pub comparison-returns-in_err-right-clause-parsed : goal.comparison-returns-in_err-right-clause-parsed
comparison-returns-in_err-right-clause-parsed t c = exit (tree P.Cmp) (Sym P.Cmp) _ _ c.from_residual-in_err-right.ensures.1 (s.symbol (s.next _ c.in_ok-left.ensures.parsed (s.maybe (record { holds = (yes c.at_any.ensures c.if-not-at_any.false) }) (s.next _ (taken c.in_ok-operator.ensures.took) c.in_err-right.ensures.parsed))))

pub comparison-returns-clause-parsed : goal.comparison-returns-clause-parsed
comparison-returns-clause-parsed t c = finished P.Cmp _ _ c.infix.ensures (r.symbol (r.both c.in_ok-left.ensures.parsed (r.with (record { holds = (yes c.at_any.ensures c.if-not-at_any.false) }) (r.both (taken c.in_ok-operator.ensures.took) c.in_ok-right.ensures.parsed refl)) refl) refl)

pub bool_comparison-returns-in_err-left-clause-parsed : goal.bool_comparison-returns-in_err-left-clause-parsed
bool_comparison-returns-in_err-left-clause-parsed t c = exit (tree P.Bcmp) (Sym P.Bcmp) _ _ c.from_residual.ensures.1 (s.symbol (s.first c.in_err-left.ensures.parsed))

pub bool_comparison-returns-then-not-at_any-clause-parsed : goal.bool_comparison-returns-then-not-at_any-clause-parsed
bool_comparison-returns-then-not-at_any-clause-parsed t c = r.symbol (r.both c.in_ok-left.ensures.parsed (r.without (record { holds = (no c.at_any.ensures c.if-not-at_any.true) })) refl) refl

pub bool_comparison-returns-in_err-operator-clause-parsed : goal.bool_comparison-returns-in_err-operator-clause-parsed
bool_comparison-returns-in_err-operator-clause-parsed t c = exit (tree P.Bcmp) (Sym P.Bcmp) _ _ c.from_residual-in_err-operator.ensures.1 (s.symbol (s.next _ c.in_ok-left.ensures.parsed (s.maybe (record { holds = (yes c.at_any.ensures c.if-not-at_any.false) }) (s.first (stopped c.in_err-operator.ensures.took)))))

pub bool_comparison-returns-in_err-right-clause-parsed : goal.bool_comparison-returns-in_err-right-clause-parsed
bool_comparison-returns-in_err-right-clause-parsed t c = exit (tree P.Bcmp) (Sym P.Bcmp) _ _ c.from_residual-in_err-right.ensures.1 (s.symbol (s.next _ c.in_ok-left.ensures.parsed (s.maybe (record { holds = (yes c.at_any.ensures c.if-not-at_any.false) }) (s.next _ (taken c.in_ok-operator.ensures.took) c.in_err-right.ensures.parsed))))

pub bool_comparison-returns-clause-parsed : goal.bool_comparison-returns-clause-parsed
bool_comparison-returns-clause-parsed t c = finished P.Bcmp _ _ c.infix.ensures (r.symbol (r.both c.in_ok-left.ensures.parsed (r.with (record { holds = (yes c.at_any.ensures c.if-not-at_any.false) }) (r.both (taken c.in_ok-operator.ensures.took) c.in_ok-right.ensures.parsed refl)) refl) refl)

pub termination-returns-in_err-left-clause-parsed : goal.termination-returns-in_err-left-clause-parsed
termination-returns-in_err-left-clause-parsed t c = exit (tree P.Trm) (Sym P.Trm) _ _ c.from_residual.ensures.1 (s.symbol (s.first c.in_err-left.ensures.parsed))

pub termination-loop-alloc-init : goal.termination-loop-alloc-init
termination-loop-alloc-init t c = record { fewer = omega arith; rounds = joined-start _ _ _ }

pub termination-returns-in_err-operator-clause-parsed : goal.termination-returns-in_err-operator-clause-parsed
termination-returns-in_err-operator-clause-parsed t c = exit (tree P.Trm) (Sym P.Trm) _ _ c.from_residual-in_err-operator.ensures.1 (s.symbol (s.next _ c.in_ok-left.ensures.parsed (through-stop _ c.loop-alloc.invariant.rounds.through (record { holds = (yes c.at_any.ensures c.loop-alloc-test.true) }) (s.first (stopped c.in_err-operator.ensures.took)))))

pub termination-returns-in_err-right-clause-parsed : goal.termination-returns-in_err-right-clause-parsed
termination-returns-in_err-right-clause-parsed t c = exit (tree P.Trm) (Sym P.Trm) _ _ c.from_residual-in_err-right.ensures.1 (s.symbol (s.next _ c.in_ok-left.ensures.parsed (through-stop _ c.loop-alloc.invariant.rounds.through (record { holds = (yes c.at_any.ensures c.loop-alloc-test.true) }) (s.next _ (taken c.in_ok-operator.ensures.took) c.in_err-right.ensures.parsed))))

pub termination-returns-in_err-left-2-clause-parsed : goal.termination-returns-in_err-left-2-clause-parsed
termination-returns-in_err-left-2-clause-parsed t c = spent (tree P.Trm) (Sym P.Trm) _ _ _ _ c.from_residual-in_err-left-2.ensures.1 c.in_err-left-2.ensures

pub termination-loop-alloc-preserved : goal.termination-loop-alloc-preserved
termination-loop-alloc-preserved t c = record { fewer = omega arith; rounds = joined-more c.loop-alloc.invariant.rounds (record { holds = (yes c.at_any.ensures c.loop-alloc-test.true) }) (r.both (taken c.in_ok-operator.ensures.took) c.in_ok-right.ensures.parsed refl) c.in_ok-left-2.ensures }

pub termination-returns-clause-parsed : goal.termination-returns-clause-parsed
termination-returns-clause-parsed t c = r.symbol (r.both c.in_ok-left.ensures.parsed (through-end c.loop-alloc.invariant.rounds.through (record { holds = (no c.at_any.ensures c.loop-alloc-test.false) })) refl) (node (sym (infixed-end c.loop-alloc.invariant.rounds.folds)))

pub disjunction-returns-in_err-left-clause-parsed : goal.disjunction-returns-in_err-left-clause-parsed
disjunction-returns-in_err-left-clause-parsed t c = exit (tree P.Or) (Sym P.Or) _ _ c.from_residual.ensures.1 (s.symbol (s.first c.in_err-left.ensures.parsed))

pub disjunction-loop-alloc-init : goal.disjunction-loop-alloc-init
disjunction-loop-alloc-init t c = record { fewer = omega arith; rounds = joined-start _ _ _ }

pub disjunction-returns-in_err-operator-clause-parsed : goal.disjunction-returns-in_err-operator-clause-parsed
disjunction-returns-in_err-operator-clause-parsed t c = exit (tree P.Or) (Sym P.Or) _ _ c.from_residual-in_err-operator.ensures.1 (s.symbol (s.next _ c.in_ok-left.ensures.parsed (through-stop _ c.loop-alloc.invariant.rounds.through (record { holds = (yes c.at.ensures c.loop-alloc-test.true) }) (s.first (stopped c.in_err-operator.ensures.took)))))

pub disjunction-returns-in_err-right-clause-parsed : goal.disjunction-returns-in_err-right-clause-parsed
disjunction-returns-in_err-right-clause-parsed t c = exit (tree P.Or) (Sym P.Or) _ _ c.from_residual-in_err-right.ensures.1 (s.symbol (s.next _ c.in_ok-left.ensures.parsed (through-stop _ c.loop-alloc.invariant.rounds.through (record { holds = (yes c.at.ensures c.loop-alloc-test.true) }) (s.next _ (taken c.in_ok-operator.ensures.took) c.in_err-right.ensures.parsed))))

pub disjunction-returns-in_err-left-2-clause-parsed : goal.disjunction-returns-in_err-left-2-clause-parsed
disjunction-returns-in_err-left-2-clause-parsed t c = spent (tree P.Or) (Sym P.Or) _ _ _ _ c.from_residual-in_err-left-2.ensures.1 c.in_err-left-2.ensures

pub disjunction-loop-alloc-preserved : goal.disjunction-loop-alloc-preserved
disjunction-loop-alloc-preserved t c = record { fewer = omega arith; rounds = joined-more c.loop-alloc.invariant.rounds (record { holds = (yes c.at.ensures c.loop-alloc-test.true) }) (r.both (taken c.in_ok-operator.ensures.took) c.in_ok-right.ensures.parsed refl) c.in_ok-left-2.ensures }

pub disjunction-returns-clause-parsed : goal.disjunction-returns-clause-parsed
disjunction-returns-clause-parsed t c = r.symbol (r.both c.in_ok-left.ensures.parsed (through-end c.loop-alloc.invariant.rounds.through (record { holds = (no c.at.ensures c.loop-alloc-test.false) })) refl) (node (sym (infixed-end c.loop-alloc.invariant.rounds.folds)))

pub conjunction-returns-in_err-left-clause-parsed : goal.conjunction-returns-in_err-left-clause-parsed
conjunction-returns-in_err-left-clause-parsed t c = exit (tree P.And) (Sym P.And) _ _ c.from_residual.ensures.1 (s.symbol (s.first c.in_err-left.ensures.parsed))

pub conjunction-loop-alloc-init : goal.conjunction-loop-alloc-init
conjunction-loop-alloc-init t c = record { fewer = omega arith; rounds = joined-start _ _ _ }

pub conjunction-returns-in_err-operator-clause-parsed : goal.conjunction-returns-in_err-operator-clause-parsed
conjunction-returns-in_err-operator-clause-parsed t c = exit (tree P.And) (Sym P.And) _ _ c.from_residual-in_err-operator.ensures.1 (s.symbol (s.next _ c.in_ok-left.ensures.parsed (through-stop _ c.loop-alloc.invariant.rounds.through (record { holds = (yes c.at.ensures c.loop-alloc-test.true) }) (s.first (stopped c.in_err-operator.ensures.took)))))

pub conjunction-returns-in_err-right-clause-parsed : goal.conjunction-returns-in_err-right-clause-parsed
conjunction-returns-in_err-right-clause-parsed t c = exit (tree P.And) (Sym P.And) _ _ c.from_residual-in_err-right.ensures.1 (s.symbol (s.next _ c.in_ok-left.ensures.parsed (through-stop _ c.loop-alloc.invariant.rounds.through (record { holds = (yes c.at.ensures c.loop-alloc-test.true) }) (s.next _ (taken c.in_ok-operator.ensures.took) c.in_err-right.ensures.parsed))))

pub conjunction-returns-in_err-left-2-clause-parsed : goal.conjunction-returns-in_err-left-2-clause-parsed
conjunction-returns-in_err-left-2-clause-parsed t c = spent (tree P.And) (Sym P.And) _ _ _ _ c.from_residual-in_err-left-2.ensures.1 c.in_err-left-2.ensures

pub conjunction-loop-alloc-preserved : goal.conjunction-loop-alloc-preserved
conjunction-loop-alloc-preserved t c = record { fewer = omega arith; rounds = joined-more c.loop-alloc.invariant.rounds (record { holds = (yes c.at.ensures c.loop-alloc-test.true) }) (r.both (taken c.in_ok-operator.ensures.took) c.in_ok-right.ensures.parsed refl) c.in_ok-left-2.ensures }

pub conjunction-returns-clause-parsed : goal.conjunction-returns-clause-parsed
conjunction-returns-clause-parsed t c = r.symbol (r.both c.in_ok-left.ensures.parsed (through-end c.loop-alloc.invariant.rounds.through (record { holds = (no c.at.ensures c.loop-alloc-test.false) })) refl) (node (sym (infixed-end c.loop-alloc.invariant.rounds.folds)))

pub sequence-returns-in_err-left-clause-parsed : goal.sequence-returns-in_err-left-clause-parsed
sequence-returns-in_err-left-clause-parsed t c = exit (tree P.Sere) (Sym P.Sere) _ _ c.from_residual.ensures.1 (s.symbol (s.first c.in_err-left.ensures.parsed))

pub sequence-loop-alloc-init : goal.sequence-loop-alloc-init
sequence-loop-alloc-init t c = record { fewer = omega arith; rounds = joined-start _ _ _ }

pub sequence-returns-in_err-operator-clause-parsed : goal.sequence-returns-in_err-operator-clause-parsed
sequence-returns-in_err-operator-clause-parsed t c = exit (tree P.Sere) (Sym P.Sere) _ _ c.from_residual-in_err-operator.ensures.1 (s.symbol (s.next _ c.in_ok-left.ensures.parsed (through-stop _ c.loop-alloc.invariant.rounds.through (record { holds = (yes c.at.ensures c.loop-alloc-test.true) }) (s.first (stopped c.in_err-operator.ensures.took)))))

pub sequence-returns-in_err-right-clause-parsed : goal.sequence-returns-in_err-right-clause-parsed
sequence-returns-in_err-right-clause-parsed t c = exit (tree P.Sere) (Sym P.Sere) _ _ c.from_residual-in_err-right.ensures.1 (s.symbol (s.next _ c.in_ok-left.ensures.parsed (through-stop _ c.loop-alloc.invariant.rounds.through (record { holds = (yes c.at.ensures c.loop-alloc-test.true) }) (s.next _ (taken c.in_ok-operator.ensures.took) c.in_err-right.ensures.parsed))))

pub sequence-returns-in_err-left-2-clause-parsed : goal.sequence-returns-in_err-left-2-clause-parsed
sequence-returns-in_err-left-2-clause-parsed t c = spent (tree P.Sere) (Sym P.Sere) _ _ _ _ c.from_residual-in_err-left-2.ensures.1 c.in_err-left-2.ensures

pub sequence-loop-alloc-preserved : goal.sequence-loop-alloc-preserved
sequence-loop-alloc-preserved t c = record { fewer = omega arith; rounds = joined-more c.loop-alloc.invariant.rounds (record { holds = (yes c.at.ensures c.loop-alloc-test.true) }) (r.both (taken c.in_ok-operator.ensures.took) c.in_ok-right.ensures.parsed refl) c.in_ok-left-2.ensures }

pub sequence-returns-clause-parsed : goal.sequence-returns-clause-parsed
sequence-returns-clause-parsed t c = r.symbol (r.both c.in_ok-left.ensures.parsed (through-end c.loop-alloc.invariant.rounds.through (record { holds = (no c.at.ensures c.loop-alloc-test.false) })) refl) (node (sym (infixed-end c.loop-alloc.invariant.rounds.folds)))

pub fusion-returns-in_err-left-clause-parsed : goal.fusion-returns-in_err-left-clause-parsed
fusion-returns-in_err-left-clause-parsed t c = exit (tree P.Fus) (Sym P.Fus) _ _ c.from_residual.ensures.1 (s.symbol (s.first c.in_err-left.ensures.parsed))

pub fusion-loop-alloc-init : goal.fusion-loop-alloc-init
fusion-loop-alloc-init t c = record { fewer = omega arith; rounds = joined-start _ _ _ }

pub fusion-returns-in_err-operator-clause-parsed : goal.fusion-returns-in_err-operator-clause-parsed
fusion-returns-in_err-operator-clause-parsed t c = exit (tree P.Fus) (Sym P.Fus) _ _ c.from_residual-in_err-operator.ensures.1 (s.symbol (s.next _ c.in_ok-left.ensures.parsed (through-stop _ c.loop-alloc.invariant.rounds.through (record { holds = (yes c.at.ensures c.loop-alloc-test.true) }) (s.first (stopped c.in_err-operator.ensures.took)))))

pub fusion-returns-in_err-right-clause-parsed : goal.fusion-returns-in_err-right-clause-parsed
fusion-returns-in_err-right-clause-parsed t c = exit (tree P.Fus) (Sym P.Fus) _ _ c.from_residual-in_err-right.ensures.1 (s.symbol (s.next _ c.in_ok-left.ensures.parsed (through-stop _ c.loop-alloc.invariant.rounds.through (record { holds = (yes c.at.ensures c.loop-alloc-test.true) }) (s.next _ (taken c.in_ok-operator.ensures.took) c.in_err-right.ensures.parsed))))

pub fusion-returns-in_err-left-2-clause-parsed : goal.fusion-returns-in_err-left-2-clause-parsed
fusion-returns-in_err-left-2-clause-parsed t c = spent (tree P.Fus) (Sym P.Fus) _ _ _ _ c.from_residual-in_err-left-2.ensures.1 c.in_err-left-2.ensures

pub fusion-loop-alloc-preserved : goal.fusion-loop-alloc-preserved
fusion-loop-alloc-preserved t c = record { fewer = omega arith; rounds = joined-more c.loop-alloc.invariant.rounds (record { holds = (yes c.at.ensures c.loop-alloc-test.true) }) (r.both (taken c.in_ok-operator.ensures.took) c.in_ok-right.ensures.parsed refl) c.in_ok-left-2.ensures }

pub fusion-returns-clause-parsed : goal.fusion-returns-clause-parsed
fusion-returns-clause-parsed t c = r.symbol (r.both c.in_ok-left.ensures.parsed (through-end c.loop-alloc.invariant.rounds.through (record { holds = (no c.at.ensures c.loop-alloc-test.false) })) refl) (node (sym (infixed-end c.loop-alloc.invariant.rounds.folds)))

pub alternation-returns-in_err-left-clause-parsed : goal.alternation-returns-in_err-left-clause-parsed
alternation-returns-in_err-left-clause-parsed t c = exit (tree P.Alt) (Sym P.Alt) _ _ c.from_residual.ensures.1 (s.symbol (s.first c.in_err-left.ensures.parsed))

pub alternation-loop-alloc-init : goal.alternation-loop-alloc-init
alternation-loop-alloc-init t c = record { fewer = omega arith; rounds = joined-start _ _ _ }

pub alternation-returns-in_err-operator-clause-parsed : goal.alternation-returns-in_err-operator-clause-parsed
alternation-returns-in_err-operator-clause-parsed t c = exit (tree P.Alt) (Sym P.Alt) _ _ c.from_residual-in_err-operator.ensures.1 (s.symbol (s.next _ c.in_ok-left.ensures.parsed (through-stop _ c.loop-alloc.invariant.rounds.through (record { holds = (yes c.at.ensures c.loop-alloc-test.true) }) (s.first (stopped c.in_err-operator.ensures.took)))))

pub alternation-returns-in_err-right-clause-parsed : goal.alternation-returns-in_err-right-clause-parsed
alternation-returns-in_err-right-clause-parsed t c = exit (tree P.Alt) (Sym P.Alt) _ _ c.from_residual-in_err-right.ensures.1 (s.symbol (s.next _ c.in_ok-left.ensures.parsed (through-stop _ c.loop-alloc.invariant.rounds.through (record { holds = (yes c.at.ensures c.loop-alloc-test.true) }) (s.next _ (taken c.in_ok-operator.ensures.took) c.in_err-right.ensures.parsed))))

pub alternation-returns-in_err-left-2-clause-parsed : goal.alternation-returns-in_err-left-2-clause-parsed
alternation-returns-in_err-left-2-clause-parsed t c = spent (tree P.Alt) (Sym P.Alt) _ _ _ _ c.from_residual-in_err-left-2.ensures.1 c.in_err-left-2.ensures

pub alternation-loop-alloc-preserved : goal.alternation-loop-alloc-preserved
alternation-loop-alloc-preserved t c = record { fewer = omega arith; rounds = joined-more c.loop-alloc.invariant.rounds (record { holds = (yes c.at.ensures c.loop-alloc-test.true) }) (r.both (taken c.in_ok-operator.ensures.took) c.in_ok-right.ensures.parsed refl) c.in_ok-left-2.ensures }

pub alternation-returns-clause-parsed : goal.alternation-returns-clause-parsed
alternation-returns-clause-parsed t c = r.symbol (r.both c.in_ok-left.ensures.parsed (through-end c.loop-alloc.invariant.rounds.through (record { holds = (no c.at.ensures c.loop-alloc-test.false) })) refl) (node (sym (infixed-end c.loop-alloc.invariant.rounds.folds)))

pub bool_or-returns-in_err-left-clause-parsed : goal.bool_or-returns-in_err-left-clause-parsed
bool_or-returns-in_err-left-clause-parsed t c = exit (tree P.Bor) (Sym P.Bor) _ _ c.from_residual.ensures.1 (s.symbol (s.first c.in_err-left.ensures.parsed))

pub bool_or-loop-alloc-init : goal.bool_or-loop-alloc-init
bool_or-loop-alloc-init t c = record { fewer = omega arith; rounds = joined-start _ _ _ }

pub bool_or-returns-in_err-operator-clause-parsed : goal.bool_or-returns-in_err-operator-clause-parsed
bool_or-returns-in_err-operator-clause-parsed t c = exit (tree P.Bor) (Sym P.Bor) _ _ c.from_residual-in_err-operator.ensures.1 (s.symbol (s.next _ c.in_ok-left.ensures.parsed (through-stop _ c.loop-alloc.invariant.rounds.through (record { holds = (yes c.at.ensures c.loop-alloc-test.true) }) (s.first (stopped c.in_err-operator.ensures.took)))))

pub bool_or-returns-in_err-right-clause-parsed : goal.bool_or-returns-in_err-right-clause-parsed
bool_or-returns-in_err-right-clause-parsed t c = exit (tree P.Bor) (Sym P.Bor) _ _ c.from_residual-in_err-right.ensures.1 (s.symbol (s.next _ c.in_ok-left.ensures.parsed (through-stop _ c.loop-alloc.invariant.rounds.through (record { holds = (yes c.at.ensures c.loop-alloc-test.true) }) (s.next _ (taken c.in_ok-operator.ensures.took) c.in_err-right.ensures.parsed))))

pub bool_or-returns-in_err-left-2-clause-parsed : goal.bool_or-returns-in_err-left-2-clause-parsed
bool_or-returns-in_err-left-2-clause-parsed t c = spent (tree P.Bor) (Sym P.Bor) _ _ _ _ c.from_residual-in_err-left-2.ensures.1 c.in_err-left-2.ensures

pub bool_or-loop-alloc-preserved : goal.bool_or-loop-alloc-preserved
bool_or-loop-alloc-preserved t c = record { fewer = omega arith; rounds = joined-more c.loop-alloc.invariant.rounds (record { holds = (yes c.at.ensures c.loop-alloc-test.true) }) (r.both (taken c.in_ok-operator.ensures.took) c.in_ok-right.ensures.parsed refl) c.in_ok-left-2.ensures }

pub bool_or-returns-clause-parsed : goal.bool_or-returns-clause-parsed
bool_or-returns-clause-parsed t c = r.symbol (r.both c.in_ok-left.ensures.parsed (through-end c.loop-alloc.invariant.rounds.through (record { holds = (no c.at.ensures c.loop-alloc-test.false) })) refl) (node (sym (infixed-end c.loop-alloc.invariant.rounds.folds)))

pub bool_and-returns-in_err-left-clause-parsed : goal.bool_and-returns-in_err-left-clause-parsed
bool_and-returns-in_err-left-clause-parsed t c = exit (tree P.Band) (Sym P.Band) _ _ c.from_residual.ensures.1 (s.symbol (s.first c.in_err-left.ensures.parsed))

pub bool_and-loop-alloc-init : goal.bool_and-loop-alloc-init
bool_and-loop-alloc-init t c = record { fewer = omega arith; rounds = joined-start _ _ _ }

pub bool_and-returns-in_err-operator-clause-parsed : goal.bool_and-returns-in_err-operator-clause-parsed
bool_and-returns-in_err-operator-clause-parsed t c = exit (tree P.Band) (Sym P.Band) _ _ c.from_residual-in_err-operator.ensures.1 (s.symbol (s.next _ c.in_ok-left.ensures.parsed (through-stop _ c.loop-alloc.invariant.rounds.through (record { holds = (yes c.at.ensures c.loop-alloc-test.true) }) (s.first (stopped c.in_err-operator.ensures.took)))))

pub bool_and-returns-in_err-right-clause-parsed : goal.bool_and-returns-in_err-right-clause-parsed
bool_and-returns-in_err-right-clause-parsed t c = exit (tree P.Band) (Sym P.Band) _ _ c.from_residual-in_err-right.ensures.1 (s.symbol (s.next _ c.in_ok-left.ensures.parsed (through-stop _ c.loop-alloc.invariant.rounds.through (record { holds = (yes c.at.ensures c.loop-alloc-test.true) }) (s.next _ (taken c.in_ok-operator.ensures.took) c.in_err-right.ensures.parsed))))

pub bool_and-returns-in_err-left-2-clause-parsed : goal.bool_and-returns-in_err-left-2-clause-parsed
bool_and-returns-in_err-left-2-clause-parsed t c = spent (tree P.Band) (Sym P.Band) _ _ _ _ c.from_residual-in_err-left-2.ensures.1 c.in_err-left-2.ensures

pub bool_and-loop-alloc-preserved : goal.bool_and-loop-alloc-preserved
bool_and-loop-alloc-preserved t c = record { fewer = omega arith; rounds = joined-more c.loop-alloc.invariant.rounds (record { holds = (yes c.at.ensures c.loop-alloc-test.true) }) (r.both (taken c.in_ok-operator.ensures.took) c.in_ok-right.ensures.parsed refl) c.in_ok-left-2.ensures }

pub bool_and-returns-clause-parsed : goal.bool_and-returns-clause-parsed
bool_and-returns-clause-parsed t c = r.symbol (r.both c.in_ok-left.ensures.parsed (through-end c.loop-alloc.invariant.rounds.through (record { holds = (no c.at.ensures c.loop-alloc-test.false) })) refl) (node (sym (infixed-end c.loop-alloc.invariant.rounds.folds)))

pub clocked-returns-in_err-operand-clause-parsed : goal.clocked-returns-in_err-operand-clause-parsed
clocked-returns-in_err-operand-clause-parsed t c = exit (tree P.Clk) (Sym P.Clk) _ _ c.from_residual.ensures.1 (s.symbol (s.first c.in_err-operand.ensures.parsed))

pub clocked-returns-then-not-at_post-clause-parsed : goal.clocked-returns-then-not-at_post-clause-parsed
clocked-returns-then-not-at_post-clause-parsed t c = r.symbol (r.both c.in_ok-operand.ensures.parsed (r.without (record { holds = (no c.at_post.ensures c.if-not-at_post.true) })) refl) refl

pub clocked-returns-in_err-operand-2-clause-parsed : goal.clocked-returns-in_err-operand-2-clause-parsed
clocked-returns-in_err-operand-2-clause-parsed t c = exit (tree P.Clk) (Sym P.Clk) _ _ c.from_residual-in_err-operand-2.ensures.1 (s.symbol (s.next _ c.in_ok-operand.ensures.parsed (s.maybe (record { holds = (yes c.at_post.ensures c.if-not-at_post.false) }) (regroup-stop (record { holds = (yes c.at_post.ensures c.if-not-at_post.false) }) (s.first c.in_err-operand-2.ensures.parsed)))))

pub clocked-returns-clause-parsed : goal.clocked-returns-clause-parsed
clocked-returns-clause-parsed t c = pass (ReadsStrength c.in_ok-operand-2.operand) (tree P.Clk) strong (Sym P.Clk) _ _ _ _ c.strength.ensures.parsed (λ x h. (r.symbol (r.both c.in_ok-operand.ensures.parsed (r.with (record { holds = (yes c.at_post.ensures c.if-not-at_post.false) }) (regroup-read (record { holds = (yes c.at_post.ensures c.if-not-at_post.false) }) (r.both c.in_ok-operand-2.ensures.parsed.reads h.reads refl))) refl) (node (sym (c.in_ok-operand-2.ensures.parsed.through.posted h.items ∙ h.posted))))) (λ e h. (s.symbol (s.next _ c.in_ok-operand.ensures.parsed (s.maybe (record { holds = (yes c.at_post.ensures c.if-not-at_post.false) }) (regroup-stop (record { holds = (yes c.at_post.ensures c.if-not-at_post.false) }) (s.next _ c.in_ok-operand-2.ensures.parsed.reads h))))))

pub primary-returns-then-at_atom-clause-parsed : goal.primary-returns-then-at_atom-clause-parsed
primary-returns-then-at_atom-clause-parsed t c = pass (tree P.Atom) (tree P.Pri) (Sym P.Atom) (Sym P.Pri) _ _ _ _ c.atom.ensures.parsed (λ x h. (r.symbol (r.left (chosen refl (yes c.at_atom.ensures c.if-at_atom.true)) h) refl)) (λ e h. (s.symbol (s.left (chosen refl (yes c.at_atom.ensures c.if-at_atom.true)) h)))

pub primary-returns-then-at-clause-parsed : goal.primary-returns-then-at-clause-parsed
primary-returns-then-at-clause-parsed t c = pass ReadsBraces (tree P.Pri) braces (Sym P.Pri) _ _ _ _ c.braced.ensures.parsed (λ x h. (r.symbol (r.right (other (no c.at_atom.ensures c.if-at_atom.false)) (r.left (chosen refl (yes c.at.ensures c.if-at.true)) h.reads)) (node (sym h.same)))) (λ e h. (s.symbol (s.right (other (no c.at_atom.ensures c.if-at_atom.false)) (s.left (chosen refl (yes c.at.ensures c.if-at.true)) h))))

pub primary-returns-else-at-clause-parsed : goal.primary-returns-else-at-clause-parsed
primary-returns-else-at-clause-parsed t c = pass (tree P.Counted) (tree P.Pri) (Sym P.Counted) (Sym P.Pri) _ _ _ _ c.counted.ensures.parsed (λ x h. (r.symbol (r.right (other (no c.at_atom.ensures c.if-at_atom.false)) (r.right (other (no c.at.ensures c.if-at.false)) h)) refl)) (λ e h. (s.symbol (s.right (other (no c.at_atom.ensures c.if-at_atom.false)) (s.right (other (no c.at.ensures c.if-at.false)) h))))

pub braced-returns-in_err-opening-clause-parsed : goal.braced-returns-in_err-opening-clause-parsed
braced-returns-in_err-opening-clause-parsed t c = exit ReadsBraces braces _ _ c.from_residual.ensures.1 (s.first (stopped c.in_err-opening.ensures.took))

pub braced-returns-in_err-inside-clause-parsed : goal.braced-returns-in_err-inside-clause-parsed
braced-returns-in_err-inside-clause-parsed t c = exit ReadsBraces braces _ _ c.from_residual-in_err-inside.ensures.1 (s.next _ (taken c.in_ok-opening.ensures.took) (s.first c.in_err-inside.ensures.parsed))

pub braced-returns-in_err-take-clause-parsed : goal.braced-returns-in_err-take-clause-parsed
braced-returns-in_err-take-clause-parsed t c = exit ReadsBraces braces _ _ c.from_residual-in_err-take.ensures.1 (s.next _ (taken c.in_ok-opening.ensures.took) (s.next _ c.in_ok-inside.ensures.parsed (stopped c.in_err-take.ensures.took)))

pub braced-returns-clause-parsed : goal.braced-returns-clause-parsed
braced-returns-clause-parsed t c = made ReadsBraces braces _ _ c.braced.ensures (λ x h. record { opening = c.in_ok-opening.opening.now; closing = c.in_ok-take.field-0.now; inside = node_of c.in_ok-inside.inside.tree.value; kind = kind-of_one _ _ c.in_ok-opening.ensures.took.kind; same = h; reads = (r.both (taken c.in_ok-opening.ensures.took) (r.both c.in_ok-inside.ensures.parsed (taken c.in_ok-take.ensures.took) refl) refl) })

pub grouped-returns-in_err-opening-clause-parsed : goal.grouped-returns-in_err-opening-clause-parsed
grouped-returns-in_err-opening-clause-parsed t c = exit (Gave atom grouped) grouped _ _ c.from_residual.ensures.1 (s.first (stopped c.in_err-opening.ensures.took))

pub grouped-returns-in_err-inside-clause-parsed : goal.grouped-returns-in_err-inside-clause-parsed
grouped-returns-in_err-inside-clause-parsed t c = exit (Gave atom grouped) grouped _ _ c.from_residual-in_err-inside.ensures.1 (s.next _ (taken c.in_ok-opening.ensures.took) (s.first c.in_err-inside.ensures.parsed))

pub grouped-returns-in_err-take-clause-parsed : goal.grouped-returns-in_err-take-clause-parsed
grouped-returns-in_err-take-clause-parsed t c = exit (Gave atom grouped) grouped _ _ c.from_residual-in_err-take.ensures.1 (s.next _ (taken c.in_ok-opening.ensures.took) (s.next _ c.in_ok-inside.ensures.parsed (stopped c.in_err-take.ensures.took)))

pub grouped-returns-clause-parsed : goal.grouped-returns-clause-parsed
grouped-returns-clause-parsed t c = made (Gave atom grouped) grouped _ _ c.grouped.ensures (λ x h. record { items = Tok c.in_ok-opening.opening.now ∷ Tree (node_of c.in_ok-inside.inside.tree.value) ∷ Tok c.in_ok-take.field-0.now ∷ []; same = h; reads = (r.both (taken c.in_ok-opening.ensures.took) (r.both c.in_ok-inside.ensures.parsed (taken c.in_ok-take.ensures.took) refl) refl) })

pub group-returns-in_err-take-clause-parsed : goal.group-returns-in_err-take-clause-parsed
group-returns-in_err-take-clause-parsed t c = exit ReadsGroup grouped _ _ c.from_residual.ensures.1 (s.first (stopped c.in_err-take.ensures.took))

pub group-returns-in_err-inside-clause-parsed : goal.group-returns-in_err-inside-clause-parsed
group-returns-in_err-inside-clause-parsed t c = exit ReadsGroup grouped _ _ c.from_residual-in_err-inside.ensures.1 (s.next _ (taken c.in_ok-take.ensures.took) (s.first c.in_err-inside.ensures.parsed))

pub group-returns-in_err-take-2-clause-parsed : goal.group-returns-in_err-take-2-clause-parsed
group-returns-in_err-take-2-clause-parsed t c = exit ReadsGroup grouped _ _ c.from_residual-in_err-take-2.ensures.1 (s.next _ (taken c.in_ok-take.ensures.took) (s.next _ c.in_ok-inside.ensures.parsed (stopped c.in_err-take-2.ensures.took)))

pub group-returns-clause-parsed : goal.group-returns-clause-parsed
group-returns-clause-parsed t c = record { opening = c.in_ok-take.field-0.now; closing = c.in_ok-take-2.field-0.now; reads = (r.both (taken c.in_ok-take.ensures.took) (r.both c.in_ok-inside.ensures.parsed (taken c.in_ok-take-2.ensures.took) refl) refl) }

pub atom-returns-then-at-clause-parsed : goal.atom-returns-then-at-clause-parsed
atom-returns-then-at-clause-parsed t c = pass (Gave atom signal) (tree P.Atom) signal (Sym P.Atom) _ _ _ _ c.signal.ensures.parsed (λ x h. (r.symbol (r.left (chosen refl (yes c.at.ensures c.if-at.true)) h.reads) (node (sym h.same)))) (λ e h. (s.symbol (s.left (chosen refl (yes c.at.ensures c.if-at.true)) h)))

pub atom-returns-in_err-token-clause-parsed : goal.atom-returns-in_err-token-clause-parsed
atom-returns-in_err-token-clause-parsed t c = exit (tree P.Atom) (Sym P.Atom) _ _ c.from_residual.ensures.1 (s.symbol (s.right (other (no c.at.ensures c.if-at.false)) (stopped-beside (edged // grouped) refl (yes c.at_any.ensures c.if-at_any.true) c.in_err-token.ensures.took)))

pub atom-returns-in_ok-token-clause-parsed : goal.atom-returns-in_ok-token-clause-parsed
atom-returns-in_ok-token-clause-parsed t c = finished P.Atom _ _ c.literal.ensures (r.symbol (r.right (other (no c.at.ensures c.if-at.false)) (taken-beside (edged // grouped) refl c.in_ok-token.ensures.took)) refl)

pub atom-returns-then-at_any-2-clause-parsed : goal.atom-returns-then-at_any-2-clause-parsed
atom-returns-then-at_any-2-clause-parsed t c = pass (Gave atom edged) (tree P.Atom) edged (Sym P.Atom) _ _ _ _ c.edge.ensures.parsed (λ x h. (r.symbol (r.right (other (no c.at.ensures c.if-at.false)) (skip-read (kinds.Number ∷ kinds.Constant ∷ kinds.True ∷ kinds.False ∷ []) (no c.at_any.ensures c.if-at_any.false) (r.left (chosen refl (yes c.at_any-else-at_any.ensures c.if-at_any-2.true)) h.reads))) (node (sym h.same)))) (λ e h. (s.symbol (s.right (other (no c.at.ensures c.if-at.false)) (skip-stop (kinds.Number ∷ kinds.Constant ∷ kinds.True ∷ kinds.False ∷ []) (no c.at_any.ensures c.if-at_any.false) (s.left (chosen refl (yes c.at_any-else-at_any.ensures c.if-at_any-2.true)) h)))))

pub atom-returns-else-at_any-2-clause-parsed : goal.atom-returns-else-at_any-2-clause-parsed
atom-returns-else-at_any-2-clause-parsed t c = pass (Gave atom grouped) (tree P.Atom) grouped (Sym P.Atom) _ _ _ _ c.grouped.ensures.parsed (λ x h. (r.symbol (r.right (other (no c.at.ensures c.if-at.false)) (skip-read (kinds.Number ∷ kinds.Constant ∷ kinds.True ∷ kinds.False ∷ []) (no c.at_any.ensures c.if-at_any.false) (r.right (other (no c.at_any-else-at_any.ensures c.if-at_any-2.false)) h.reads))) (node (sym h.same)))) (λ e h. (s.symbol (s.right (other (no c.at.ensures c.if-at.false)) (skip-stop (kinds.Number ∷ kinds.Constant ∷ kinds.True ∷ kinds.False ∷ []) (no c.at_any.ensures c.if-at_any.false) (s.right (other (no c.at_any-else-at_any.ensures c.if-at_any-2.false)) h)))))

pub clock-returns-then-at-clause-parsed : goal.clock-returns-then-at-clause-parsed
clock-returns-then-at-clause-parsed t c = pass (Gave atom signal) (tree P.Clk0) signal (Sym P.Clk0) _ _ _ _ c.signal.ensures.parsed (λ x h. (r.symbol (r.left (chosen refl (yes c.at.ensures c.if-at.true)) h.reads) (node (sym h.same)))) (λ e h. (s.symbol (s.left (chosen refl (yes c.at.ensures c.if-at.true)) h)))

pub clock-returns-in_err-token-clause-parsed : goal.clock-returns-in_err-token-clause-parsed
clock-returns-in_err-token-clause-parsed t c = exit (tree P.Clk0) (Sym P.Clk0) _ _ c.from_residual.ensures.1 (s.symbol (s.right (other (no c.at.ensures c.if-at.false)) (stopped-beside (grouped // edged) refl (yes c.at_any.ensures c.if-at_any.true) c.in_err-token.ensures.took)))

pub clock-returns-in_ok-token-clause-parsed : goal.clock-returns-in_ok-token-clause-parsed
clock-returns-in_ok-token-clause-parsed t c = finished P.Clk0 _ _ c.literal.ensures (r.symbol (r.right (other (no c.at.ensures c.if-at.false)) (taken-beside (grouped // edged) refl c.in_ok-token.ensures.took)) refl)

pub clock-returns-then-at-2-clause-parsed : goal.clock-returns-then-at-2-clause-parsed
clock-returns-then-at-2-clause-parsed t c = pass (Gave atom grouped) (tree P.Clk0) grouped (Sym P.Clk0) _ _ _ _ c.grouped.ensures.parsed (λ x h. (r.symbol (r.right (other (no c.at.ensures c.if-at.false)) (skip-read (kinds.True ∷ kinds.False ∷ []) (no c.at_any.ensures c.if-at_any.false) (r.left (chosen refl (yes c.at-else-at_any.ensures c.if-at-2.true)) h.reads))) (node (sym h.same)))) (λ e h. (s.symbol (s.right (other (no c.at.ensures c.if-at.false)) (skip-stop (kinds.True ∷ kinds.False ∷ []) (no c.at_any.ensures c.if-at_any.false) (s.left (chosen refl (yes c.at-else-at_any.ensures c.if-at-2.true)) h)))))

pub clock-returns-else-at-2-clause-parsed : goal.clock-returns-else-at-2-clause-parsed
clock-returns-else-at-2-clause-parsed t c = pass (Gave atom edged) (tree P.Clk0) edged (Sym P.Clk0) _ _ _ _ c.edge.ensures.parsed (λ x h. (r.symbol (r.right (other (no c.at.ensures c.if-at.false)) (skip-read (kinds.True ∷ kinds.False ∷ []) (no c.at_any.ensures c.if-at_any.false) (r.right (other (no c.at-else-at_any.ensures c.if-at-2.false)) h.reads))) (node (sym h.same)))) (λ e h. (s.symbol (s.right (other (no c.at.ensures c.if-at.false)) (skip-stop (kinds.True ∷ kinds.False ∷ []) (no c.at_any.ensures c.if-at_any.false) (s.right (other (no c.at-else-at_any.ensures c.if-at-2.false)) h)))))

pub counted-returns-then-at_any-clause-parsed : goal.counted-returns-then-at_any-clause-parsed
counted-returns-then-at_any-clause-parsed t c = pass (Gave (built P.Counted) next_times) (tree P.Counted) next_times (Sym P.Counted) _ _ _ _ c.next_times.ensures.parsed (λ x h. (r.symbol (r.left (chosen refl (yes c.at_any.ensures c.if-at_any.true)) h.reads) (node (sym h.same)))) (λ e h. (s.symbol (s.left (chosen refl (yes c.at_any.ensures c.if-at_any.true)) h)))

pub counted-returns-then-at_any-2-clause-parsed : goal.counted-returns-then-at_any-2-clause-parsed
counted-returns-then-at_any-2-clause-parsed t c = pass (Gave (built P.Counted) next_ranged) (tree P.Counted) next_ranged (Sym P.Counted) _ _ _ _ c.next_range.ensures.parsed (λ x h. (r.symbol (r.right (other (no c.at_any.ensures c.if-at_any.false)) (r.left (chosen refl (yes c.at_any-else-at_any.ensures c.if-at_any-2.true)) h.reads)) (node (sym h.same)))) (λ e h. (s.symbol (s.right (other (no c.at_any.ensures c.if-at_any.false)) (s.left (chosen refl (yes c.at_any-else-at_any.ensures c.if-at_any-2.true)) h))))

pub counted-returns-then-at_any-3-clause-parsed : goal.counted-returns-then-at_any-3-clause-parsed
counted-returns-then-at_any-3-clause-parsed t c = pass (Gave (built P.Counted) next_event) (tree P.Counted) next_event (Sym P.Counted) _ _ _ _ c.next_event.ensures.parsed (λ x h. (r.symbol (r.right (other (no c.at_any.ensures c.if-at_any.false)) (r.right (other (no c.at_any-else-at_any.ensures c.if-at_any-2.false)) (r.left (chosen refl (yes c.at_any-else-at_any-2.ensures c.if-at_any-3.true)) h.reads))) (node (sym h.same)))) (λ e h. (s.symbol (s.right (other (no c.at_any.ensures c.if-at_any.false)) (s.right (other (no c.at_any-else-at_any.ensures c.if-at_any-2.false)) (s.left (chosen refl (yes c.at_any-else-at_any-2.ensures c.if-at_any-3.true)) h)))))

pub counted-returns-else-at_any-3-clause-parsed : goal.counted-returns-else-at_any-3-clause-parsed
counted-returns-else-at_any-3-clause-parsed t c = pass (Gave (built P.Counted) event_ranged) (tree P.Counted) event_ranged (Sym P.Counted) _ _ _ _ c.event_range.ensures.parsed (λ x h. (r.symbol (r.right (other (no c.at_any.ensures c.if-at_any.false)) (r.right (other (no c.at_any-else-at_any.ensures c.if-at_any-2.false)) (r.right (other (no c.at_any-else-at_any-2.ensures c.if-at_any-3.false)) h.reads))) (node (sym h.same)))) (λ e h. (s.symbol (s.right (other (no c.at_any.ensures c.if-at_any.false)) (s.right (other (no c.at_any-else-at_any.ensures c.if-at_any-2.false)) (s.right (other (no c.at_any-else-at_any-2.ensures c.if-at_any-3.false)) h)))))

pub next_times-returns-in_err-word-clause-parsed : goal.next_times-returns-in_err-word-clause-parsed
next_times-returns-in_err-word-clause-parsed t c = exit (Gave (built P.Counted) next_times) next_times _ _ c.from_residual.ensures.1 (s.first (stopped c.in_err-word.ensures.took))

pub next_times-returns-in_err-number-clause-parsed : goal.next_times-returns-in_err-number-clause-parsed
next_times-returns-in_err-number-clause-parsed t c = exit (Gave (built P.Counted) next_times) next_times _ _ c.from_residual-in_err-number.ensures.1 (s.next _ (taken c.in_ok-word.ensures.took) (s.first c.in_err-number.ensures.parsed))

pub next_times-returns-in_err-operand-clause-parsed : goal.next_times-returns-in_err-operand-clause-parsed
next_times-returns-in_err-operand-clause-parsed t c = exit (Gave (built P.Counted) next_times) next_times _ _ c.from_residual-in_err-operand.ensures.1 (s.next _ (taken c.in_ok-word.ensures.took) (s.next _ c.in_ok-number.ensures.parsed.reads c.in_err-operand.ensures.parsed))

pub next_times-returns-clause-parsed : goal.next_times-returns-clause-parsed
next_times-returns-clause-parsed t c = made (Gave (built P.Counted) next_times) next_times _ _ c.next_times.ensures (λ x h. record { items = Tok c.in_ok-word.word.now ∷ Tok c.in_ok-number.ensures.parsed.opening ∷ Tok c.in_ok-number.number ∷ Tok c.in_ok-number.ensures.parsed.closing ∷ Tok c.in_ok-operand.ensures.parsed.opening ∷ Tree (node_of c.in_ok-operand.operand.tree.value) ∷ Tok c.in_ok-operand.ensures.parsed.closing ∷ []; same = h; reads = (r.both (taken c.in_ok-word.ensures.took) (r.both c.in_ok-number.ensures.parsed.reads c.in_ok-operand.ensures.parsed.reads refl) refl) })

pub next_range-returns-in_err-word-clause-parsed : goal.next_range-returns-in_err-word-clause-parsed
next_range-returns-in_err-word-clause-parsed t c = exit (Gave (built P.Counted) next_ranged) next_ranged _ _ c.from_residual.ensures.1 (s.first (stopped c.in_err-word.ensures.took))

pub next_range-returns-in_err-count-clause-parsed : goal.next_range-returns-in_err-count-clause-parsed
next_range-returns-in_err-count-clause-parsed t c = exit (Gave (built P.Counted) next_ranged) next_ranged _ _ c.from_residual-in_err-count.ensures.1 (s.next _ (taken c.in_ok-word.ensures.took) (s.first c.in_err-count.ensures.parsed))

pub next_range-returns-in_err-operand-clause-parsed : goal.next_range-returns-in_err-operand-clause-parsed
next_range-returns-in_err-operand-clause-parsed t c = exit (Gave (built P.Counted) next_ranged) next_ranged _ _ c.from_residual-in_err-operand.ensures.1 (s.next _ (taken c.in_ok-word.ensures.took) (s.next _ c.in_ok-count.ensures.parsed.reads c.in_err-operand.ensures.parsed))

pub next_range-returns-clause-parsed : goal.next_range-returns-clause-parsed
next_range-returns-clause-parsed t c = made (Gave (built P.Counted) next_ranged) next_ranged _ _ c.next_times.ensures (λ x h. record { items = Tok c.in_ok-word.word.now ∷ Tok c.in_ok-count.ensures.parsed.opening ∷ Tok c.in_ok-count.ensures.parsed.low ∷ Tok c.in_ok-count.ensures.parsed.colon ∷ Tok c.in_ok-count.ensures.parsed.high ∷ Tok c.in_ok-count.ensures.parsed.closing ∷ Tok c.in_ok-operand.ensures.parsed.opening ∷ Tree (node_of c.in_ok-operand.operand.tree.value) ∷ Tok c.in_ok-operand.ensures.parsed.closing ∷ []; same = ap (λ z. NextForm c.in_ok-word.word.now Absent z (node_of c.in_ok-operand.operand.tree.value)) (sym c.in_ok-count.ensures.parsed.same) ∙ h; reads = (r.both (taken c.in_ok-word.ensures.took) (r.both c.in_ok-count.ensures.parsed.reads c.in_ok-operand.ensures.parsed.reads refl) refl) })

pub next_event-returns-in_err-word-clause-parsed : goal.next_event-returns-in_err-word-clause-parsed
next_event-returns-in_err-word-clause-parsed t c = exit (Gave (built P.Counted) next_event) next_event _ _ c.from_residual.ensures.1 (s.first (stopped c.in_err-word.ensures.took))

pub next_event-returns-in_err-condition-clause-parsed : goal.next_event-returns-in_err-condition-clause-parsed
next_event-returns-in_err-condition-clause-parsed t c = exit (Gave (built P.Counted) next_event) next_event _ _ c.from_residual-in_err-condition.ensures.1 (s.next _ (taken c.in_ok-word.ensures.took) (s.first c.in_err-condition.ensures.parsed))

pub next_event-returns-in_err-operand-clause-parsed : goal.next_event-returns-in_err-operand-clause-parsed
next_event-returns-in_err-operand-clause-parsed t c = exit (Gave (built P.Counted) next_event) next_event _ _ c.from_residual-in_err-operand.ensures.1 (s.next _ (taken c.in_ok-word.ensures.took) (s.next _ c.in_ok-condition.ensures.parsed.reads (s.next _ (r.without (record { holds = (no c.at.ensures c.if-not-at.true) })) c.in_err-operand.ensures.parsed)))

pub next_event-returns-then-not-at-clause-parsed : goal.next_event-returns-then-not-at-clause-parsed
next_event-returns-then-not-at-clause-parsed t c = made (Gave (built P.Counted) next_event) next_event _ _ c.next_event.ensures (λ x h. record { items = Tok c.in_ok-word.word.now ∷ Tok c.in_ok-condition.ensures.parsed.opening ∷ Tree (node_of c.in_ok-condition.condition.tree.value) ∷ Tok c.in_ok-condition.ensures.parsed.closing ∷ Tok c.in_ok-operand.ensures.parsed.opening ∷ Tree (node_of c.in_ok-operand.operand.tree.value) ∷ Tok c.in_ok-operand.ensures.parsed.closing ∷ []; same = h; reads = (r.both (taken c.in_ok-word.ensures.took) (r.both c.in_ok-condition.ensures.parsed.reads (r.both (r.without (record { holds = (no c.at.ensures c.if-not-at.true) })) c.in_ok-operand.ensures.parsed.reads refl) refl) refl) })

pub next_event-returns-in_err-number-clause-parsed : goal.next_event-returns-in_err-number-clause-parsed
next_event-returns-in_err-number-clause-parsed t c = exit (Gave (built P.Counted) next_event) next_event _ _ c.from_residual-in_err-number.ensures.1 (s.next _ (taken c.in_ok-word.ensures.took) (s.next _ c.in_ok-condition.ensures.parsed.reads (s.first (s.maybe (record { holds = (yes c.at.ensures c.if-not-at.false) }) c.in_err-number.ensures.parsed))))

pub next_event-returns-in_err-operand-2-clause-parsed : goal.next_event-returns-in_err-operand-2-clause-parsed
next_event-returns-in_err-operand-2-clause-parsed t c = exit (Gave (built P.Counted) next_event) next_event _ _ c.from_residual-in_err-operand-2.ensures.1 (s.next _ (taken c.in_ok-word.ensures.took) (s.next _ c.in_ok-condition.ensures.parsed.reads (s.next _ (r.with (record { holds = (yes c.at.ensures c.if-not-at.false) }) c.in_ok-number.ensures.parsed.reads) c.in_err-operand-2.ensures.parsed)))

pub next_event-returns-clause-parsed : goal.next_event-returns-clause-parsed
next_event-returns-clause-parsed t c = made (Gave (built P.Counted) next_event) next_event _ _ c.next_event-2.ensures (λ x h. record { items = Tok c.in_ok-word.word.now ∷ Tok c.in_ok-condition.ensures.parsed.opening ∷ Tree (node_of c.in_ok-condition.condition.tree.value) ∷ Tok c.in_ok-condition.ensures.parsed.closing ∷ Tok c.in_ok-number.ensures.parsed.opening ∷ Tok c.in_ok-number.number ∷ Tok c.in_ok-number.ensures.parsed.closing ∷ Tok c.in_ok-operand-2.ensures.parsed.opening ∷ Tree (node_of c.in_ok-operand-2.operand.tree.value) ∷ Tok c.in_ok-operand-2.ensures.parsed.closing ∷ []; same = h; reads = (r.both (taken c.in_ok-word.ensures.took) (r.both c.in_ok-condition.ensures.parsed.reads (r.both (r.with (record { holds = (yes c.at.ensures c.if-not-at.false) }) c.in_ok-number.ensures.parsed.reads) c.in_ok-operand-2.ensures.parsed.reads refl) refl) refl) })

pub event_range-returns-in_err-word-clause-parsed : goal.event_range-returns-in_err-word-clause-parsed
event_range-returns-in_err-word-clause-parsed t c = exit (Gave (built P.Counted) event_ranged) event_ranged _ _ c.from_residual.ensures.1 (s.first (stopped c.in_err-word.ensures.took))

pub event_range-returns-in_err-condition-clause-parsed : goal.event_range-returns-in_err-condition-clause-parsed
event_range-returns-in_err-condition-clause-parsed t c = exit (Gave (built P.Counted) event_ranged) event_ranged _ _ c.from_residual-in_err-condition.ensures.1 (s.next _ (taken c.in_ok-word.ensures.took) (s.first c.in_err-condition.ensures.parsed))

pub event_range-returns-in_err-count-clause-parsed : goal.event_range-returns-in_err-count-clause-parsed
event_range-returns-in_err-count-clause-parsed t c = exit (Gave (built P.Counted) event_ranged) event_ranged _ _ c.from_residual-in_err-count.ensures.1 (s.next _ (taken c.in_ok-word.ensures.took) (s.next _ c.in_ok-condition.ensures.parsed.reads (s.first c.in_err-count.ensures.parsed)))

pub event_range-returns-in_err-operand-clause-parsed : goal.event_range-returns-in_err-operand-clause-parsed
event_range-returns-in_err-operand-clause-parsed t c = exit (Gave (built P.Counted) event_ranged) event_ranged _ _ c.from_residual-in_err-operand.ensures.1 (s.next _ (taken c.in_ok-word.ensures.took) (s.next _ c.in_ok-condition.ensures.parsed.reads (s.next _ c.in_ok-count.ensures.parsed.reads c.in_err-operand.ensures.parsed)))

pub event_range-returns-clause-parsed : goal.event_range-returns-clause-parsed
event_range-returns-clause-parsed t c = made (Gave (built P.Counted) event_ranged) event_ranged _ _ c.next_event.ensures (λ x h. record { items = Tok c.in_ok-word.word.now ∷ Tok c.in_ok-condition.ensures.parsed.opening ∷ Tree (node_of c.in_ok-condition.condition.tree.value) ∷ Tok c.in_ok-condition.ensures.parsed.closing ∷ Tok c.in_ok-count.ensures.parsed.opening ∷ Tok c.in_ok-count.ensures.parsed.low ∷ Tok c.in_ok-count.ensures.parsed.colon ∷ Tok c.in_ok-count.ensures.parsed.high ∷ Tok c.in_ok-count.ensures.parsed.closing ∷ Tok c.in_ok-operand.ensures.parsed.opening ∷ Tree (node_of c.in_ok-operand.operand.tree.value) ∷ Tok c.in_ok-operand.ensures.parsed.closing ∷ []; same = ap (λ z. NextForm c.in_ok-word.word.now (node_of c.in_ok-condition.condition.tree.value) z (node_of c.in_ok-operand.operand.tree.value)) (sym c.in_ok-count.ensures.parsed.same) ∙ h; reads = (r.both (taken c.in_ok-word.ensures.took) (r.both c.in_ok-condition.ensures.parsed.reads (r.both c.in_ok-count.ensures.parsed.reads c.in_ok-operand.ensures.parsed.reads refl) refl) refl) })

pub conjunct-returns-in_err-operand-clause-parsed : goal.conjunct-returns-in_err-operand-clause-parsed
conjunct-returns-in_err-operand-clause-parsed t c = exit (tree P.Conj) (Sym P.Conj) _ _ c.from_residual.ensures.1 (s.symbol (s.right (other (no c.at_boolean.ensures c.if-not-at_boolean.true)) (s.first c.in_err-operand.ensures.parsed)))

pub conjunct-returns-then-not-at_boolean-clause-parsed : goal.conjunct-returns-then-not-at_boolean-clause-parsed
conjunct-returns-then-not-at_boolean-clause-parsed t c = pass (ReadsTails c.in_ok-operand.operand) (tree P.Conj) tailed (Sym P.Conj) _ _ _ _ c.tails.ensures.parsed (λ x h. (r.symbol (r.right (other (no c.at_boolean.ensures c.if-not-at_boolean.true)) (r.both c.in_ok-operand.ensures.parsed h.reads refl)) (node (sym h.same)))) (λ e h. (s.symbol (s.right (other (no c.at_boolean.ensures c.if-not-at_boolean.true)) (s.next _ c.in_ok-operand.ensures.parsed h))))

pub conjunct-returns-in_err-operand-2-clause-parsed : goal.conjunct-returns-in_err-operand-2-clause-parsed
conjunct-returns-in_err-operand-2-clause-parsed t c = exit (tree P.Conj) (Sym P.Conj) _ _ c.from_residual-in_err-operand-2.ensures.1 (s.symbol (s.left (chosen refl (yes c.at_boolean.ensures c.if-not-at_boolean.false)) (s.first c.in_err-operand-2.ensures.parsed)))

pub conjunct-returns-then-not-at_post-clause-parsed : goal.conjunct-returns-then-not-at_post-clause-parsed
conjunct-returns-then-not-at_post-clause-parsed t c = r.symbol (r.left (chosen refl (yes c.at_boolean.ensures c.if-not-at_boolean.false)) (r.both c.in_ok-operand-2.ensures.parsed (r.without (record { holds = (no c.at_post.ensures c.if-not-at_post.true) })) refl)) refl

pub conjunct-returns-clause-parsed : goal.conjunct-returns-clause-parsed
conjunct-returns-clause-parsed t c = pass (ReadsTails c.in_ok-operand-2.operand) (tree P.Conj) tailed (Sym P.Conj) _ _ _ _ c.tails-2.ensures.parsed (λ x h. (r.symbol (r.left (chosen refl (yes c.at_boolean.ensures c.if-not-at_boolean.false)) (r.both c.in_ok-operand-2.ensures.parsed (r.with (record { holds = (yes c.at_post.ensures c.if-not-at_post.false) }) (regroup-read (record { holds = (yes c.at_post.ensures c.if-not-at_post.false) }) h.reads)) refl)) (node (sym h.same)))) (λ e h. (s.symbol (s.left (chosen refl (yes c.at_boolean.ensures c.if-not-at_boolean.false)) (s.next _ c.in_ok-operand-2.ensures.parsed (s.maybe (record { holds = (yes c.at_post.ensures c.if-not-at_post.false) }) (regroup-stop (record { holds = (yes c.at_post.ensures c.if-not-at_post.false) }) h))))))

pub tails-returns-in_err-operand-clause-parsed : goal.tails-returns-in_err-operand-clause-parsed
tails-returns-in_err-operand-clause-parsed t c = exit (ReadsTails c.args.operand) tailed _ _ c.from_residual.ensures.1 (s.first c.in_err-operand.ensures.parsed)

pub tails-returns-in_err-operand-2-clause-parsed : goal.tails-returns-in_err-operand-2-clause-parsed
tails-returns-in_err-operand-2-clause-parsed t c = exit (ReadsTails c.args.operand) tailed _ _ c.from_residual-in_err-operand-2.ensures.1 (s.next _ c.in_ok-operand.ensures.parsed.reads (s.first c.in_err-operand-2.ensures.parsed))

pub tails-returns-clause-parsed : goal.tails-returns-clause-parsed
tails-returns-clause-parsed t c = pass (ReadsTail P.Ctail c.in_ok-operand-2.operand) (ReadsTails c.args.operand) (Sym P.Ctail) tailed _ _ _ _ c.and_tail.ensures.parsed (λ x h. record { items = c.in_ok-operand.ensures.parsed.items ++ Tree c.in_ok-operand-2.ensures.parsed.tail ∷ Tree h.tail ∷ []; same = c.in_ok-operand.ensures.parsed.through.conjoined c.in_ok-operand-2.ensures.parsed.tail h.tail [] ∙ (ap (λ z. applied z h.tail) c.in_ok-operand-2.ensures.parsed.same ∙ h.same); reads = (r.both c.in_ok-operand.ensures.parsed.reads (r.both c.in_ok-operand-2.ensures.parsed.reads h.reads refl) refl) }) (λ e h. (s.next _ c.in_ok-operand.ensures.parsed.reads (s.next _ c.in_ok-operand-2.ensures.parsed.reads h)))

pub within_tail-loop-alloc-init : goal.within_tail-loop-alloc-init
within_tail-loop-alloc-init t c = record { fewer = omega arith; rounds = waiting-start _ _ _ _ }

pub within_tail-returns-in_err-operator-clause-parsed : goal.within_tail-returns-in_err-operator-clause-parsed
within_tail-returns-in_err-operator-clause-parsed t c = exit (ReadsTail P.Wtail c.args.operand) (Sym P.Wtail) _ _ c.from_residual.ensures.1 (s.symbol (through-stop _ c.loop-alloc.invariant.rounds.through (record { holds = (yes c.at.ensures c.loop-alloc-test.true) }) (s.first (stopped c.in_err-operator.ensures.took))))

pub within_tail-returns-in_err-right-clause-parsed : goal.within_tail-returns-in_err-right-clause-parsed
within_tail-returns-in_err-right-clause-parsed t c = exit (ReadsTail P.Wtail c.args.operand) (Sym P.Wtail) _ _ c.from_residual-in_err-right.ensures.1 (s.symbol (through-stop _ c.loop-alloc.invariant.rounds.through (record { holds = (yes c.at.ensures c.loop-alloc-test.true) }) (s.next _ (taken c.in_ok-operator.ensures.took) c.in_err-right.ensures.parsed)))

pub within_tail-returns-in_err-left-clause-parsed : goal.within_tail-returns-in_err-left-clause-parsed
within_tail-returns-in_err-left-clause-parsed t c = spent (ReadsTail P.Wtail c.args.operand) (Sym P.Wtail) _ _ _ _ c.from_residual-in_err-left.ensures.1 c.in_err-left.ensures

pub within_tail-loop-alloc-preserved : goal.within_tail-loop-alloc-preserved
within_tail-loop-alloc-preserved t c = record { fewer = omega arith; rounds = within-more c.loop-alloc.invariant.rounds (record { holds = (yes c.at.ensures c.loop-alloc-test.true) }) (r.both (taken c.in_ok-operator.ensures.took) c.in_ok-right.ensures.parsed refl) c.in_ok-left.ensures }

pub within_tail-returns-clause-parsed : goal.within_tail-returns-clause-parsed
within_tail-returns-clause-parsed t c = record { tail = tails c.loop-alloc.invariant.rounds.items; same = waiting-end c.loop-alloc.invariant.rounds refl; reads = (r.symbol (through-end c.loop-alloc.invariant.rounds.through (record { holds = (no c.at.ensures c.loop-alloc-test.false) })) refl) }

pub and_tail-loop-alloc-init : goal.and_tail-loop-alloc-init
and_tail-loop-alloc-init t c = record { fewer = omega arith; rounds = waiting-start _ _ _ _ }

pub and_tail-returns-in_err-operator-clause-parsed : goal.and_tail-returns-in_err-operator-clause-parsed
and_tail-returns-in_err-operator-clause-parsed t c = exit (ReadsTail P.Ctail c.args.operand) (Sym P.Ctail) _ _ c.from_residual.ensures.1 (s.symbol (through-stop _ c.loop-alloc.invariant.rounds.through (record { holds = (yes c.at_any.ensures c.loop-alloc-test.true) }) (s.first (stopped c.in_err-operator.ensures.took))))

pub and_tail-returns-in_err-side-clause-parsed : goal.and_tail-returns-in_err-side-clause-parsed
and_tail-returns-in_err-side-clause-parsed t c = exit (ReadsTail P.Ctail c.args.operand) (Sym P.Ctail) _ _ c.from_residual-in_err-side.ensures.1 (s.symbol (through-stop _ c.loop-alloc.invariant.rounds.through (record { holds = (yes c.at_any.ensures c.loop-alloc-test.true) }) (s.next _ (taken c.in_ok-operator.ensures.took) (s.first c.in_err-side.ensures.parsed))))

pub and_tail-returns-in_err-right-clause-parsed : goal.and_tail-returns-in_err-right-clause-parsed
and_tail-returns-in_err-right-clause-parsed t c = exit (ReadsTail P.Ctail c.args.operand) (Sym P.Ctail) _ _ c.from_residual-in_err-right.ensures.1 (s.symbol (through-stop _ c.loop-alloc.invariant.rounds.through (record { holds = (yes c.at_any.ensures c.loop-alloc-test.true) }) (s.next _ (taken c.in_ok-operator.ensures.took) (s.next _ c.in_ok-side.ensures.parsed c.in_err-right.ensures.parsed))))

pub and_tail-returns-in_err-left-clause-parsed : goal.and_tail-returns-in_err-left-clause-parsed
and_tail-returns-in_err-left-clause-parsed t c = spent (ReadsTail P.Ctail c.args.operand) (Sym P.Ctail) _ _ _ _ c.from_residual-in_err-left.ensures.1 c.in_err-left.ensures

pub and_tail-loop-alloc-preserved : goal.and_tail-loop-alloc-preserved
and_tail-loop-alloc-preserved t c = record { fewer = omega arith; rounds = and-more c.loop-alloc.invariant.rounds (record { holds = (yes c.at_any.ensures c.loop-alloc-test.true) }) (r.both (taken c.in_ok-operator.ensures.took) (r.both c.in_ok-side.ensures.parsed c.in_ok-right.ensures.parsed.reads refl) refl) c.in_ok-right.ensures.parsed.same c.in_ok-left.ensures }

pub and_tail-returns-clause-parsed : goal.and_tail-returns-clause-parsed
and_tail-returns-clause-parsed t c = record { tail = wide_tails c.loop-alloc.invariant.rounds.items; same = waiting-end c.loop-alloc.invariant.rounds refl; reads = (r.symbol (through-end c.loop-alloc.invariant.rounds.through (record { holds = (no c.at_any.ensures c.loop-alloc-test.false) })) refl) }

pub side-returns-in_err-operand-clause-parsed : goal.side-returns-in_err-operand-clause-parsed
side-returns-in_err-operand-clause-parsed t c = exit (tree P.Side) (Sym P.Side) _ _ c.from_residual.ensures.1 (s.symbol (s.left (chosen refl (yes c.at_boolean.ensures c.if-at_boolean.true)) (s.first c.in_err-operand.ensures.parsed)))

pub side-returns-in_err-operand-2-clause-parsed : goal.side-returns-in_err-operand-2-clause-parsed
side-returns-in_err-operand-2-clause-parsed t c = exit (tree P.Side) (Sym P.Side) _ _ c.from_residual-in_err-operand-2.ensures.1 (s.symbol (s.left (chosen refl (yes c.at_boolean.ensures c.if-at_boolean.true)) (s.next _ c.in_ok-operand.ensures.parsed (s.first c.in_err-operand-2.ensures.parsed))))

pub side-returns-in_ok-operand-2-clause-parsed : goal.side-returns-in_ok-operand-2-clause-parsed
side-returns-in_ok-operand-2-clause-parsed t c = pass (ReadsPosts c.in_ok-operand-2.operand) (tree P.Side) (Many (Sym P.Post)) (Sym P.Side) _ _ _ _ c.posts.ensures.parsed (λ x h. (r.symbol (r.left (chosen refl (yes c.at_boolean.ensures c.if-at_boolean.true)) (r.both c.in_ok-operand.ensures.parsed (r.both c.in_ok-operand-2.ensures.parsed.reads h.reads refl) refl)) (node (sym (ap (λ z. posted z h.items) c.in_ok-operand-2.ensures.parsed.same ∙ posts-end h.through))))) (λ e h. (s.symbol (s.left (chosen refl (yes c.at_boolean.ensures c.if-at_boolean.true)) (s.next _ c.in_ok-operand.ensures.parsed (s.next _ c.in_ok-operand-2.ensures.parsed.reads h)))))

pub side-returns-in_err-operand-3-clause-parsed : goal.side-returns-in_err-operand-3-clause-parsed
side-returns-in_err-operand-3-clause-parsed t c = exit (tree P.Side) (Sym P.Side) _ _ c.from_residual-in_err-operand-3.ensures.1 (s.symbol (s.right (other (no c.at_boolean.ensures c.if-at_boolean.false)) (s.first c.in_err-operand-3.ensures.parsed)))

pub side-returns-in_ok-operand-3-clause-parsed : goal.side-returns-in_ok-operand-3-clause-parsed
side-returns-in_ok-operand-3-clause-parsed t c = pass (ReadsPosts c.in_ok-operand-3.operand) (tree P.Side) (Many (Sym P.Post)) (Sym P.Side) _ _ _ _ c.posts-else-at_boolean.ensures.parsed (λ x h. (r.symbol (r.right (other (no c.at_boolean.ensures c.if-at_boolean.false)) (r.both c.in_ok-operand-3.ensures.parsed h.reads refl)) (node (sym (posts-end h.through))))) (λ e h. (s.symbol (s.right (other (no c.at_boolean.ensures c.if-at_boolean.false)) (s.next _ c.in_ok-operand-3.ensures.parsed h))))

pub start-returns-then-at-clause-parsed : goal.start-returns-then-at-clause-parsed
start-returns-then-at-clause-parsed t c = pass ReadsBraces (tree P.Start) braces (Sym P.Start) _ _ _ _ c.braced.ensures.parsed (λ x h. (r.symbol (r.left (chosen refl (yes c.at.ensures c.if-at.true)) h.reads) (node (sym (ap (λ k. opened k h.opening h.inside) h.kind ∙ h.same))))) (λ e h. (s.symbol (s.left (chosen refl (yes c.at.ensures c.if-at.true)) h)))

pub start-returns-in_err-repetition-clause-parsed : goal.start-returns-in_err-repetition-clause-parsed
start-returns-in_err-repetition-clause-parsed t c = exit (tree P.Start) (Sym P.Start) _ _ c.from_residual.ensures.1 (s.symbol (s.right (other (no c.at.ensures c.if-at.false)) (s.left (chosen refl (yes c.at-2.ensures c.if-at-2.true)) c.in_err-repetition.ensures.parsed)))

pub start-returns-then-at-2-clause-parsed : goal.start-returns-then-at-2-clause-parsed
start-returns-then-at-2-clause-parsed t c = made (tree P.Start) (Sym P.Start) _ _ c.alone.ensures (λ x h. r.symbol (r.right (other (no c.at.ensures c.if-at.false)) (r.left (chosen refl (yes c.at-2.ensures c.if-at-2.true)) c.in_ok-repetition.ensures.parsed.reads)) (node (sym (c.in_ok-repetition.ensures.parsed.start refl ∙ h))))

pub start-returns-in_err-repetition-2-clause-parsed : goal.start-returns-in_err-repetition-2-clause-parsed
start-returns-in_err-repetition-2-clause-parsed t c = exit (tree P.Start) (Sym P.Start) _ _ c.from_residual-in_err-repetition-2.ensures.1 (s.symbol (s.right (other (no c.at.ensures c.if-at.false)) (s.right (other (no c.at-2.ensures c.if-at-2.false)) c.in_err-repetition-2.ensures.parsed)))

pub start-returns-clause-parsed : goal.start-returns-clause-parsed
start-returns-clause-parsed t c = made (tree P.Start) (Sym P.Start) _ _ c.alone-2.ensures (λ x h. r.symbol (r.right (other (no c.at.ensures c.if-at.false)) (r.right (other (no c.at-2.ensures c.if-at-2.false)) c.in_ok-repetition-2.ensures.parsed.reads)) (node (sym h ∙ ap (λ n. Repeat c.in_ok-repetition-2.repetition.opening (count_node n)) c.in_ok-repetition-2.ensures.parsed.none)))

pub posts-loop-alloc-init : goal.posts-loop-alloc-init
posts-loop-alloc-init t c = record { fewer = omega arith; rounds = behind-start _ _ }

pub posts-returns-in_err-operand-clause-parsed : goal.posts-returns-in_err-operand-clause-parsed
posts-returns-in_err-operand-clause-parsed t c = exit (ReadsPosts c.args.operand) (Many (Sym P.Post)) _ _ c.from_residual.ensures.1 (through-stop _ c.loop-alloc.invariant.rounds.through (record { holds = (yes c.at_post.ensures c.loop-alloc-test.true) }) c.in_err-operand.ensures.parsed)

pub posts-loop-alloc-preserved : goal.posts-loop-alloc-preserved
posts-loop-alloc-preserved t c = record { fewer = omega arith; rounds = behind-more c.loop-alloc.invariant.rounds (record { holds = (yes c.at_post.ensures c.loop-alloc-test.true) }) c.in_ok-operand.ensures.parsed.reads c.in_ok-operand.ensures.parsed.same }

pub posts-returns-clause-parsed : goal.posts-returns-clause-parsed
posts-returns-clause-parsed t c = record { items = c.loop-alloc.invariant.rounds.items; through = c.loop-alloc.invariant.rounds.folds; reads = through-end c.loop-alloc.invariant.rounds.through (record { holds = (no c.at_post.ensures c.loop-alloc-test.false) }) }

pub post-returns-in_err-repetition-clause-parsed : goal.post-returns-in_err-repetition-clause-parsed
post-returns-in_err-repetition-clause-parsed t c = exit (ReadsPost c.args.operand) (Sym P.Post) _ _ c.from_residual.ensures.1 (s.symbol (s.left (chosen refl (yes c.at.ensures c.if-at.true)) c.in_err-repetition.ensures.parsed))

pub post-returns-then-at-clause-parsed : goal.post-returns-then-at-clause-parsed
post-returns-then-at-clause-parsed t c = made (ReadsPost c.args.operand) (Sym P.Post) _ _ c.repeated.ensures (λ x h. record { post = Repeat c.in_ok-repetition.repetition.opening (count_node c.in_ok-repetition.repetition.count); same = h; reads = (r.symbol (r.left (chosen refl (yes c.at.ensures c.if-at.true)) c.in_ok-repetition.ensures.parsed.reads) (node (sym c.in_ok-repetition.ensures.parsed.post))) })

pub post-returns-in_err-repetition-2-clause-parsed : goal.post-returns-in_err-repetition-2-clause-parsed
post-returns-in_err-repetition-2-clause-parsed t c = exit (ReadsPost c.args.operand) (Sym P.Post) _ _ c.from_residual-in_err-repetition-2.ensures.1 (s.symbol (s.right (other (no c.at.ensures c.if-at.false)) (s.left (chosen refl (yes c.at-2.ensures c.if-at-2.true)) c.in_err-repetition-2.ensures.parsed)))

pub post-returns-then-at-2-clause-parsed : goal.post-returns-then-at-2-clause-parsed
post-returns-then-at-2-clause-parsed t c = made (ReadsPost c.args.operand) (Sym P.Post) _ _ c.repeated-then-at-2.ensures (λ x h. record { post = Repeat c.in_ok-repetition-2.repetition.opening (count_node c.in_ok-repetition-2.repetition.count); same = h; reads = (r.symbol (r.right (other (no c.at.ensures c.if-at.false)) (r.left (chosen refl (yes c.at-2.ensures c.if-at-2.true)) c.in_ok-repetition-2.ensures.parsed.reads)) (node (ap (λ n. Repeat c.in_ok-repetition-2.repetition.opening (count_node n)) c.in_ok-repetition-2.ensures.parsed.none))) })

pub post-returns-in_err-repetition-3-clause-parsed : goal.post-returns-in_err-repetition-3-clause-parsed
post-returns-in_err-repetition-3-clause-parsed t c = exit (ReadsPost c.args.operand) (Sym P.Post) _ _ c.from_residual-in_err-repetition-3.ensures.1 (s.symbol (s.right (other (no c.at.ensures c.if-at.false)) (s.right (other (no c.at-2.ensures c.if-at-2.false)) (s.left (chosen refl (yes c.at-3.ensures c.if-at-3.true)) c.in_err-repetition-3.ensures.parsed))))

pub post-returns-then-at-3-clause-parsed : goal.post-returns-then-at-3-clause-parsed
post-returns-then-at-3-clause-parsed t c = made (ReadsPost c.args.operand) (Sym P.Post) _ _ c.repeated-then-at-3.ensures (λ x h. record { post = Repeat c.in_ok-repetition-3.repetition.opening (count_node c.in_ok-repetition-3.repetition.count); same = h; reads = (r.symbol (r.right (other (no c.at.ensures c.if-at.false)) (r.right (other (no c.at-2.ensures c.if-at-2.false)) (r.left (chosen refl (yes c.at-3.ensures c.if-at-3.true)) c.in_ok-repetition-3.ensures.parsed.reads))) (node (sym c.in_ok-repetition-3.ensures.parsed.post))) })

pub post-returns-in_err-repetition-4-clause-parsed : goal.post-returns-in_err-repetition-4-clause-parsed
post-returns-in_err-repetition-4-clause-parsed t c = exit (ReadsPost c.args.operand) (Sym P.Post) _ _ c.from_residual-in_err-repetition-4.ensures.1 (s.symbol (s.right (other (no c.at.ensures c.if-at.false)) (s.right (other (no c.at-2.ensures c.if-at-2.false)) (s.right (other (no c.at-3.ensures c.if-at-3.false)) (s.left (chosen refl (yes c.at-4.ensures c.if-at-4.true)) c.in_err-repetition-4.ensures.parsed)))))

pub post-returns-then-at-4-clause-parsed : goal.post-returns-then-at-4-clause-parsed
post-returns-then-at-4-clause-parsed t c = made (ReadsPost c.args.operand) (Sym P.Post) _ _ c.repeated-then-at-4.ensures (λ x h. record { post = Repeat c.in_ok-repetition-4.repetition.opening (count_node c.in_ok-repetition-4.repetition.count); same = h; reads = (r.symbol (r.right (other (no c.at.ensures c.if-at.false)) (r.right (other (no c.at-2.ensures c.if-at-2.false)) (r.right (other (no c.at-3.ensures c.if-at-3.false)) (r.left (chosen refl (yes c.at-4.ensures c.if-at-4.true)) c.in_ok-repetition-4.ensures.parsed.reads)))) refl) })

pub post-returns-in_err-at-clause-parsed : goal.post-returns-in_err-at-clause-parsed
post-returns-in_err-at-clause-parsed t c = exit (ReadsPost c.args.operand) (Sym P.Post) _ _ c.from_residual-in_err-at.ensures.1 (s.symbol (s.right (other (no c.at.ensures c.if-at.false)) (s.right (other (no c.at-2.ensures c.if-at-2.false)) (s.right (other (no c.at-3.ensures c.if-at-3.false)) (s.right (other (no c.at-4.ensures c.if-at-4.false)) (s.first (stopped c.in_err-at.ensures.took)))))))

pub post-returns-in_err-clock-clause-parsed : goal.post-returns-in_err-clock-clause-parsed
post-returns-in_err-clock-clause-parsed t c = exit (ReadsPost c.args.operand) (Sym P.Post) _ _ c.from_residual-in_err-clock.ensures.1 (s.symbol (s.right (other (no c.at.ensures c.if-at.false)) (s.right (other (no c.at-2.ensures c.if-at-2.false)) (s.right (other (no c.at-3.ensures c.if-at-3.false)) (s.right (other (no c.at-4.ensures c.if-at-4.false)) (s.next _ (taken c.in_ok-at.ensures.took) c.in_err-clock.ensures.parsed))))))

pub post-returns-clause-parsed : goal.post-returns-clause-parsed
post-returns-clause-parsed t c = made (ReadsPost c.args.operand) (Sym P.Post) _ _ c.clocked.ensures (λ x h. record { post = Clocked c.in_ok-at.at.now (node_of c.in_ok-clock.clock.tree.value); same = h; reads = (r.symbol (r.right (other (no c.at.ensures c.if-at.false)) (r.right (other (no c.at-2.ensures c.if-at-2.false)) (r.right (other (no c.at-3.ensures c.if-at-3.false)) (r.right (other (no c.at-4.ensures c.if-at-4.false)) (r.both (taken c.in_ok-at.ensures.took) c.in_ok-clock.ensures.parsed refl))))) refl) })
