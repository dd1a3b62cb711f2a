use Rattle.std.proofs.Common.{subst}
use borrow.Author.Tests.{eqb-true, eqb-false}
use Rattle.psl_grammar.specs.Parts.{Text, Sym}
use Rattle.psl_grammar.specs.Reading.{Stops}
use Rattle.psl_parser.proofs.Forms.{yes, no}
use Rattle.psl_parser.proofs.Whole.{end_tree, end_syntax, end_rest, end_limit, end_none}
use Rattle.psl_parser.specs.declared.fault.Fault.{Fault}
use Rattle.psl_parser.specs.Steps.{reason, state}
use Rattle.psl_parser.proofs.parsing.parse.Goals as goal

pub unreachable-requires : goal.unreachable-requires
unreachable-requires c =
    end_none c.as_slice-tokens.result.now c.limit_of.result c.first_passed-passed.result (state c.text-result.new.self) c.limit_of.ensures c.in-None.is c.text-result.ensures.fewer
    (subst (λ (z : Fault). Stops (reason z) (Sym Text) (record { tokens = c.as_slice-tokens.result.now; limit = c.limit_of.result }) (state c.text-result.new.self)) c.in-Limit.is c.in-Err.ensures.parsed)

pub returns-then-is_empty-clause-tree : goal.returns-then-is_empty-clause-tree
returns-then-is_empty-clause-tree c =
    end_tree c.args.tokens.now c.as_slice-tokens.result.now c.limit_of.result c.first_passed-passed.result c.in-Ok.tree (state c.text-result.new.self)
    c.as_slice-tokens.ensures.tokens c.limit_of.ensures c.first_passed-passed.ensures c.in-Ok.ensures.parsed (eqb-true _ _ (yes c.is_empty.ensures c.if-is_empty.true))

pub returns-else-is_empty-clause-fault : goal.returns-else-is_empty-clause-fault
returns-else-is_empty-clause-fault c =
    end_rest c.args.tokens.now c.as_slice-tokens.result.now c.limit_of.result c.first_passed-passed.result c.in-Ok.tree (state c.text-result.new.self)
    c.as_slice-tokens.ensures.tokens c.limit_of.ensures c.first_passed-passed.ensures c.text-result.ensures.fewer c.in-Ok.ensures.parsed (eqb-false _ _ (no c.is_empty.ensures c.if-is_empty.false))

pub returns-in-Syntax-clause-fault : goal.returns-in-Syntax-clause-fault
returns-in-Syntax-clause-fault c =
    end_syntax c.args.tokens.now c.as_slice-tokens.result.now c.limit_of.result c.first_passed-passed.result (state c.text-result.new.self)
    c.as_slice-tokens.ensures.tokens c.limit_of.ensures c.first_passed-passed.ensures c.text-result.ensures.fewer
    (subst (λ (z : Fault). Stops (reason z) (Sym Text) (record { tokens = c.as_slice-tokens.result.now; limit = c.limit_of.result }) (state c.text-result.new.self)) c.in-Syntax.is c.in-Err.ensures.parsed)

pub returns-in-Some-clause-fault : goal.returns-in-Some-clause-fault
returns-in-Some-clause-fault c =
    end_limit c.args.tokens.now c.as_slice-tokens.result.now c.limit_of.result c.first_passed-passed.result c.in-Some.first (state c.text-result.new.self) c.passed_fault.result
    c.as_slice-tokens.ensures.tokens c.limit_of.ensures c.in-Some.is c.first_passed-passed.ensures
    (subst (λ (z : Fault). Stops (reason z) (Sym Text) (record { tokens = c.as_slice-tokens.result.now; limit = c.limit_of.result }) (state c.text-result.new.self)) c.in-Limit.is c.in-Err.ensures.parsed)
    c.passed_fault.ensures
