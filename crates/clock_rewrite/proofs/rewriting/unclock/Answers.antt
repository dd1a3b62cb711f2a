use Rattle.std.proofs.Common.{◌≡◌, ◌∙◌, ap}
use Rattle.clock_rewrite.specs.Clock.{clock_of}
use Rattle.psl_tree.specs.Plain.{plain}
use Rattle.psl_tree.specs.Trees.{formula_of}
use Rattle.clock_rewrite.proofs.Answer.{answer_clockless, answer_words, answer_atoms}
use Rattle.clock_rewrite.proofs.rewriting.unclock.Goals as goal

by_table : (c : goal.After-into_inner) → formula_of c.into_inner.result ≡ plain (formula_of c.args.f.now) (clock_of c.args.clock)
by_table c = ap formula_of c.into_inner.ensures ∙ c.in_ok-new.ensures

pub returns-clause-no_clock : goal.returns-clause-no_clock
returns-clause-no_clock c = answer_clockless (formula_of c.into_inner.result) (formula_of c.args.f.now) (clock_of c.args.clock) (by_table c)

pub returns-clause-meaning : goal.returns-clause-meaning
returns-clause-meaning c = answer_words (formula_of c.into_inner.result) (formula_of c.args.f.now) (clock_of c.args.clock) (by_table c)

pub returns-clause-atoms : goal.returns-clause-atoms
returns-clause-atoms c = answer_atoms (formula_of c.into_inner.result) (formula_of c.args.f.now) (clock_of c.args.clock) (by_table c)
