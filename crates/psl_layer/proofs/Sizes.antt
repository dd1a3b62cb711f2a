-- The sizes of next forms: each is at least as large as its parts are.
use Rattle.std.proofs.Common.{ℕ, ◌+◌, ◌-◌, ◌≤◌, Option, None, Some, arith}
use Rattle.psl_tree.specs.Trees.{Boolean, Formula, Not, And, Now}
use Rattle.psl_tree.specs.Counts.{boolean_size, formula_size}
use Rattle.psl_sugar.specs.Properties.{next_times, next_event, next_event_times, next_range, next_event_range}
use Rattle.psl_sugar.specs.declared.operator.Strength.{Strength}
use Rattle.psl_sugar.specs.declared.operator.Strength.TheVariants as strengths
use Rattle.psl_sugar.specs.declared.operator.Quantifier.{Quantifier}
use Rattle.psl_sugar.proofs.Sizes.{next_steps_size, until_size, next_event_holds, joined_holds}
use Rattle.psl_lexer.specs.declared.kind.TokenKind.{TokenKind}
use Rattle.psl_grammar.specs.declared.tree.Count as code_count
use Rattle.psl_grammar.specs.declared.tree.Count.TheVariants as counts
use Rattle.psl_layer_theory.specs.Kernel.{next_meaning, event_meaning}
use Rattle.psl_layer_theory.specs.Operators.{strength_of, quantifier_of}
use Rattle.psl_layer_theory.specs.Texts.{number_of}

times_size : (strength : Strength) (count : ℕ) (part : Formula) → formula_size part ≤ formula_size (next_times strength count part)
times_size strengths.Strong count part = omega (arith, next_steps_size count part)
times_size strengths.Weak count part = omega (arith, next_steps_size count (Not part))

range_size : (which : Quantifier) (strength : Strength) (low high : ℕ) (part : Formula) → formula_size part ≤ formula_size (next_range which strength low high part)
range_size which strength low high part =
    omega (arith, times_size strength low part, joined_holds which (λ count. next_times strength count part) low (high - low))

-- a next form holds its operand
pub next_size : (word : TokenKind) (count : code_count.Count) (part : Formula) → formula_size part ≤ formula_size (next_meaning word count part)
next_size word (counts.Times times) part = times_size (strength_of word) (number_of times) part
next_size word (counts.Between low high) part = range_size (quantifier_of word) (strength_of word) (number_of low) (number_of high) part

one_event_size : (strength : Strength) (test : Boolean) (part : Formula) → formula_size part + boolean_size test ≤ formula_size (next_event strength test part)
one_event_size strength test part = omega (arith, until_size strength (Not (Now test)) (And (Now test) part))

events_size : (strength : Strength) (test : Boolean) (count : ℕ) (part : Formula) → formula_size part + boolean_size test ≤ formula_size (next_event_times strength test count part)
events_size strength test count part = omega (arith, one_event_size strength test part, next_event_holds strength test count part)

event_range_size : (which : Quantifier) (strength : Strength) (test : Boolean) (low high : ℕ) (part : Formula) →
    formula_size part + boolean_size test ≤ formula_size (next_event_range which strength test low high part)
event_range_size which strength test low high part =
    omega (arith, events_size strength test low part, joined_holds which (λ count. next_event_times strength test count part) low (high - low))

-- a next event holds its operand and its Boolean
pub event_size : (word : TokenKind) (test : Boolean) (count : Option code_count.Count) (part : Formula) →
    formula_size part + boolean_size test ≤ formula_size (event_meaning word test count part)
event_size word test None part = one_event_size (strength_of word) test part
event_size word test (Some (counts.Times times)) part = events_size (strength_of word) test (number_of times) part
event_size word test (Some (counts.Between low high)) part = event_range_size (quantifier_of word) (strength_of word) test (number_of low) (number_of high) part
