-- Directives whose property has a clock of its own, and those whose property has none.
use Rattle.std.proofs.Common.{◌≡◌, refl, Box, Global, List, Option, false}
use Rattle.psl_lexer.specs.declared.token.Token.{Token}
use Rattle.psl_grammar.specs.declared.tree.Expression as code_expression
use Rattle.psl_grammar.specs.declared.tree.Expression.TheVariants as expressions
use Rattle.psl_tree.specs.Trees.{Boolean}
use Rattle.psl_tree.specs.declared.name.Name.{Name}
use Rattle.psl_layer_theory.specs.Directives.{asserted, under_clock, covered_under, cover_formula}
use Rattle.psl_layer_theory.specs.Kernel.{Meaning, Named, meaning_of}

-- the property is not of the form `e @ c`
abbrev pub HasNoClock : code_expression.Expression → Type 0
HasNoClock property =
    (x : Box code_expression.Expression Global) (at : Token) (clock : Box code_expression.Expression Global) → property ≡ code_expression.Clocked x at clock → ⊥

pub unowned-asserted : (default : Option Boolean) (meaning : Meaning) (property : code_expression.Expression) → HasNoClock property → asserted default property meaning ≡ under_clock default meaning
unowned-asserted default meaning (expressions.Clocked' b x at d own) none =
    absurd (none (record { ptr = b.ptr; alloc = b.alloc; value = x }) at (record { ptr = d.ptr; alloc = d.alloc; value = own }) refl)
unowned-asserted default meaning _ none = refl

pub unowned-covered : (named : List Named) (names : List Name) (default : Option Boolean) (property : code_expression.Expression) → HasNoClock property
    → cover_formula named names default property ≡ covered_under default (meaning_of named names false property)
unowned-covered named names default (expressions.Clocked' b x at d own) none =
    absurd (none (record { ptr = b.ptr; alloc = b.alloc; value = x }) at (record { ptr = d.ptr; alloc = d.alloc; value = own }) refl)
unowned-covered named names default _ none = refl
