-- What statements declare, and a scope that says so.
use Rattle.std.specs.Prelude.{◌≡◌, Bool as Truth, ℕ, List, [], ◌∷◌, ◌++◌, Option, None, Some}
use Rattle.std.specs.Option.{option_map}
use Rattle.psl_lexer.specs.declared.token.Token.{Token}
use Rattle.psl_grammar.specs.declared.tree.Expression as code_expression
use Rattle.psl_grammar.specs.declared.tree.Statement as code_statement
use Rattle.psl_tree.specs.Trees.{Boolean}
use Rattle.psl_tree.specs.declared.name.Name.{Name}
use Rattle.psl_layer_theory.specs.Directives.{declared_by, default_clock}
use Rattle.psl_layer_theory.specs.Kernel.{Meaning, OfBoolean, Named, meaning_or, meaning_of}
use Rattle.psl_layer_theory.specs.Kinds.{declared_as}
use Rattle.psl_layer.specs.Built.{IsScope, GivesClock, built_at, kind_in}
use Rattle.psl_layer.specs.declared.scope.Scope.{Scope}

-- the names after statements, behind those of a scope
abbrev pub named_after : List Named → List Name → List code_statement.Statement → List Named
named_after scope names [] = scope
named_after scope names (statement ∷ more) = named_after (scope ++ declared_by scope names statement) names more

-- the names that statements declare
abbrev pub named_in : List Name → List code_statement.Statement → List Named
named_in names before = named_after [] names before

-- what an expression stands for behind statements
abbrev pub meaning_after : List Name → List code_statement.Statement → Truth → code_expression.Expression → Meaning
meaning_after names before in_sere x = meaning_of (named_in names before) names in_sere x

-- a path by what it is declared as, perhaps with an index
abbrev pub meaning_as : Option Meaning → Option Token → Boolean → Meaning
meaning_as declared None test = meaning_or declared test
meaning_as declared (Some index) test = OfBoolean test

-- a scope says what the statements before declare
pub record Stands (scope : Scope) (names : List Name) : Type 0 where
  pub kinds : (text : List ℕ) → option_map kind_in (built_at scope.declared text) ≡ declared_as scope.before.now text
  pub meanings : IsScope scope.declared (named_in names scope.before.now)
  pub clock : GivesClock scope.clock (default_clock [] names scope.before.now)
