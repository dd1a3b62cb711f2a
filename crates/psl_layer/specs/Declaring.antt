-- A declared name more.
use Rattle.std.specs.Prelude.{◌≡◌, ℕ, false, List, [], ◌∷◌, ◌++◌, None, Some, if◌then◌else◌}
use Rattle.std.specs.Option.{option_or}
use Rattle.std.specs.Str.{bytes_eq}
use Rattle.psl_lexer.specs.declared.token.Token.{Token}
use Rattle.psl_grammar.specs.declared.tree.Expression as code_expression
use Rattle.psl_grammar.specs.declared.tree.Statement as code_statement
use Rattle.psl_grammar.specs.declared.tree.Statement.TheVariants as statements
use Rattle.psl_tree.specs.declared.name.Name.{Name}
use Rattle.psl_layer.specs.Built.{Declared, Gives, built_at}
use Rattle.psl_layer.specs.Scopes.{Stands, meaning_after}
use Rattle.psl_layer.specs.declared.meaning.Meaning.{Meaning}
use Rattle.psl_layer.specs.declared.scope.Scope.{Scope}

-- at a text there is a meaning, if there was none
abbrev pub IsNamed : Declared → List ℕ → Meaning → Declared → Type 0
IsNamed old text meaning new =
    (other : List ℕ) → built_at new other ≡ option_or (built_at old other) (if bytes_eq text other then Some meaning else None)

-- a scope behind a declaration, whatever it declares
abbrev pub IsGrown : Scope → List code_statement.Statement → Token → Token → Meaning → Scope → Type 0
IsGrown scope before word name meaning new =
    (names : List Name) (body : code_expression.Expression) → before ≡ scope.before.now ++ statements.Declaration word name body ∷ [] →
    Stands scope names → Gives meaning (meaning_after names scope.before.now false body) → Stands new names × (new.before.now ≡ before)
