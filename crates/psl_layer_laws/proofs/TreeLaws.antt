-- Texts with one tree of the grammar have the same faults and the same kernel.
use Rattle.std.proofs.Common.{◌≡◌, refl, sym, ap, ◌∙◌, ℕ, List, [], ◌∷◌, ◌++◌, Option, None, Some, false}
use Rattle.std.specs.List.{list_any}
use Rattle.psl_base.specs.declared.place.Place.{Place}
use Rattle.psl_lexer.specs.declared.token.Token.{Token}
use Rattle.psl_grammar.specs.declared.tree.Expression as code_expression
use Rattle.psl_grammar.specs.declared.tree.Statement as code_statement
use Rattle.psl_grammar.specs.declared.tree.Statement.TheVariants as statements
use Rattle.psl_grammar.specs.declared.tree.UnitTree as code_tree
use Rattle.psl_grammar.specs.declared.tree.UnitTree.TheVariants as trees
use Rattle.psl_grammar.specs.declared.tree.VerificationUnit.{VerificationUnit}
use Rattle.psl_grammar.specs.Surface.{statements_node, units_node, tree_node}
use Rattle.psl_grammar.specs.Trees as nodes
use Rattle.psl_grammar.specs.Trees.{Node}
use Rattle.psl_layer_laws.proofs.Cleared.{clear, clear_statement, clear_all, read_statements, statements-read}
use Rattle.psl_layer_laws.proofs.Unboxed.{place-clear, kind-clear, flaws-clear, meaning-clear, asserted-clear, cover-clear}
use Rattle.psl_layer_theory.specs.Directives.{Asked, named_by, declared_by, clock_by, clock_of, default_clock, asserted, directive_formula, asked_by, asked_after, asked_in, asked_in_units, kernel}
use Rattle.psl_layer_theory.specs.Flaws.{declares_clock, declaration_flaws, statement_flaws, statements_flaws, units_flaws, tree_flaws}
use Rattle.psl_layer_theory.specs.Kernel.{Named, meaning_of}
use Rattle.psl_layer_theory.specs.Kinds.{kind_declared_by, declared_as, place_of, kind_of}
use Rattle.psl_layer_theory.specs.Operators.{declaration_word, directive_kind_of}
use Rattle.psl_layer_theory.specs.declared.fault.Flaw.{Flaw}
use Rattle.psl_layer_theory.specs.declared.kind.ExpressionKind.{ExpressionKind}
use Rattle.psl_layer_theory.specs.declared.operator.DeclarationWord.{DeclarationWord}
use Rattle.psl_layer_theory.specs.declared.operator.DeclarationWord.TheVariants as declarations
use Rattle.psl_tree.specs.Trees.{Boolean}
use Rattle.psl_tree.specs.declared.directive.Kind as directive_kind
use Rattle.psl_tree.specs.declared.directive.Kind.TheVariants as directives
use Rattle.psl_tree.specs.declared.name.Name.{Name}

-- ---- faults

kind-declared-clear : (text : List ℕ) (x : code_statement.Statement) → kind_declared_by text (clear_statement x) ≡ kind_declared_by text x
kind-declared-clear text (statements.Directive label word x report) = refl
kind-declared-clear text (statements.Declaration word name body) = refl

declared-clear : (s : List code_statement.Statement) (text : List ℕ) → declared_as (clear_all s) text ≡ declared_as s text
declared-clear [] text = refl
declared-clear (x ∷ xs) text = rw (kind-declared-clear text x, declared-clear xs text) refl

clock-clear : (x : code_statement.Statement) → declares_clock (clear_statement x) ≡ declares_clock x
clock-clear (statements.Directive label word x report) = refl
clock-clear (statements.Declaration word name body) = refl

clocks-clear : (s : List code_statement.Statement) → list_any declares_clock (clear_all s) ≡ list_any declares_clock s
clocks-clear [] = refl
clocks-clear (x ∷ xs) = rw (clock-clear x, clocks-clear xs) refl

more-clear : (s : List code_statement.Statement) (x : code_statement.Statement) → clear_all s ++ clear_statement x ∷ [] ≡ clear_all (s ++ x ∷ [])
more-clear [] x = refl
more-clear (y ∷ ys) x = rw (more-clear ys x) refl

both : {a b c d : List Flaw} → a ≡ b → c ≡ d → a ++ c ≡ b ++ d
both {a = a} {b = b} {c = c} {d = d} e e2 = ap (λ (xs : List Flaw). xs ++ c) e ∙ ap (λ (ys : List Flaw). b ++ ys) e2

declaration-flaws-clear : (s : List code_statement.Statement) (declared : DeclarationWord) (word name : Token) (kind : ExpressionKind) (place : Place) →
    declaration_flaws (clear_all s) declared word name kind place ≡ declaration_flaws s declared word name kind place
declaration-flaws-clear s declarations.Sequence word name kind place = rw (declared-clear s name.text) refl
declaration-flaws-clear s declarations.Property word name kind place = rw (declared-clear s name.text) refl
declaration-flaws-clear s declarations.DefaultClock word name kind place = rw (clocks-clear s) refl

module _ (names : List Name) where
  statement-flaws-clear : (s : List code_statement.Statement) (x : code_statement.Statement) → statement_flaws (clear_all s) names (clear_statement x) ≡ statement_flaws s names x
  statement-flaws-clear s (statements.Directive label word x report) =
      both (flaws-clear (clear_all s) s (declared-clear s) names false x) (rw (kind-clear (clear_all s) s (declared-clear s) false x, place-clear x) refl)
  statement-flaws-clear s (statements.Declaration word name body) =
      both (flaws-clear (clear_all s) s (declared-clear s) names false body)
      (rw (kind-clear (clear_all s) s (declared-clear s) false body, place-clear body) (declaration-flaws-clear s (declaration_word word.kind) word name (kind_of s false body) (place_of body)))

  statements-flaws-clear : (s xs : List code_statement.Statement) → statements_flaws (clear_all s) names (clear_all xs) ≡ statements_flaws s names xs
  statements-flaws-clear s [] = refl
  statements-flaws-clear s (x ∷ xs) =
      both (statement-flaws-clear s x) (ap (λ (t : List code_statement.Statement). statements_flaws t names (clear_all xs)) (more-clear s x) ∙ statements-flaws-clear (s ++ x ∷ []) xs)

  -- ---- kernel

  declared-by-clear : (scope : List Named) (x : code_statement.Statement) → declared_by scope names (clear_statement x) ≡ declared_by scope names x
  declared-by-clear scope (statements.Directive label word x report) = refl
  declared-by-clear scope (statements.Declaration word name body) = ap (named_by (declaration_word word.kind) name.text) (meaning-clear names scope false body)

  clock-of-clear : (scope : List Named) (x : code_statement.Statement) → clock_of scope names (clear_statement x) ≡ clock_of scope names x
  clock-of-clear scope (statements.Directive label word x report) = refl
  clock-of-clear scope (statements.Declaration word name body) = ap (clock_by (declaration_word word.kind)) (meaning-clear names scope false body)

  default-clear : (scope : List Named) (xs : List code_statement.Statement) → default_clock scope names (clear_all xs) ≡ default_clock scope names xs
  default-clear scope [] = refl
  default-clear scope (x ∷ xs) = rw (clock-of-clear scope x, declared-by-clear scope x, default-clear (scope ++ declared_by scope names x) xs) refl

  formula-clear : (scope : List Named) (clock : Option Boolean) (kind : directive_kind.Kind) (x : code_expression.Expression) →
      directive_formula scope names clock kind (clear x) ≡ directive_formula scope names clock kind x
  formula-clear scope clock directives.Cover x = cover-clear names scope clock x
  formula-clear scope clock directives.Assert x = ap (asserted clock (clear x)) (meaning-clear names scope false x) ∙ asserted-clear names scope clock x (meaning_of scope names false x)
  formula-clear scope clock directives.Assume x = ap (asserted clock (clear x)) (meaning-clear names scope false x) ∙ asserted-clear names scope clock x (meaning_of scope names false x)

  asked-by-clear : (scope : List Named) (clock : Option Boolean) (x : code_statement.Statement) → asked_by scope names clock (clear_statement x) ≡ asked_by scope names clock x
  asked-by-clear scope clock (statements.Directive label word x report) = rw (formula-clear scope clock (directive_kind_of word.kind) x) refl
  asked-by-clear scope clock (statements.Declaration word name body) = refl

  asked-after-clear : (scope : List Named) (clock : Option Boolean) (xs : List code_statement.Statement) → asked_after scope names clock (clear_all xs) ≡ asked_after scope names clock xs
  asked-after-clear scope clock [] = refl
  asked-after-clear scope clock (x ∷ xs) = rw (asked-by-clear scope clock x, declared-by-clear scope x, asked-after-clear (scope ++ declared_by scope names x) clock xs) refl

  asked-in-clear : (xs : List code_statement.Statement) → asked_in names (clear_all xs) ≡ asked_in names xs
  asked-in-clear xs = rw (default-clear [] xs) (asked-after-clear [] (default_clock [] names xs) xs)

-- ---- whole texts

-- what both say of two texts
abbrev pub Agree : List Name → code_tree.UnitTree → code_tree.UnitTree → Type 0
Agree names first second = (tree_flaws names first ≡ tree_flaws names second) × (kernel names first ≡ kernel names second)

-- what a node says of a text
abbrev flaws_read : List Name → Node → List Flaw
flaws_read names (nodes.Whole x) = flaws_read names x
flaws_read names (nodes.Listed (nodes.UnitOf name binding all) rest) = statements_flaws [] names (read_statements all) ++ flaws_read names rest
flaws_read names x = statements_flaws [] names (read_statements x)

abbrev asked_read : List Name → Node → List Asked
asked_read names (nodes.Whole x) = asked_read names x
asked_read names (nodes.Listed (nodes.UnitOf name binding all) rest) = asked_in names (read_statements all) ++ asked_read names rest
asked_read names x = asked_in names (read_statements x)

list-flaws : (names : List Name) (xs : List code_statement.Statement) → statements_flaws [] names (read_statements (statements_node xs)) ≡ statements_flaws [] names xs
list-flaws names xs = rw (statements-read xs) (statements-flaws-clear names [] xs)

list-asked : (names : List Name) (xs : List code_statement.Statement) → asked_in names (read_statements (statements_node xs)) ≡ asked_in names xs
list-asked names xs = rw (statements-read xs) (asked-in-clear names xs)

units-flaws : (names : List Name) (us : List VerificationUnit) → flaws_read names (units_node us) ≡ units_flaws names us
units-flaws names [] = refl
units-flaws names (u ∷ us) = both (list-flaws names u.statements) (units-flaws names us)

units-asked : (names : List Name) (us : List VerificationUnit) → asked_read names (units_node us) ≡ asked_in_units names us
units-asked names [] = refl
units-asked names (u ∷ us) = rw (list-asked names u.statements, units-asked names us) refl

tree-flaws : (names : List Name) (tree : code_tree.UnitTree) → flaws_read names (tree_node tree) ≡ tree_flaws names tree
tree-flaws names (trees.Units us) = units-flaws names us
tree-flaws names (trees.Statements []) = refl
tree-flaws names (trees.Statements (statements.Directive None word x report ∷ xs)) = list-flaws names (statements.Directive None word x report ∷ xs)
tree-flaws names (trees.Statements (statements.Directive (Some label) word x report ∷ xs)) = list-flaws names (statements.Directive (Some label) word x report ∷ xs)
tree-flaws names (trees.Statements (statements.Declaration word name body ∷ xs)) = list-flaws names (statements.Declaration word name body ∷ xs)

tree-asked : (names : List Name) (tree : code_tree.UnitTree) → asked_read names (tree_node tree) ≡ kernel names tree
tree-asked names (trees.Units us) = units-asked names us
tree-asked names (trees.Statements []) = refl
tree-asked names (trees.Statements (statements.Directive None word x report ∷ xs)) = list-asked names (statements.Directive None word x report ∷ xs)
tree-asked names (trees.Statements (statements.Directive (Some label) word x report ∷ xs)) = list-asked names (statements.Directive (Some label) word x report ∷ xs)
tree-asked names (trees.Statements (statements.Declaration word name body ∷ xs)) = list-asked names (statements.Declaration word name body ∷ xs)

pub same-tree : (names : List Name) (first second : code_tree.UnitTree) → tree_node first ≡ tree_node second → Agree names first second
same-tree names first second e = (
  sym (tree-flaws names first) ∙ ap (flaws_read names) e ∙ tree-flaws names second,
  sym (tree-asked names first) ∙ ap (asked_read names) e ∙ tree-asked names second,
)
