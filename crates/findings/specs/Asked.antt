-- The directives of a text that are asked.
use Rattle.std.specs.Prelude.{◌≡◌, ◌≤◌, ℕ, suc, Bool as Truth, true, List, filter, slice_get, Some}
use Rattle.cert_check.specs.Claims.{directive_of}
use Rattle.owed.specs.Owed.{is_asked}
use Rattle.psl_tree.specs.declared.directive.Directive.{Directive}

-- its assertions, and its covers where these are to be asked, in the order of the text
abbrev pub asked : Truth → List Directive → List Directive
asked covers unit = filter (λ directive. is_asked covers directive.kind) unit

-- an assertion or a cover of the text: the first of its directives that has its number, which counts from 1
pub record IsAskedOf (unit : List Directive) (directive : Directive) : Type 0 where
  pub is : directive_of unit directive.number ≡ Some directive
  pub kind : is_asked true directive.kind ≡ true
  pub some : 1 ≤ directive.number

-- each directive has the number of its place in the text, counted from 1
abbrev pub AreNumbered : List Directive → Type 0
AreNumbered unit =
    (place : ℕ) (directive : Directive) → slice_get unit place ≡ Some directive → directive.number ≡ suc place
