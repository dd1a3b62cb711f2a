-- What `clap` makes of the words of a command.
use Rattle.std.specs.Prelude.{◌≡◌, ℕ, Bool, true, false, List, [], ◌∷◌, Option, None, Some, codes}
use Rattle.std.specs.Str.{bytes_eq}
use Rattle.clap.specs.Walk.{Rule, first_of}
use Rattle.clap.specs.Simple.{App, matches_of, new_app, new_rule, on_top}
use Rattle.clap.specs.Faults.{fault_of, is_simple_and_free}
use Rattle.clap.specs.declared.builder.action.ArgAction.TheVariants.{Set, SetTrue}

-- a word that has to be there
abbrev pub required : List ℕ → Rule
required id = record (new_rule id) { required = true; action = Some Set }

-- a flag `--NAME`, given once at most
abbrev pub flag : List ℕ → Rule
flag id = record (new_rule id) { long = Some id; action = Some SetTrue }

-- an option `--NAME VALUE` or `--NAME=VALUE`, given once at most, and the value that it has where it is not given
abbrev pub option : List ℕ → List ℕ → Rule
option id value = record (new_rule id) { long = Some id; action = Some Set; defaults = value ∷ [] }

-- such an option that has no value where it is not given
abbrev pub optional : List ℕ → Rule
optional id = record (new_rule id) { long = Some id; action = Some Set }

-- the command `NAME` with these words, flags and options, and without flags for help and for a version
unfoldable pub app : List ℕ → List Rule → App
app name rules = on_top (λ shape. record shape {
  disable_help_flag = true;
  disable_version_flag = true;
  rules = rules;
}) (new_app name)

-- the command is one of which `clap` says exactly what it takes
unfoldable pub IsSimple : App → Type 0
IsSimple app = is_simple_and_free app ≡ true

-- `clap` takes the words, of which the first is the command's name: it finds no fault in them
unfoldable pub Takes : App → List (List ℕ) → Type 0
Takes app words = fault_of app words ≡ []

-- what the words give for one of the command's, or for a flag or an option
unfoldable pub given : App → List (List ℕ) → List ℕ → Option (List ℕ)
given app words id = first_of id (matches_of app words)

-- a flag's value is the text `true` where the flag is given
abbrev pub is_true : Option (List ℕ) → Bool
is_true None = false
is_true (Some value) = bytes_eq value (codes "true")
