-- Each command is one of which `clap` says exactly what it takes, and finds the words that have to be there.
use Rattle.std.proofs.Common.{◌≡◌, ◌∙◌, ap, ap₂, refl, subst, ℕ, true, List, map}
use Rattle.clap.specs.Built.{IsParsedFrom}
use Rattle.clap.specs.Matches.{first_value, found_of}
use Rattle.clap.specs.Simple.{App, HasMatchesOf, is_simple}
use Rattle.clap.specs.Simple as simple
use Rattle.clap.specs.Walk.{Rule, first_of, rule_of}
use Rattle.clap.specs.declared.builder.arg.Arg.{Arg}
use Rattle.clap.specs.declared.builder.command.Command.{Command}
use Rattle.clap.specs.declared.parser.matches.ArgMatches.{ArgMatches}
use Rattle.clap.proofs.WalkLemmas.{both, first_value-rows}
use Rattle.command_line.specs.Chains.{HasRequired, IsMadeOf}
use Rattle.command_line.specs.Clap.{IsSimple, app, given}
use Rattle.command_line.specs.Kinds.{app_of, name_of, rules_of}
use Rattle.command_line.specs.declared.kinds.Kind.{Kind}
use Rattle.command_line.specs.declared.kinds.Kind.TheVariants.{Wave, Gen, Show, Prove, Check, Replay}
use Rattle.command_line.proofs.Chains.{app_made, are_fit, required_found}

pub is_simple_kind : (kind : Kind) → IsSimple (app_of kind)
unfolding IsSimple app
is_simple_kind Wave = refl
is_simple_kind Gen = refl
is_simple_kind Show = refl
is_simple_kind Prove = refl
is_simple_kind Check = refl
is_simple_kind Replay = refl

fit : (kind : Kind) → are_fit (rules_of kind) ≡ true
fit Wave = refl
fit Gen = refl
fit Show = refl
fit Prove = refl
fit Check = refl
fit Replay = refl

fit_args : (kind : Kind) (args : List Arg) → map rule_of args ≡ rules_of kind → are_fit (map rule_of args) ≡ true
fit_args kind args told = ap are_fit told ∙ fit kind

pub app_told : (kind : Kind) (name : List ℕ) (args : List Arg) (command : Command) → name ≡ name_of kind → map rule_of args ≡ rules_of kind
    → IsMadeOf name args command → simple.app_of command ≡ app_of kind
app_told kind name args command named told made = app_made name args command made (fit_args kind args told) ∙ ap₂ app named told

pub required_told : (kind : Kind) (name : List ℕ) (args : List Arg) (command : Command) (matches : ArgMatches) → map rule_of args ≡ rules_of kind
    → IsMadeOf name args command → IsParsedFrom command matches → HasRequired (rules_of kind) (first_value (found_of matches))
required_told kind name args command matches told made parsed =
    subst (λ (rules : List Rule). HasRequired rules (first_value (found_of matches))) told
    (required_found name args command matches made (fit_args kind args told) parsed)

-- the matches give what the words give
pub given_of : (app : App) (words : List (List ℕ)) (matches : ArgMatches) (id : List ℕ) → IsSimple app → HasMatchesOf app words matches
    → first_value (found_of matches) id ≡ given app words id
unfolding IsSimple given
given_of app words matches id simple has =
    first_value-rows (found_of matches) id ∙ ap (first_of id) (has (both (is_simple app) _ simple).0).0
