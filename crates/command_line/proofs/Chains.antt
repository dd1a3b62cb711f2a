-- What `clap` says of a command that was made argument by argument.
use Rattle.std.proofs.Common.{◌≡◌, ◌∙◌, ◌<◌, ap, refl, sym, ℕ, zero, suc, Bool, true, false, not, ◌&&◌, ◌||◌, List, [], ◌∷◌, ◌++◌, Option, None, Some, length, map, codes, is_some, inl, inr, arith}
use Rattle.std.specs.List.{All, list_all, slice_index_or}
use Rattle.std.specs.Str.{bytes_eq}
use Rattle.std.proofs.lemmas.List.{append-nil, append_assoc}
use Rattle.std.proofs.lemmas.List.Elements.{All-map}
use Rattle.std.proofs.lemmas.Slice.Eq.{bytes_eq-Decides}
use Rattle.clap.specs.Built.{AddsArg, AddsInTurn, FitsChain, HasDistinctIds, IsParsedFrom, TakesValue}
use Rattle.clap.specs.Matches.{first_value, found_of}
use Rattle.clap.specs.Simple.{App, app_of, with_rule}
use Rattle.clap.specs.Walk.{Rule, is_free_arg, is_simple_arg, rule_of}
use Rattle.clap.specs.declared.builder.action.ArgAction.{ArgAction}
use Rattle.clap.specs.declared.builder.action.ArgAction.TheVariants.{Set}
use Rattle.clap.specs.declared.builder.arg.Arg.{Arg}
use Rattle.clap.specs.declared.builder.command.Command.{Command}
use Rattle.clap.specs.declared.parser.matches.ArgMatches.{ArgMatches}
use Rattle.clap.proofs.CallerLemmas.{required_in_chain}
use Rattle.clap.proofs.SimpleLemmas.{is_false, is_nil}
use Rattle.clap.proofs.WalkLemmas.{both}
use Rattle.command_line.specs.Chains.{HasRequired, IsMadeOf}
use Rattle.command_line.specs.Clap.{app}

-- ---- rules of which `clap` keeps what it promises

abbrev is_set_action : Option ArgAction → Bool
is_set_action (Some Set) = true
is_set_action _ = false

-- a word that has to be there takes one value
abbrev takes_value : Rule → Bool
takes_value rule = not rule.required || (is_set_action rule.action && not (is_some rule.range))

-- the name of an argument is not empty, and none of those that `clap` gives itself
abbrev serves : List ℕ → Bool
serves name = not (bytes_eq name []) && (not (bytes_eq name (codes "help")) && not (bytes_eq name (codes "version")))

abbrev is_fit : Rule → Bool
is_fit rule = rule.is_simple && (rule.is_free && (serves rule.id && takes_value rule))

-- no two rules have one name
abbrev is_apart : List ℕ → List Rule → Bool
is_apart id rules = list_all (λ rule. not (bytes_eq rule.id id)) rules

abbrev are_apart : List Rule → Bool
are_apart [] = true
are_apart (rule ∷ rules) = is_apart rule.id rules && are_apart rules

abbrev pub are_fit : List Rule → Bool
are_fit rules = list_all is_fit rules && are_apart rules

-- ---- from rules to arguments

is_none : {X : Type 0} (o : Option X) → not (is_some o) ≡ true → o ≡ None
is_none None e = refl
is_none (Some x) e = cc

is_set : (action : Option ArgAction) → is_set_action action ≡ true → action ≡ Some Set
is_set (Some Set) e = refl
is_set action e = cc

-- what the tests of a rule say of its argument
simple_facts : (arg : Arg) → is_simple_arg arg ≡ true
    → (arg.overrides.items ≡ []) × (arg.groups.items ≡ []) × (arg.val_delim ≡ None) × (arg.global ≡ false)
simple_facts arg e =
    let overrides = both _ _ e in
    let conditions = both _ _ overrides.1 in
    let groups = both _ _ conditions.1 in
    let delimiter = both _ _ groups.1 in
    let terminator = both (not (is_some arg.terminator)) _ delimiter.1 in
    let hyphen = both (not arg.allow_hyphen_values) _ terminator.1 in
    let negative = both (not arg.allow_negative_numbers) _ hyphen.1 in
    let equals = both (not arg.require_equals) _ negative.1 in
    let last = both (not arg.last) _ equals.1 in
    (is_nil _ overrides.0, is_nil _ groups.0, is_none _ delimiter.0, is_false _ last.1)

free_facts : (arg : Arg) → is_free_arg arg ≡ true → (arg.exclusive ≡ false) × (arg.conflicts.items ≡ [])
free_facts arg e =
    let exclusive = both _ _ e in
    (is_false _ exclusive.0, is_nil _ (both _ _ exclusive.1).0)

not_equal : (a b : List ℕ) → not (bytes_eq a b) ≡ true → a ≡ b → ⊥
not_equal a b e same = let yes : bytes_eq a b ≡ true = (bytes_eq-Decides a b).1 same in cc

fits : (arg : Arg) → is_fit (rule_of arg) ≡ true → FitsChain arg
fits arg e =
    let simple = both _ _ e in
    let free = both _ _ simple.1 in
    let serving = both _ _ free.1 in
    let some = both _ _ serving.0 in
    let own = both _ _ some.1 in
    let facts = simple_facts arg simple.0 in
    let alone = free_facts arg free.0 in (
      (alone.0, alone.1, facts.0, facts.1),
      facts.3,
      not_equal _ _ some.0,
      (λ auto. elim auto [ inl help ↦ not_equal _ _ own.0 help | inr version ↦ not_equal _ _ own.1 version ]),
    )

when_required : (required takes : Bool) → (not required || takes) ≡ true → required ≡ true → takes ≡ true
when_required true takes e is = e
when_required false takes e is = cc

takes : (arg : Arg) → is_fit (rule_of arg) ≡ true → arg.required ≡ true → TakesValue arg
takes arg e required =
    let simple = both (is_simple_arg arg) _ e in
    let free = both (is_free_arg arg) _ simple.1 in
    let serving = both (serves arg.id.now) _ free.1 in
    let one = both (is_set_action arg.action) _ (when_required arg.required _ serving.1 required) in
    let range : arg.num_vals ≡ None = is_none arg.num_vals one.1 in
    (required, is_set arg.action one.0, (simple_facts arg simple.0).2, rw range (omega arith))

-- ---- and of a chain of them

all_fit : (args : List Arg) → list_all is_fit (map rule_of args) ≡ true → All (λ arg. is_fit (rule_of arg) ≡ true) args
all_fit [] e k d below = absurd (omega arith)
all_fit (x ∷ xs) e zero d below = (both _ _ e).0
all_fit (x ∷ xs) e (suc k) d below = all_fit xs (both _ _ e).1 k d (omega arith)

other : (id : List ℕ) (args : List Arg) → is_apart id (map rule_of args) ≡ true → (k : ℕ) (d : Arg) → k < length args
    → (slice_index_or args k d).id.now ≡ id → ⊥
other id [] e k d below same = omega arith
other id (x ∷ xs) e zero d below same = not_equal _ _ (both _ _ e).0 same
other id (x ∷ xs) e (suc k) d below same = other id xs (both _ _ e).1 k d (omega arith) same

distinct : (args : List Arg) → are_apart (map rule_of args) ≡ true → HasDistinctIds args
distinct [] e j k d f x y same = absurd (omega arith)
distinct (arg ∷ args) e zero zero d f x y same = refl
distinct (arg ∷ args) e zero (suc k) d f x y same =
    absurd (other _ args (both _ _ e).0 k d (omega arith) (sym ((bytes_eq-Decides _ _).0 same)))
distinct (arg ∷ args) e (suc j) zero d f x y same =
    absurd (other _ args (both _ _ e).0 j f (omega arith) ((bytes_eq-Decides _ _).0 same))
distinct (arg ∷ args) e (suc j) (suc k) d f x y same = ap suc (distinct args (both _ _ e).1 j k d f (omega arith) (omega arith) same)

-- a parse that succeeds finds the words that have to be there
pub required_found : (name : List ℕ) (args : List Arg) (command : Command) (matches : ArgMatches) → IsMadeOf name args command
    → are_fit (map rule_of args) ≡ true → IsParsedFrom command matches → HasRequired (map rule_of args) (first_value (found_of matches))
required_found name args command matches made fit parsed =
    let all = all_fit args (both _ _ fit).0 in
    All-map (λ rule. rule.required ≡ true → is_some (first_value (found_of matches) rule.id) ≡ true) rule_of args
    (λ k d below required. required_in_chain made.start command args k d matches made.chain made.no_args made.no_groups made.no_globals made.no_negation
    (λ k d below. fits (slice_index_or args k d) (all k d below)) (distinct args (both _ _ fit).1) below (takes (slice_index_or args k d) (all k d below) required) parsed)

with_rules : App → List Rule → App
with_rules a [] = a
with_rules a (rule ∷ rules) = with_rules (with_rule a rule) rules

added : (start command : Command) (args : List Arg) → AddsInTurn AddsArg start args command → list_all is_fit (map rule_of args) ≡ true
    → app_of command ≡ with_rules (app_of start) (map rule_of args)
unfolding with_rules
added start command [] same fit = ap app_of (sym same)
added start command (arg ∷ args) (next, first, rest) fit =
    let both_fit = both _ _ fit in
    added next command args rest both_fit.1 ∙ ap (λ a. with_rules a (map rule_of args)) (first.shape (fits arg both_fit.0).1)

in_turn : (name : List ℕ) (done rules : List Rule) → with_rules (app name done) rules ≡ app name (done ++ rules)
unfolding app with_rules
in_turn name done [] = ap (app name) (sym (append-nil done))
in_turn name done (rule ∷ rules) = in_turn name (done ++ rule ∷ []) rules ∙ ap (app name) (append_assoc done (rule ∷ []) rules)

-- what `clap` knows of such a command
pub app_made : (name : List ℕ) (args : List Arg) (command : Command) → IsMadeOf name args command → are_fit (map rule_of args) ≡ true
    → app_of command ≡ app name (map rule_of args)
app_made name args command made fit =
    added made.start command args made.chain (both _ _ fit).0
    ∙ (ap (λ a. with_rules a (map rule_of args)) made.bare ∙ in_turn name [] (map rule_of args))
