use Rattle.std.proofs.Common.{◌≡◌, ◌∙◌, ap, true, []}
use Rattle.std.proofs.lemmas.Result.{IfOk-weaker}
use Rattle.clap.specs.Simple.{Shape, app_of, app_of_fields, new_app, on_top}
use Rattle.command_line.specs.Clap.{app}
use Rattle.command_line.proofs.parsing.command_with.Goals as goal

abbrev without_help : Shape → Shape
without_help shape = record shape { disable_help_flag = true }

abbrev without_version : Shape → Shape
without_version shape = record shape { disable_version_flag = true }

pub returns : goal.returns
unfolding app
returns c =
    let help = c.disable_help_flag.ensures in
    let version = c.disable_version_flag.ensures in
    let unhelped : app_of c.disable_help_flag.result ≡ on_top without_help (app_of c.new.result) = ap app_of_fields help in
    let named : app_of c.disable_help_flag.result ≡ on_top without_help (new_app c.args.name.now) =
    unhelped ∙ ap (on_top without_help) c.new.ensures.app in
    let unversioned : app_of c.disable_version_flag.result ≡ on_top without_version (app_of c.disable_help_flag.result) = ap app_of_fields version in
    let bare : app_of c.disable_version_flag.result ≡ app c.args.name.now [] = unversioned ∙ ap (on_top without_version) named in
    IfOk-weaker c.args-2.result _ _ (λ command chain. record {
      start = c.disable_version_flag.result;
      chain = chain;
      bare = bare;
      no_args = ap (λ fields. fields.args.items) version ∙ (ap (λ fields. fields.args.items) help ∙ c.new.ensures.empty.0);
      no_groups = ap (λ fields. fields.groups.items) version ∙ (ap (λ fields. fields.groups.items) help ∙ c.new.ensures.empty.1);
      no_globals = ap (λ fields. fields.has_globals) version ∙ (ap (λ fields. fields.has_globals) help ∙ c.new.ensures.local);
      no_negation = ap (λ fields. fields.subcommand_negates_reqs) version
          ∙ (ap (λ fields. fields.subcommand_negates_reqs) help ∙ c.new.ensures.negates);
    }) c.args-2.ensures
