use Rattle.std.proofs.Common.{◌≡◌, ◌∙◌, ap, sym, subst, Some, map, string_bytes, inl, inr}
use Rattle.clap.specs.Kinds.{IsAmong, Kinds}
use Rattle.clap.specs.Simple.{App}
use Rattle.clap.specs.Simple as simple
use Rattle.command_line.specs.Clap.{IsSimple, Takes, given}
use Rattle.command_line.specs.Commands.IsRefused.{untaken}
use Rattle.command_line.specs.Kinds.{app_of}
use Rattle.command_line.proofs.Told.{app_told, given_of, is_simple_kind, required_told}
use Rattle.command_line.proofs.parsing.parse.Goals as goal

pub returns-in-Ok-clause-taken : goal.returns-in-Ok-clause-taken
unfolding Takes IsSimple
returns-in-Ok-clause-taken c =
    let words = map string_bytes c.args.words.now in
    let told : simple.app_of c.in_ok-command.command ≡ app_of c.args.kind =
    app_told c.args.kind _ _ _ c.requires.name c.in_ok-args_of.ensures c.in_ok-command.ensures in
    let is_simple = subst IsSimple (sym told) (is_simple_kind c.args.kind) in
    record {
      named = c.requires.named ∙ ap Some c.requires.name;
      taken = subst (λ (app : App). Takes app words) told (c.in-Ok.ensures.kinds is_simple);
    }

pub returns-in-Ok-clause-given : goal.returns-in-Ok-clause-given
returns-in-Ok-clause-given c id =
    let words = map string_bytes c.args.words.now in
    let told : simple.app_of c.in_ok-command.command ≡ app_of c.args.kind =
    app_told c.args.kind _ _ _ c.requires.name c.in_ok-args_of.ensures c.in_ok-command.ensures in
    let is_simple = subst IsSimple (sym told) (is_simple_kind c.args.kind) in
    given_of _ words c.in-Ok.matches id is_simple c.in-Ok.ensures.matches ∙ ap (λ (app : App). given app words id) told

pub returns-in-Ok-clause-required : goal.returns-in-Ok-clause-required
returns-in-Ok-clause-required c =
    required_told c.args.kind _ _ _ c.in-Ok.matches c.in_ok-args_of.ensures c.in_ok-command.ensures c.in-Ok.ensures.parsed

pub returns-in-Err-clause-usage : goal.returns-in-Err-clause-usage
unfolding Takes IsSimple
returns-in-Err-clause-usage c usage most =
    let words = map string_bytes c.args.words.now in
    let told : simple.app_of c.in_ok-command.command ≡ app_of c.args.kind =
    app_told c.args.kind _ _ _ c.requires.name c.in_ok-args_of.ensures c.in_ok-command.ensures in
    let is_simple = subst IsSimple (sym told) (is_simple_kind c.args.kind) in
    untaken c.args.kind (c.requires.named ∙ ap Some c.requires.name) (λ taken.
    let none = subst (λ (app : App). Takes app words) (sym told) taken in
    elim (c.in-Err.ensures.kinds is_simple) [
      | inl memory ↦
          let told = c.fault_of_kind.ensures.memory (c.kind.ensures ∙ memory) in
          cc
      | inr among ↦ subst (λ (kinds : Kinds). IsAmong c.in-Err.error.kind kinds) none among
    ])
