use Rattle.std.proofs.Common.{◌∙◌, ap, sym}
use Rattle.std.specs.Option.{option_copied}
use Rattle.psl_tree.proofs.FirstNames.{is-named, has-bit}
use Rattle.psl_text.proofs.naming.name_of.Goals as goal

pub unreachable-requires : goal.unreachable-requires
unreachable-requires c = is-named c.args.names.now c.args.atom.now c.requires (sym c.first_name.ensures ∙ ap option_copied c.in-None.is)

pub returns-clause-within : goal.returns-clause-within
returns-clause-within c = has-bit c.args.names.now c.args.atom.now c.in-Some.name.now c.requires (sym c.first_name.ensures ∙ ap option_copied c.in-Some.is)
