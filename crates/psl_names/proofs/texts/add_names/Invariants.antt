use Rattle.std.proofs.Common.{◌≡◌, ◌++◌, drop}
use Rattle.psl_layer_theory.specs.Texts.{dotted}
use Rattle.psl_names.proofs.texts.add_names.Given as goal

abbrev pub invariant-loop-name : goal.invariant-loop-name
invariant-loop-name l = l.text.items ++ dotted (drop l.name-index l.more) ≡ l.initial.text.items ++ dotted l.more
