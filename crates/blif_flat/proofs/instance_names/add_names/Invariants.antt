use Rattle.std.proofs.Common.{◌≡◌, ◌++◌, drop}
use Rattle.blif_flat.specs.Naming.{names_with, prefix_of}
use Rattle.blif_flat.proofs.instance_names.add_names.Given as goal

abbrev pub invariant-loop-number : goal.invariant-loop-number
invariant-loop-number l =
    l.initial.names ++ names_with (prefix_of l.instance.path) l.instance.numbers l.texts
    ≡ l.names ++ names_with (prefix_of l.instance.path) (drop l.number l.instance.numbers) (drop l.number l.texts)
