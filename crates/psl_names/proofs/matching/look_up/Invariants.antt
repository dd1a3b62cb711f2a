use Rattle.std.proofs.Common.{◌≡◌, drop}
use Rattle.psl_layer_theory.specs.LookUp.{ends_named, is_named}
use Rattle.psl_layer_theory.specs.declared.found.Found.TheVariants.{Nothing}
use Rattle.psl_names.specs.Alike.{with_names}
use Rattle.psl_names.proofs.matching.look_up.Given as goal

abbrev pub invariant-loop-name : goal.invariant-loop-name
invariant-loop-name l = record {
  named : with_names (is_named l.text) l.named (drop l.name-index l.all) ≡ with_names (is_named l.text) Nothing l.all;
  ending : with_names (ends_named l.text) l.ending (drop l.name-index l.all) ≡ with_names (ends_named l.text) Nothing l.all;
}
