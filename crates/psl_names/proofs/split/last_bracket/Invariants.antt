use Rattle.std.proofs.Common.{◌≡◌, ◌<◌, length, drop, None}
use Rattle.std.specs.Option.{IfSome}
use Rattle.psl_layer_theory.specs.Buses.{last_bracket}
use Rattle.psl_names.proofs.split.last_bracket.Given as goal

abbrev pub invariant-loop-at : goal.invariant-loop-at
invariant-loop-at l = record {
  is : last_bracket None 0 l.text ≡ last_bracket l.last l.at (drop l.at l.text);
  within : IfSome l.last (λ place. place < length l.text);
}
