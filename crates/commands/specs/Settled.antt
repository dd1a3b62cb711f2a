-- From where on verdicts are settled: the samples of their points.
use Rattle.std.specs.Prelude.{Bool, true, false, ◌≡◌, ℕ, zero, suc, List, map, Option, None, Some}
use Rattle.std.specs.Option.{option_map}
use Rattle.psl_tree.specs.declared.directive.Directive.{Directive}
use Rattle.vcd_reader.specs.Sampled.{Sampled, letters_of, place_of_time, time_of_sample}
use Rattle.wave_judge.specs.Settled.{ArePoints}
use Rattle.wave_judge.specs.declared.verdict.Verdict.{Verdict}
use Rattle.commands.specs.declared.outcome.Settled.{Settled}
use Rattle.commands.specs.declared.outcome.Settled.TheVariants.{Before, At}

-- where so many first samples settle a verdict: before the first sample, or at the last of these
abbrev pub settled_by : Sampled → ℕ → Settled
settled_by sampled zero = Before
settled_by sampled (suc sample) = At sample (time_of_sample sampled sample) (place_of_time sampled sample).line

abbrev pub settled_of : Sampled → Option ℕ → Option Settled
settled_of sampled point = option_map (settled_by sampled) point

-- from where on the verdicts of directives are settled, where that is asked for: each by its point
abbrev pub AreSettled : Bool → Sampled → List Directive → List Verdict → Option (List (Option Settled)) → Type 0
AreSettled false sampled directives verdicts settled = settled ≡ None
AreSettled true sampled directives verdicts settled =
    (points : List (Option ℕ)) × ArePoints (letters_of sampled) directives verdicts points × (settled ≡ Some (map (settled_of sampled) points))
