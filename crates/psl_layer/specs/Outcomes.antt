-- What was found of a text.
use Rattle.std.specs.Prelude.{◌≡◌, List, []}
use Rattle.psl_layer_theory.specs.Directives.{Asked}
use Rattle.psl_layer_theory.specs.FirstFlaw.{first_of}
use Rattle.psl_layer_theory.specs.declared.fault.Flaw.{Flaw}
use Rattle.psl_layer.specs.Asked.{IsLonger}
use Rattle.psl_layer.specs.declared.texts.Outcome.{Outcome}

-- the first of some faults, and the directives for what is asked, or the place of the first that is too large
pub record IsOutcome (flaws : List Flaw) (asked : List Asked) (outcome : Outcome) : Type 0 where
  pub flaw : outcome.flaw ≡ first_of flaws
  pub built : IsLonger [] asked outcome.built
