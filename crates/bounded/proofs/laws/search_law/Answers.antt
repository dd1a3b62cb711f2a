use Rattle.bounded.proofs.Models.{models-runs}
use Rattle.bounded.proofs.Reading.{model-run}
use Rattle.bounded.proofs.Within.{search-within}
use Rattle.bounded.proofs.laws.search_law.Goals as goal

pub returns : goal.returns
returns c = record {
  models = λ design automaton order valuations sound ordered good tests.
      models-runs design automaton (record { sound = sound; good = good; tests = tests; some = order; ordered = ordered }) valuations;
  runs = λ design automaton order valuations values sound ordered good tests model.
      model-run design automaton (record { sound = sound; good = good; tests = tests; some = order; ordered = ordered }) valuations values model;
  within = λ design automaton order valuations sound ordered good tests.
      search-within design automaton (record { sound = sound; good = good; tests = tests; some = order; ordered = ordered }) valuations;
}
