-- Queries as they are asked, what is told of one, and why a search ends at one.
use Rattle.std.specs.Prelude.{◌≡◌, ℕ, length}
use Rattle.clauses.specs.Models.{IsModel}
use Rattle.joint.specs.Joined.{Joined}
use Rattle.run_terms.specs.Formulas.{values_of}
use Rattle.reach.specs.Answers.{AreSpent, IsLarge, IsLogFull, IsRefuted}
use Rattle.reach.specs.Formulas.{clauses_of, variables_of}
use Rattle.reach.specs.declared.asking.Told.{Told}
use Rattle.reach.specs.declared.asking.Told.TheVariants.{Model, Refuted}
use Rattle.reach.specs.declared.question.Question.{Question}
use Rattle.reach.specs.declared.question.Question.TheVariants.{Initial, Step, Bad, Relative}
use Rattle.reach_frames.specs.declared.stop.ReachQuery.{ReachQuery}
use Rattle.reach_frames.specs.declared.stop.ReachQuery.TheVariants as queries
use Rattle.reach_frames.specs.declared.stop.Stop.{Stop}
use Rattle.reach_frames.specs.declared.stop.Stop.TheVariants as stops

abbrev pub query_of : Question → ReachQuery
query_of (Initial clauses) = queries.Initial clauses.now
query_of (Step clauses) = queries.Step clauses.now
query_of (Bad clauses) = queries.Bad clauses.now
query_of (Relative frame initial cube) = queries.Relative frame.now initial cube.now

-- a model of a query's formula, or a log that refutes it
abbrev pub IsTold : Joined → ℕ → ReachQuery → Told → Type 0
IsTold joined steps query (Model values) =
    (length values ≡ variables_of joined query) × IsModel (values_of values) (clauses_of joined query)
IsTold joined steps query (Refuted log count) = IsRefuted joined steps query log

-- what a search ends in at a query, with its evidence
abbrev pub IsStop : Joined → ℕ → Stop → Type 0
IsStop joined steps stops.NoMemory = Unit {0}
IsStop joined steps (stops.Spent query log) = AreSpent joined steps query.value log.value
IsStop joined steps (stops.LogFull query log) = IsLogFull joined steps query.value log.value
IsStop joined steps (stops.Large query) = IsLarge joined query.value
