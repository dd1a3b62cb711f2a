-- Lemmas that are dropped.
use Rattle.std.specs.Prelude.{◌≡◌, ◌≢◌, ℕ, ◌+◌, ◌*◌, ◌<◌, ◌≤◌, length, slice_index, IsSomeAnd}
use Rattle.std.specs.List.{All}
use Rattle.clauses.specs.Live.{clause_of}
use Rattle.clauses.specs.Logs.{lemmas, log_words}
use Rattle.cdcl_trail.specs.Path.{Path}
use Rattle.cdcl.specs.declared.solver.Solver.{Solver}
use Rattle.cdcl.specs.Evidence.{live_lemmas}
use Rattle.cdcl.specs.Solving.{IsReady}

-- where a literal stands on the trail, it has not this reason
abbrev pub IsNoReason : Path → ℕ → ℕ → Type 0
IsNoReason path number literal =
    (place : ℕ) → place < length path.literals → slice_index path.literals place ≡ literal
    → slice_index path.reasons place ≢ number

-- a number names a lemma that can go
pub record CanDrop (solver : Solver) (number : ℕ) : Type 0 where
  pub past : length solver.formula.now.clauses < number
  pub long : IsSomeAnd (clause_of solver.propagator.clauses number) (λ clause. 2 < length clause)
  pub unused : All (λ reason. reason ≢ number) solver.propagator.path.reasons
  pub half : lemmas solver.log + 2 ≤ 2 * live_lemmas solver.formula.now.clauses solver.log

-- lemmas were dropped, and none was learned
pub record IsReduced (old new : Solver) : Type 0 where
  pub formula : new.formula ≡ old.formula
  pub ready : IsReady new
  pub lemmas : lemmas new.log ≡ lemmas old.log
  pub words : log_words new.log ≡ log_words old.log
