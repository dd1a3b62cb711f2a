pub use Rattle.cdcl_conflict_theory.specs.Lemmas
pub use Rattle.cdcl_conflict_theory.specs.Trails
pub use Rattle.clauses.specs.Live
pub use Rattle.clauses.specs.Passing
pub mod Standings
pub mod Views
