pub use Rattle.clauses.specs.Live
pub use Rattle.clauses.specs.Passing
pub mod Closing
pub mod Lemmas
pub mod Trails
