pub use Rattle.clauses.specs.Logs
pub mod Claims
pub mod Faults
pub mod Limits
