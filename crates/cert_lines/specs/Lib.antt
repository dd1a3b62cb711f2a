pub use Rattle.clauses.specs.Logs
pub mod Clauses
pub mod Fields
pub mod Readings
pub mod Sections
