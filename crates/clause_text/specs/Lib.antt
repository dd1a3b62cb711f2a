pub use Rattle.clauses.specs.Logs
pub mod Adding
pub mod Lines
pub mod Readings
pub mod Words
