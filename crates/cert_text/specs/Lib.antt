pub use Rattle.cert_theory.specs.Printed
pub mod Evidence
pub mod Examples
