pub mod Faults
pub mod Formulas
pub mod Reading
pub mod Words
