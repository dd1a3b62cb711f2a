pub mod CanonicalText
