pub mod Codes
pub mod Marking
pub mod MarkingView
pub mod NfaView
pub mod Views
