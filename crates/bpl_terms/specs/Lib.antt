pub mod Terms
pub mod TermParts
