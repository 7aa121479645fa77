pub mod Refusals
pub mod Added
pub mod ContextCodes
pub mod ReadOf
pub mod Checked
pub mod Words
