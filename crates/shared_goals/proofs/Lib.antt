pub mod Histories
pub mod Openers
pub mod Besides
pub mod Crossing
