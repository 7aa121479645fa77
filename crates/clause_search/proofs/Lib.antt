pub mod Assembling
pub mod ByShape
pub mod FirstAt
pub mod Kept
pub mod Packing
pub mod Running
pub mod FirstFacts
pub mod Stepping
