pub mod Limits
pub mod Exit
pub mod Modes
pub mod Answer
pub mod Worth
pub mod Answered
pub mod Laws
