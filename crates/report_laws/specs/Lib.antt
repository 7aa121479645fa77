pub mod Scratch
pub mod Called
pub mod Sound
pub mod Summary
pub mod Worth
