pub mod Readings
pub mod Keeps
pub mod Steps
pub mod Replacing
pub mod Placed
mod Leaving
pub mod Named
