pub mod Report
pub mod Called
pub mod Correct
