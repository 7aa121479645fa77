pub mod Members
pub mod Growing
pub mod Held
pub mod Deciding
pub mod Ending
pub mod Knowing
pub mod Working
