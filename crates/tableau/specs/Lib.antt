pub mod Counted
pub mod PartialView
pub mod Rules
pub mod RunView
pub mod Search
pub mod Settled
