pub mod Applied
pub mod Edited
pub mod Leaves
pub mod Laws
pub mod Refusals
pub mod Replaced
pub mod Seen
