pub mod Appending
pub mod Extending
pub mod Listed
pub mod Made
pub mod Judging
pub mod Combining
pub mod Deciding
