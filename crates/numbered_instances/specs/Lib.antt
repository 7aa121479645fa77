pub mod Instances
pub mod Candidates
pub mod Shared
pub mod Near
pub mod Lefts
pub mod Finding
pub mod Passed
