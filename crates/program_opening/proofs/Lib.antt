pub mod Texts
pub mod OwnNames
pub mod Sound
pub mod Openings
pub mod Counted
pub mod Spelled
pub mod SameDecls
