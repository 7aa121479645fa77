pub mod Tree
pub mod Codes
pub mod Variant
pub mod Value
pub mod Def
pub mod Wide
pub mod Same
pub mod Sorts
