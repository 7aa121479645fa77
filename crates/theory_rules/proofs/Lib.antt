pub mod Attempting
pub mod CombinedPairs
pub mod CountedForms
pub mod FirstChoice
pub mod Given
pub mod Multipliers
pub mod Tried
