pub mod CombinedValues
pub mod CombinedSorts
pub mod CombinedFacts
pub mod Euclid
pub mod FallingSums
pub mod NormalFalls
pub mod CombinedFalls
pub mod TightFalls
