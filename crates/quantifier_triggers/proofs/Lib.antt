mod MatchExamples
pub mod Rooted
pub mod MatchedParts
pub mod TupleSorts
mod Chosen
pub mod SameValue
pub mod SameValidity
pub mod Lists
pub mod Joining
pub mod Once
pub mod Choosing
pub mod Rules
pub mod SameSort
pub mod SortedObligations
