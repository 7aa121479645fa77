pub mod Growing
pub mod Later
pub mod EachOnce
mod Quotients
mod Occurrences
mod AtomsIn
mod Merging
mod Joining
mod OutsideWalk
mod Found
mod LeftSides
mod SameSorts
mod Coefficients
mod SortsKept
pub mod Indexes
pub mod AlikeSorts
pub mod AlikeForms
pub mod AlikeMemos
pub mod WidthBelow
mod SameHeads
