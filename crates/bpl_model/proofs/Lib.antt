mod Numbers
pub mod Members
mod Marks
mod MarksOf
mod MarkedRounds
pub mod NamesPut
pub mod NamedAt
mod Rows
mod Places
mod RisingNumbers
mod ReachedByMarks
pub mod Spelled
pub mod Programs
pub mod Inversion
mod BreaksOut
mod ReturnsEarly
mod NeedsPositive
mod SafeOnes
pub mod WithClauses
mod ClausesHold
pub mod Jumps
pub mod NumberLists
