pub mod Ranges
pub mod Rows
pub mod FirstWritten
mod UnequalJoin
pub mod Renamed
pub mod Mentioned
pub mod Monotone
pub mod Lists
pub mod Agreeing
pub mod Values
pub mod Growing
pub mod Present
pub mod Commands
pub mod Meeting
pub mod DoneBlocks
pub mod Begins
pub mod Course
pub mod KeepsFailures
mod ReturnsEarly
