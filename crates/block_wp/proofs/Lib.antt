mod EarlyReturn
pub mod Frame
pub mod Junctions
pub mod Reaching
pub mod Falling
pub mod Calls
pub mod SortedBlocks
pub mod Breaks
pub mod EquationsSorted
pub mod Tables
pub mod Rising
pub mod PassiveMade
pub mod PassiveSorted
pub mod PassiveObligations
pub mod SortedLaws
pub mod Sequents
