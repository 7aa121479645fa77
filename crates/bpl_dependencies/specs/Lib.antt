pub mod AppliedView
pub mod NamesAt
pub mod Rounds
pub mod Ranks
pub mod Reach
