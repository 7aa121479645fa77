pub mod Instances
pub mod Listed
pub mod MovesMade
pub mod NewVariables
pub mod Pairs
pub mod Rewritten
