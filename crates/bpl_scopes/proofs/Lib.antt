pub mod FirstOfTwo
pub mod FirstFault
pub mod IsFirst
pub mod FirstAt
pub mod Shapes
pub mod SynonymRounds
mod GuessedSorts
pub mod TypeSteps
pub mod Declared
pub mod Logical
