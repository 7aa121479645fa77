pub mod FunctionNumbers
pub mod Implications
pub mod TermLists
pub mod BoundSorts
pub mod Runs
pub mod Nested
