pub mod Match
pub mod MatchLaws
pub mod Candidates
pub mod Choice
pub mod Kept
