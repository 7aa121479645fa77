pub mod Listed
pub mod NoneTaken
