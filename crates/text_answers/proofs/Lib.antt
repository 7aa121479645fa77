mod LineLengths
pub mod Unread
mod Ends
pub mod Worth
mod Answering
mod Commands
mod OneAnswer
