pub mod Generated
pub mod Request
pub mod RequestView
pub mod Reading
pub mod Names
pub mod Replies
pub mod ReplyView
