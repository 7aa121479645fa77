mod Programs
mod Requests
mod ReplyBytes
pub mod Joined
pub mod Gathered
pub mod NewNames
pub mod NoFloats
pub mod ReadLines
pub mod SeenNames
