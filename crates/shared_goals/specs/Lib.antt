pub mod Known
pub mod Opener
pub mod Codes
pub mod Beside
pub mod Unused
