pub mod Modes
pub mod Numbers
pub mod Limits
pub mod Options
pub mod CommandLine
pub mod Reading
