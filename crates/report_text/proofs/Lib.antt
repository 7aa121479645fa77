pub mod Counts
pub mod LinesIn
pub mod SaysCorrect
mod ReportExample
pub mod Ends
