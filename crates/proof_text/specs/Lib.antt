pub mod Text
pub mod Reading
pub mod Digit
pub mod TermStates
pub mod States
pub mod Faults
pub mod RoundTrip
