mod TextExamples
pub mod Printed
pub mod Nested
pub mod NumberTexts
pub mod NumbersComplete
pub mod TermsShown
pub mod TermSteps
pub mod StepsShown
pub mod Endings
pub mod TermsComplete
pub mod ProofsComplete
pub mod BadPlaces
pub mod Reader
pub mod Finished
pub mod RoundTrip
