pub mod Mapped
pub mod WithoutBody
mod FoundProofs
mod NamedProcs
mod SpelledNames
mod CorrectProcs
pub mod Programs
mod ProvedSafe
