pub mod Rounds
pub mod SoFar
pub mod Standing
