pub mod Counted
pub mod StmtSteps
pub mod LabelSteps
pub mod CallSteps
