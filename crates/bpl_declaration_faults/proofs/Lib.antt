pub mod VarSteps
pub mod DeclSteps
