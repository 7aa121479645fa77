pub mod Limits
pub mod StmtFaults
pub mod BodyView
pub mod StackView
pub mod CallView
