pub mod InOrder
pub mod Found
pub mod FaultExamples
pub mod InText
pub mod Position
