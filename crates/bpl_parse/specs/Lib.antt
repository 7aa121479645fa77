pub mod FaultView
pub mod InText
pub mod Answer
pub mod Seen
pub mod SeenStatements
pub mod SeenDeclarations
pub mod Program
