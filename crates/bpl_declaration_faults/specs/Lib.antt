pub mod Variables
pub mod DeclFaults
pub mod DeclView
