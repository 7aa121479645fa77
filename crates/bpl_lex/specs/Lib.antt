pub mod Token
pub mod TokenView
pub mod Shape
pub mod Lexing
pub mod Front
pub mod Spelled
pub mod Fault
