pub mod Written
pub mod Kinds
pub mod Words
pub mod Faults
pub mod WrittenFault
pub mod FaultView
