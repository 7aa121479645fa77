pub mod Ended
pub mod Packed
pub mod Rare
pub mod Tables
pub mod Stepped
pub mod First
