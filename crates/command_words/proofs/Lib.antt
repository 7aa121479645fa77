pub mod Digits
pub mod Refused
pub mod WordLists
