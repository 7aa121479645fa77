pub mod ObligationCodes
pub mod Numbers
pub mod Text
pub mod Numbering
pub mod Canonical
pub mod Asked
pub mod Places
