pub mod Calls
pub mod Found
pub mod Rests
pub mod Between
pub mod Working
pub mod Laws
pub mod Made
pub mod Codes
