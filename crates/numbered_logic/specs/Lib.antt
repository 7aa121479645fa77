pub mod Apart
pub mod Denied
pub mod Exists
pub mod Forms
pub mod Found
