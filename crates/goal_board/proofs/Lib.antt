pub mod Played
pub mod Shown
pub mod Betweens
pub mod Gathering
pub mod ByItself
pub mod Making
