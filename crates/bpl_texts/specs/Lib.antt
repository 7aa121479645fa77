pub mod Uses
pub mod Leads
