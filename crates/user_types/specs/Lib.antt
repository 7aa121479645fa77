pub mod UserTypes
pub mod Erased
pub mod Views
pub mod CarrierFaults
