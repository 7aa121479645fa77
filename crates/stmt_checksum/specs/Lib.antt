pub mod Parts
pub mod PartsView
pub mod ContractDigests
pub mod Chain
pub mod SumLines
pub mod Sums
pub mod Laws
