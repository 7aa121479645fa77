pub mod Atoms
pub mod Putting
pub mod LongerStores
pub mod Zeros
pub mod Operands
pub mod Negations
mod Substituting
pub mod NormalParts
pub mod FromForms
pub mod Memos
