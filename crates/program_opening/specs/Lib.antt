pub mod ProcGoals
pub mod Opening
pub mod OpenedView
pub mod Spelled
pub mod Laws
pub mod NoUsers
