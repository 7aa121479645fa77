pub mod NameFaults
pub mod ExprFaults
pub mod VarCodes
pub mod VarsView
pub mod ScopeView
pub mod Arguments
