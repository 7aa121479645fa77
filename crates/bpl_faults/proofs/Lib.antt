pub mod ExprSteps
pub mod ListedNames
pub mod ArgumentSteps
pub mod KnownGroups
pub mod VarLookup
