mod Exchanges
mod TypedSorts
pub mod ExchangedValues
pub mod SortReadings
pub mod TypedTerms
pub mod ReadTypes
pub mod NumberedTypes
pub mod AlikeScopes
pub mod TypedParts
pub mod TypedStmts
pub mod TypedVars
pub mod TypedClauses
pub mod TypedProcs
pub mod NarrowedHeads
pub mod TypedFunctions
pub mod TypedModules
mod NestedTypes
mod OrderedHeads
mod AnsweredTypes
mod ProcedureLists
