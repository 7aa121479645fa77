mod Unset
mod Lists
mod Blocks
mod RisingEdges
mod LoopEdges
mod SetVariables
pub mod SortedStates
pub mod Samples
mod EarlyReturn
