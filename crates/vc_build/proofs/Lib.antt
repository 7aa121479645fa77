pub mod Some
pub mod Chain
pub mod WithoutGotos
pub mod SortedGraphEdges
pub mod SortedGraphEntry
pub mod SortedGraphOver
pub mod SortedGraphTerms
pub mod SortedGraphOwn
pub mod SortedGraphBlocks
pub mod SortedGraph
pub mod MayPass
pub mod AxiomsHold
pub mod Composed
pub mod Limits
pub mod GoalsInOrder
pub mod SortedSequents
pub mod NamedAxioms
pub mod Chosen
pub mod AtNumber
mod Built
mod Texts
mod ClauseTexts
mod GotoTexts
mod TriggerTexts
mod DependencyTexts
mod FillsMap
mod FindsMax
mod GroupsOfClauses
mod JumpsAcrossLoops
mod TriggersOfAxioms
mod GraphMarks
mod BlockMarks
mod CallMarks
pub mod TextMarks
mod SortedGoals
mod ProvedGoals
