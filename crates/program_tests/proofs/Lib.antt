mod CutGraphs
pub mod WithoutGotos
mod ExampleTrees
mod NameFaultExamples
mod SortFaultExamples
mod PositionFaultExamples
mod ClauseFaultExamples
mod GotoFaultExamples
mod LabelExamples
