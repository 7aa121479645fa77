mod RuleExamples
mod PassedOver
mod WideExamples
pub mod Turns
pub mod Reversed
pub mod Counts
pub mod Tracked
pub mod OutsideSorts
pub mod Outcomes
pub mod Tightening
pub mod ClosingGoes
pub mod FlatteningGoes
pub mod Appending
pub mod RewritingGoes
pub mod UnfoldingGoes
pub mod SkolemGoes
pub mod SplittingGoes
pub mod TrichotomyGoes
pub mod ConditionGoes
pub mod PastGoes
pub mod InstantiatingGoes
pub mod CombiningGoes
pub mod Refuting
pub mod FoundWhereProved
pub mod Starting
pub mod Joined
pub mod Assembled
pub mod FirstRule
