mod TermExamples
mod OrderExamples
mod SortExamples
mod NormalTables
mod FactExamples
mod ProofSizes
mod TriggerExamples
