mod NoBranch
mod SameLines
mod Led
mod ChainEnds
mod GoalSums
mod SumEnds
