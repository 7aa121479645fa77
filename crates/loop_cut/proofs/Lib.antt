mod Loop
mod CutLoops
mod States
mod Mentioned
pub mod CutBlocks
mod StaysPlain
mod Frame
mod Alike
mod Walked
mod Edges
mod Simulated
mod Followed
mod Failing
mod EntryValues
