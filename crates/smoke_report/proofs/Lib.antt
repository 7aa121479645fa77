mod PointsOfPrograms
mod Unreached
mod Shown
mod Named
mod NoGotos
mod Called
mod OverOthers
mod PointedGoals
mod Batches
mod Counts
pub mod Numbered
mod Lists
mod Steps
pub mod Found
pub mod StaysTyped
pub mod GoesForward
