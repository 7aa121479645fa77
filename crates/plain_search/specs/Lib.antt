pub mod CombinedView
pub mod WaysView
