pub mod Reaching
pub mod NextNames
pub mod NextNumbers
pub mod InOrder
pub mod NeverFalling
pub mod ComingBack
