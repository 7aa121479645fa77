pub mod Equations
pub mod Numbers
pub mod Broken
pub mod Sorted
